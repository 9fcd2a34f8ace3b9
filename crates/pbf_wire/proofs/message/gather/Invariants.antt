use Rattle.std.proofs.Common.{◌≡◌, ℕ, Some, length}
use Rattle.std.specs.Prelude.{slice_index_or}
use Rattle.osm_model.specs.Wire.{fields}
use Rattle.pbf_wire.specs.Check.{place_in}
use Rattle.pbf_wire.specs.Message.{FoundSoFar, nothing}
use Rattle.pbf_wire.proofs.FieldWalk.{IsBehind}
use Rattle.pbf_wire.proofs.message.gather.Given as goal

-- what was found of the fields before
abbrev pub invariant-loop-field : goal.invariant-loop-field
invariant-loop-field l = record {
  same : length l.all ≡ length l.rules;
  behind : IsBehind l.bytes l.fields;
  found : (k at : ℕ) → place_in l.rules k ≡ Some at
      → FoundSoFar l.bytes (fields l.bytes).items k (slice_index_or l.all at nothing) (fields l.fields).items;
}

abbrev pub decreases-loop-field : goal.decreases-loop-field
decreases-loop-field l = length l.fields
