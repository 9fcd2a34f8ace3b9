use Rattle.std.proofs.Common.{◌≡◌, List, true, length}
use Rattle.mf_base.specs.Texts.{Text}
use Rattle.mf_base.specs.Steps.{fault_of}
use Rattle.mf_base.specs.Packed.{are_varints, packed_numbers}
use Rattle.osm_model.specs.Objects.{indexed_tags}
use Rattle.osm_entity.proofs.tags.check_tags.Given as goal

-- the tags before had no fault
abbrev pub invariant-loop-key : goal.invariant-loop-key
invariant-loop-key l = record {
  same : (strings : List Text) → length strings ≡ l.count
      → fault_of (indexed_tags strings (packed_numbers l.keys) (packed_numbers l.vals))
      ≡ fault_of (indexed_tags strings (packed_numbers l.left_keys) (packed_numbers l.left_vals));
  keys : are_varints l.left_keys ≡ true;
  vals : are_varints l.left_vals ≡ true;
}

abbrev pub decreases-loop-key : goal.decreases-loop-key
decreases-loop-key l = length (packed_numbers l.left_keys)
