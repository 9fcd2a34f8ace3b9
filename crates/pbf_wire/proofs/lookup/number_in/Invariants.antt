use Rattle.std.proofs.Common.{◌≡◌, length}
use Rattle.osm_model.specs.Wire.{fields}
use Rattle.osm_model.specs.Tables.{number_of}
use Rattle.pbf_wire.specs.Lookup.{numbers_behind}
use Rattle.pbf_wire.proofs.lookup.number_in.Given as goal

-- the last number so far, where none follows
abbrev pub invariant-loop-field : goal.invariant-loop-field
invariant-loop-field l =
    number_of l.number (fields l.message).items ≡ numbers_behind l.last l.number (fields l.fields).items

abbrev pub decreases-loop-field : goal.decreases-loop-field
decreases-loop-field l = length l.fields
