use Rattle.std.proofs.Common.{◌≡◌, length}
use Rattle.osm_model.specs.Wire.{fields}
use Rattle.osm_model.specs.Tables.{bytes_of}
use Rattle.pbf_wire.proofs.FieldWalk.{IsBehind}
use Rattle.pbf_wire.proofs.lookup.bytes_place.Given as goal

-- the fields before had no such bytes
abbrev pub invariant-loop-field : goal.invariant-loop-field
invariant-loop-field l = (bytes_of l.number (fields l.message).items ≡ bytes_of l.number (fields l.fields).items)
    × IsBehind l.message l.fields

abbrev pub decreases-loop-field : goal.decreases-loop-field
decreases-loop-field l = length l.fields
