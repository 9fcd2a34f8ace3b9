use Rattle.std.proofs.Common.{◌≡◌, ◌≤◌, length}
use Rattle.osm_model.specs.Wire.{fields}
use Rattle.osm_model.specs.Tables.{bytes_of}
use Rattle.pbf_wire.proofs.walk.next_bytes.Given as goal

-- the fields before had no such bytes
abbrev pub invariant-loop-field : goal.invariant-loop-field
invariant-loop-field l = record {
  same : bytes_of l.number (fields l.fn.left).items ≡ bytes_of l.number (fields l.left).items;
  shorter : length l.left ≤ length l.fn.left;
}

abbrev pub decreases-loop-field : goal.decreases-loop-field
decreases-loop-field l = length l.left
