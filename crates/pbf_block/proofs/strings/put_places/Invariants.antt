use Rattle.std.proofs.Common.{◌≡◌, length}
use Rattle.std.specs.Prelude.{slice_range, vec_capacity}
use Rattle.pbf_block.proofs.StringReads.{IndexedSoFar}
use Rattle.pbf_block.proofs.strings.put_places.Given as goal

-- the entries before have their places, and which of them is the first that is no text
abbrev pub invariant-loop-field : goal.invariant-loop-field
invariant-loop-field l = record {
  so : IndexedSoFar l.block (slice_range l.block l.start l.end) l.places.items l.bad l.left;
  capacity : vec_capacity l.places ≡ vec_capacity l.fn.places;
}

abbrev pub decreases-loop-field : goal.decreases-loop-field
decreases-loop-field l = length l.left
