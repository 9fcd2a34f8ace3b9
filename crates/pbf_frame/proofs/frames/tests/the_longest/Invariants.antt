use Rattle.std.proofs.Common.{◌≤◌}
use Rattle.pbf_frame.proofs.frames.tests.the_longest.Given as goal

-- the block has room for the longest Blob
abbrev pub invariant-loop-front : goal.invariant-loop-front
invariant-loop-front g l = 33554432 ≤ l.block.capacity
