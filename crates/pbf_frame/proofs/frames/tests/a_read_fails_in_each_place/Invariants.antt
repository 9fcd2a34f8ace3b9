use Rattle.std.proofs.Common.{◌≤◌}
use Rattle.pbf_frame.proofs.frames.tests.a_read_fails_in_each_place.Given as goal

-- the block has room for the longest Blob
abbrev pub invariant-loop-read : goal.invariant-loop-read
invariant-loop-read g l = 33554432 ≤ l.block.capacity
