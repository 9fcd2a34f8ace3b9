use Rattle.std.proofs.Common.{◌≤◌}
use Rattle.pbf_frame.proofs.frames.tests.wrong_behind.Given as goal

-- the block has room for the longest Blob
abbrev pub invariant-loop-rest : goal.invariant-loop-rest
invariant-loop-rest l = 33554432 ≤ l.block.capacity
