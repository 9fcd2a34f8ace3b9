use Rattle.std.proofs.Common.{◌≤◌}
use Rattle.pbf_frame.proofs.frames.tests.blobs_in_order.Given as goal

-- the block has room for the longest Blob
abbrev pub invariant-loop-blobs : goal.invariant-loop-blobs
invariant-loop-blobs g l = 33554432 ≤ l.block.capacity
