use Rattle.std.proofs.Common.{◌≡◌}
use Rattle.tile_body.proofs.encode.tests.put_ring.Given as goal

-- the room is as before
abbrev pub invariant-loop-lat : goal.invariant-loop-lat
invariant-loop-lat l = l.records.capacity ≡ l.fn.records.capacity
