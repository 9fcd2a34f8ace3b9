use Rattle.std.proofs.Common.{◌≡◌}
use Rattle.tile_body.proofs.encode.tests.begin.Given as goal

-- the room is as before
abbrev pub invariant-loop-i : goal.invariant-loop-i
invariant-loop-i l = l.records.capacity ≡ l.fn.records.capacity
