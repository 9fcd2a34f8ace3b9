use Rattle.std.proofs.Common.{◌≡◌}
use Rattle.tile_body.proofs.encode.tests.put_members.Given as goal

-- the room is as before
abbrev pub invariant-loop-member : goal.invariant-loop-member
invariant-loop-member l = l.records.capacity ≡ l.fn.records.capacity
