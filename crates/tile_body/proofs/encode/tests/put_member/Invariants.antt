use Rattle.std.proofs.Common.{◌≡◌}
use Rattle.tile_body.proofs.encode.tests.put_member.Given as goal

-- the room is as before
abbrev pub invariant-loop-ring : goal.invariant-loop-ring
invariant-loop-ring l = l.records.capacity ≡ l.fn.records.capacity
