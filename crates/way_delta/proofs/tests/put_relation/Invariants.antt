use Rattle.std.proofs.Common.{◌≡◌}
use Rattle.way_delta.proofs.tests.put_relation.Given as goal

-- the room is as before
abbrev pub invariant-loop-i : goal.invariant-loop-i
invariant-loop-i l = l.records.capacity ≡ l.fn.records.capacity

-- the room is as before
abbrev pub invariant-loop-ring : goal.invariant-loop-ring
invariant-loop-ring l = l.records.capacity ≡ l.fn.records.capacity
