use Rattle.std.proofs.Common.{length, take, ◌-◌}
use Rattle.tile_body.proofs.Added.{AreInOrder}
use Rattle.tile_body.proofs.holding.holds_members.Given as goal

-- those that were tested are in order
abbrev pub invariant-loop-i : goal.invariant-loop-i
invariant-loop-i l = AreInOrder l.tile.interval (take l.i l.records.records)

abbrev pub decreases-loop-i : goal.decreases-loop-i
decreases-loop-i l = length l.records.records - l.i
