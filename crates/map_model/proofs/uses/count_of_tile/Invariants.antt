use Rattle.std.proofs.Common.{length, ◌-◌}
use Rattle.map_model.proofs.Using.{KeysSeen}
use Rattle.map_model.proofs.uses.count_of_tile.Given as goal

abbrev pub invariant-loop-n : goal.invariant-loop-n
invariant-loop-n l = KeysSeen l.tile l.keys l.n

abbrev pub decreases-loop-n : goal.decreases-loop-n
decreases-loop-n l = length l.keys - l.n
