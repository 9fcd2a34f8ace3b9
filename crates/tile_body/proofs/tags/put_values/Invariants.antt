use Rattle.std.proofs.Common.{length, ◌-◌}
use Rattle.tile_body.proofs.TagBytes.{PutsValues}
use Rattle.tile_body.proofs.tags.put_values.Given as goal

-- what is still to be put completes the values
abbrev pub invariant-loop-at : goal.invariant-loop-at
invariant-loop-at l = PutsValues l.view.texts l.view.head.tags.items l.out l.fn.out l.at

abbrev pub decreases-loop-at : goal.decreases-loop-at
decreases-loop-at l = length l.view.head.tags.items - l.at
