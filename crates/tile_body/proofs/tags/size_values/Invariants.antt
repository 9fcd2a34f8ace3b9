use Rattle.std.proofs.Common.{length, ◌-◌}
use Rattle.tile_body.proofs.TagBytes.{MeasuresValues}
use Rattle.tile_body.proofs.tags.size_values.Given as goal

-- what is measured and what is left is the size of all
abbrev pub invariant-loop-at : goal.invariant-loop-at
invariant-loop-at l = MeasuresValues l.view.texts l.view.head.tags.items l.size l.at

abbrev pub decreases-loop-at : goal.decreases-loop-at
decreases-loop-at l = length l.view.head.tags.items - l.at
