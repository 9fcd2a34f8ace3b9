use Rattle.std.proofs.Common.{length}
use Rattle.way_delta.proofs.Walked.{Measures}
use Rattle.way_delta.proofs.measure.measure_later.Given as goal

-- what is measured and what is left is the size of all
abbrev pub invariant-loop-place : goal.invariant-loop-place
invariant-loop-place l = Measures l.single l.double l.before l.last l.points l.fn.points l.fn.first

abbrev pub decreases-loop-place : goal.decreases-loop-place
decreases-loop-place l = length l.points
