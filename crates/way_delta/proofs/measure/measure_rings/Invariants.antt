use Rattle.std.proofs.Common.{length}
use Rattle.way_delta.proofs.Rings.{MeasuresRings}
use Rattle.way_delta.proofs.measure.measure_rings.Given as goal

-- what is measured and what is left is the size of all
abbrev pub invariant-loop-points : goal.invariant-loop-points
invariant-loop-points l = MeasuresRings l.single l.double l.corner l.rings l.fn.rings

abbrev pub decreases-loop-points : goal.decreases-loop-points
decreases-loop-points l = length l.rings
