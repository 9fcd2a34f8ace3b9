use Rattle.mercator_rows.proofs.Series.{Sums}
use Rattle.mercator_rows.proofs.latitude.arc_tangent.Given as goal

abbrev pub invariant-loop-i : goal.invariant-loop-i
invariant-loop-i l = Sums l.t l.i l.power l.added l.subtracted
