use Rattle.std.proofs.Common.{length}
use Rattle.mf_rows.proofs.Walked.{AreLeft}
use Rattle.mf_rows.proofs.told.last_of.Given as goal

abbrev pub invariant-loop-first : goal.invariant-loop-first
invariant-loop-first l = AreLeft l.units l.left l.last

abbrev pub decreases-loop-first : goal.decreases-loop-first
decreases-loop-first l = length l.left
