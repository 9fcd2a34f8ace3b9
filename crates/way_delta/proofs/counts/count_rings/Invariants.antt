use Rattle.std.proofs.Common.{length}
use Rattle.way_delta.proofs.Rings.{CountsRings}
use Rattle.way_delta.proofs.counts.count_rings.Given as goal

-- what is counted and what is left are the counts of all
abbrev pub invariant-loop-role : goal.invariant-loop-role
invariant-loop-role l = CountsRings l.counts.blocks l.counts.size l.rings l.ahead l.fn.rings

abbrev pub decreases-loop-role : goal.decreases-loop-role
decreases-loop-role l = length l.rings
