use Rattle.std.proofs.Common.{length}
use Rattle.way_delta.proofs.Rings.{PutsRings}
use Rattle.way_delta.proofs.put.put_rings.Given as goal

-- what is still to be put completes the rings
abbrev pub invariant-loop-role : goal.invariant-loop-role
invariant-loop-role l = PutsRings l.out l.fn.out l.corner l.double l.rings l.ahead l.fn.rings

abbrev pub decreases-loop-role : goal.decreases-loop-role
decreases-loop-role l = length l.rings
