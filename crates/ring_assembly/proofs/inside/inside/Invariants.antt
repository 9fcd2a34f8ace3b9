use Rattle.std.proofs.Common.{◌≡◌, length}
use Rattle.feature_model.specs.Inside.{is_one_of, inside}
use Rattle.ring_assembly.specs.Edges.{part_rings}
use Rattle.ring_assembly.proofs.inside.inside.Given as goal

abbrev pub invariant-loop-points : goal.invariant-loop-points
invariant-loop-points l = is_one_of l.odd (inside (part_rings l.rings) l.p) ≡ inside (part_rings l.fn.rings) l.p

abbrev pub decreases-loop-points : goal.decreases-loop-points
decreases-loop-points l = length l.rings
