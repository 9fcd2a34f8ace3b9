use Rattle.std.proofs.Common.{◌≡◌, ◌∷◌, [], length}
use Rattle.feature_model.specs.Blocks.{places}
use Rattle.feature_model.specs.Inside.{is_one_of, inside}
use Rattle.ring_assembly.specs.Edges.{from_last}
use Rattle.ring_assembly.proofs.inside.is_in_ring.Given as goal

abbrev pub invariant-loop-place : goal.invariant-loop-place
invariant-loop-place l = is_one_of l.odd (inside (from_last l.last (places l.points) ∷ []) l.p)
    ≡ inside (places l.fn.points ∷ []) l.p

abbrev pub decreases-loop-place : goal.decreases-loop-place
decreases-loop-place l = length l.points
