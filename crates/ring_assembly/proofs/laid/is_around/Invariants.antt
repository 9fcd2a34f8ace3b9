use Rattle.std.proofs.Common.{◌≡◌, ◌∷◌, [], length}
use Rattle.feature_model.specs.Blocks.{places}
use Rattle.feature_model.specs.Inside.{is_one_of, inside}
use Rattle.ring_assembly.specs.Edges.{from_last}
use Rattle.ring_assembly.specs.Marked.{points_in}
use Rattle.ring_assembly.proofs.laid.is_around.Given as goal

abbrev pub invariant-loop-unit : goal.invariant-loop-unit
invariant-loop-unit l = is_one_of l.odd (inside (from_last l.last (places (points_in l.left)) ∷ []) l.p)
    ≡ inside (places (points_in l.points) ∷ []) l.p

abbrev pub decreases-loop-unit : goal.decreases-loop-unit
decreases-loop-unit l = length l.left
