use Rattle.std.proofs.Common.{◌≡◌, length}
use Rattle.feature_model.specs.Blocks.{places}
use Rattle.tile_index.specs.Walks.{last_of}
use Rattle.tile_index.proofs.water.last_place.Given as goal

abbrev pub invariant-loop-place : goal.invariant-loop-place
invariant-loop-place l = last_of l.last (places l.points) ≡ last_of l.fn.first (places l.fn.points)

abbrev pub decreases-loop-place : goal.decreases-loop-place
decreases-loop-place l = length l.points
