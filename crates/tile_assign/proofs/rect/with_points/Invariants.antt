use Rattle.std.proofs.Common.{◌≡◌, length}
use Rattle.tile_assign.specs.GrowingRects.{with_points}
use Rattle.tile_assign.proofs.rect.with_points.Given as goal

abbrev pub invariant-loop-place : goal.invariant-loop-place
invariant-loop-place l = with_points l.all l.points ≡ with_points l.fn.rect l.fn.points

abbrev pub decreases-loop-place : goal.decreases-loop-place
decreases-loop-place l = length l.points
