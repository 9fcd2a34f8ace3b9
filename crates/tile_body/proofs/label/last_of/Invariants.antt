use Rattle.std.proofs.Common.{◌≡◌, length}
use Rattle.tile_body.specs.Ways.{last_from}
use Rattle.tile_body.proofs.label.last_of.Given as goal

abbrev pub invariant-loop-place : goal.invariant-loop-place
invariant-loop-place l = last_from l.last l.points ≡ last_from l.fn.first l.fn.points

abbrev pub decreases-loop-place : goal.decreases-loop-place
decreases-loop-place l = length l.points
