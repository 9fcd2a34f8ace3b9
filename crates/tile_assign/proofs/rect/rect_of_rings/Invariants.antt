use Rattle.std.proofs.Common.{◌≡◌, length}
use Rattle.tile_assign.specs.GrowingRects.{with_rings, rect_of_rings}
use Rattle.tile_assign.proofs.rect.rect_of_rings.Given as goal

abbrev pub invariant-loop-points : goal.invariant-loop-points
invariant-loop-points l = with_rings l.rect l.rings ≡ rect_of_rings l.fn.rings

abbrev pub decreases-loop-points : goal.decreases-loop-points
decreases-loop-points l = length l.rings
