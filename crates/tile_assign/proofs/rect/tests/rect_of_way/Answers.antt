use Rattle.tile_assign.proofs.Drawn.{way-drawn}
use Rattle.tile_assign.proofs.rect.tests.rect_of_way.Goals as goal

pub rect_of_drawn-requires : goal.rect_of_drawn-requires
rect_of_drawn-requires c =
    way-drawn c.part_unit.result c.point_unit.result c.point_unit-2.result c.part_unit.ensures
