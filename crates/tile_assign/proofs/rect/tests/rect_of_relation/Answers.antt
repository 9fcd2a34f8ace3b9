use Rattle.tile_assign.proofs.Drawn.{relation-drawn}
use Rattle.tile_assign.proofs.rect.tests.rect_of_relation.Goals as goal

pub rect_of_drawn-requires : goal.rect_of_drawn-requires
rect_of_drawn-requires c =
    relation-drawn c.part_unit.result c.point_unit.result c.point_unit-2.result c.part_unit-2.result
    c.point_unit-3.result c.point_unit-4.result c.part_unit.ensures c.part_unit-2.ensures
