use Rattle.std.proofs.Common.{◌∙◌, sym, ap}
use Rattle.tile_assign.proofs.Growing.{begun, shown_first}
use Rattle.tile_assign.proofs.rect.rect_of_rings.Goals as goal

pub loop-points-init : goal.loop-points-init
loop-points-init c =
    begun c.args.rings c.unwrap-points.result.0 c.unwrap-points.result.1 c.next-2.new.self c.unwrap.result
    c.next.new.self c.around.result c.with_points-rect.result
    (sym (ap shown_first c.unwrap-points.ensures) ∙ c.next.ensures.first) c.next.ensures.rest
    (sym c.unwrap.ensures ∙ c.next-2.ensures.first) c.next-2.ensures.rest c.around.ensures c.with_points-rect.ensures
