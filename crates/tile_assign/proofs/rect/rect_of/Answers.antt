use Rattle.std.proofs.Common.{◌≡◌, ◌⊎◌, ◌∙◌, sym, ap, subst}
use Rattle.mf_base.specs.declared.kind.EntityKind.{EntityKind}
use Rattle.mf_rows.specs.declared.head.Head.{Head}
use Rattle.tile_assign.specs.GrowingRects as growing
use Rattle.tile_assign.proofs.Growing.{rect-of_node, rect-of_way, earth-told}
use Rattle.tile_assign.proofs.rect.rect_of.Goals as goal

pub returns-in-Node-clause-rect : goal.returns-in-Node-clause-rect
returns-in-Node-clause-rect c =
    rect-of_node c.args.view.now c.unwrap.result c.around.result
    (ap (λ (h : Head). h.kind) (sym c.head.ensures) ∙ c.in-Node.is) (sym c.unwrap.ensures ∙ c.point.ensures)
    c.around.ensures

pub returns-in-Way : goal.returns-in-Way
returns-in-Way c =
    let kind = subst (λ (h : Head). (h.kind ≡ EntityKind.Way) ⊎ (h.kind ≡ EntityKind.Relation)) c.head.ensures
    c.in-Way.is in
    let rect = rect-of_way c.args.view.now c.rect_of_rings.result c.requires.feature kind
    (c.rect_of_rings.ensures ∙ ap growing.rect_of_rings c.rings.ensures) in
    record { rect = rect; on_earth = earth-told c.args.view.now c.rect_of_rings.result rect }
