use Rattle.std.proofs.Common.{◌≡◌, ◌⊎◌, ◌∙◌, sym, ap, subst}
use Rattle.mf_base.specs.declared.kind.EntityKind.{EntityKind}
use Rattle.mf_rows.specs.declared.head.Head.{Head}
use Rattle.tile_index.proofs.Rings.{node-covers, covers-then, covers-else}
use Rattle.tile_index.proofs.water.covers.Goals as goal

pub returns-in-Node : goal.returns-in-Node
returns-in-Node c =
    node-covers c.args.place.now c.args.view.now (ap (λ (h : Head). h.kind) (sym c.head.ensures) ∙ c.in-Node.is)

pub returns-then-head : goal.returns-then-head
returns-then-head c =
    let kind = subst (λ (h : Head). (h.kind ≡ EntityKind.Way) ⊎ (h.kind ≡ EntityKind.Relation)) c.head.ensures
    c.in-Way.is in
    covers-then c.args.place.now c.args.view.now c.requires.feature kind c.rings_cover.result c.rings_cover.ensures
    (ap (λ (h : Head). h.water) (sym c.head-in-Way.ensures) ∙ c.if-head.true)

pub returns-else-head : goal.returns-else-head
returns-else-head c =
    let kind = subst (λ (h : Head). (h.kind ≡ EntityKind.Way) ⊎ (h.kind ≡ EntityKind.Relation)) c.head.ensures
    c.in-Way.is in
    ap (λ (h : Head). h.water) c.head-in-Way.ensures
    ∙ covers-else c.args.place.now c.args.view.now c.requires.feature kind
    (ap (λ (h : Head). h.water) (sym c.head-in-Way.ensures) ∙ c.if-head.false)
