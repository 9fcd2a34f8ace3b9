use Rattle.std.proofs.Common.{◌∙◌, ap, sym}
use Rattle.mf_rows.specs.declared.head.Head.{Head}
use Rattle.tile_body.proofs.Wayside.{bits-coast, bits-rect}
use Rattle.tile_body.proofs.way.bits_of.Goals as goal

pub returns-then-head : goal.returns-then-head
returns-then-head c =
    bits-coast c.args.view.now c.args.tile.now (ap (λ (h : Head). h.coast) (sym c.head.ensures) ∙ c.if-head.true)

pub returns-else-head : goal.returns-else-head
returns-else-head c =
    bits-rect c.args.view.now c.args.tile.now c.args.rect.now c.bitmap.result
    (ap (λ (h : Head). h.coast) (sym c.head.ensures) ∙ c.if-head.false) c.requires.rect c.bitmap.ensures
