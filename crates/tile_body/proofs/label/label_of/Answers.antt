use Rattle.std.proofs.Common.{◌∙◌, sym, ap}
use Rattle.mf_rows.specs.declared.head.Head.{Head}
use Rattle.map_model.specs.Layout.{step}
use Rattle.tile_body.proofs.Wayside.{no-mark, not-closed, labelled}
use Rattle.tile_body.proofs.label.label_of.Goals as goal

pub returns-then-is_same-clause-label : goal.returns-then-is_same-clause-label
returns-then-is_same-clause-label c =
    labelled c.args.view.now c.ends_of_first_ring.result.0 c.ends_of_first_ring.result.1 c.args.rect.now
    c.step_between.result (ap (λ (h : Head). h.label) (sym c.head.ensures) ∙ c.if-head.true)
    c.ends_of_first_ring.ensures.closed (sym c.is_same.ensures ∙ c.if-is_same.true) c.ends_of_first_ring.ensures.first
    c.requires.rect (c.step_between.ensures.step ∙ ap (step c.ends_of_first_ring.result.0) c.middle.ensures)

pub returns-else-is_same-clause-label : goal.returns-else-is_same-clause-label
returns-else-is_same-clause-label c =
    not-closed c.args.view.now c.ends_of_first_ring.result.0 c.ends_of_first_ring.result.1
    (ap (λ (h : Head). h.label) (sym c.head.ensures) ∙ c.if-head.true) c.ends_of_first_ring.ensures.closed
    (sym c.is_same.ensures ∙ c.if-is_same.false)

pub returns-else-head-clause-label : goal.returns-else-head-clause-label
returns-else-head-clause-label c =
    no-mark c.args.view.now (ap (λ (h : Head). h.label) (sym c.head.ensures) ∙ c.if-head.false)
