use Rattle.std.proofs.Common.{sym, ◌∙◌}
use Rattle.mf_base.proofs.WordReading.{cut-shorter, name-found, name-next, name-last, name-not}
use Rattle.mf_base.proofs.words.is_name.Goals as goal

pub loop-first-smaller : goal.loop-first-smaller
loop-first-smaller c = cut-shorter 44 c.loop-first.rest.now _ _ (sym c.in-Some.ensures)

pub loop-first-preserved : goal.loop-first-preserved
loop-first-preserved c =
    c.loop-first.invariant ∙ name-next c.loop-first.rest.now c.args.name.now _ _ (sym c.in-Some.ensures) c.if-eq.ensures

pub returns-then-eq : goal.returns-then-eq
returns-then-eq c = name-found c.loop-first.rest.now c.args.name.now _ _ _ c.is_empty.ensures (sym c.in-Some.ensures)
    c.if-eq.ensures ∙ sym c.loop-first.invariant

pub returns-then-eq-2 : goal.returns-then-eq-2
returns-then-eq-2 c =
    name-last c.loop-first.rest.now c.args.name.now _ c.is_empty-then-eq-2.ensures c.in_default.ensures
    c.if-eq-2.ensures ∙ sym c.loop-first.invariant

pub returns-else-eq-2 : goal.returns-else-eq-2
returns-else-eq-2 c =
    c.if-eq-2.false ∙ (name-not c.loop-first.rest.now c.args.name.now c.in_default.ensures c.if-eq-2.ensures
    ∙ sym c.loop-first.invariant)
