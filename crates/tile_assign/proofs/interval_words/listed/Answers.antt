use Rattle.std.proofs.Common.{sym, subst}
use Rattle.mf_base.proofs.WordReading.{cut-shorter}
use Rattle.tile_assign.proofs.Listed.{HasRead, read-more, read-last, refused-more, refused-last}
use Rattle.tile_assign.proofs.interval_words.listed.Goals as goal

pub loop-first-smaller : goal.loop-first-smaller
loop-first-smaller c = cut-shorter 44 c.loop-first.rest.now _ _ (sym c.in-Some.ensures)

pub loop-first-preserved : goal.loop-first-preserved
loop-first-preserved c =
    let pushed = c.push_interval.ensures.pushed c.if-not-push_interval.false in
    subst (HasRead c.args.text.now c.in-Some.more.now) (sym pushed.2)
    (read-more c.args.text.now c.loop-first.rest.now c.in-Some.first.now c.in-Some.more.now c.loop-first.all.items
    pushed.0 c.loop-first.invariant c.in-Some.ensures pushed.1 pushed.3)

pub returns-then-not-push_interval : goal.returns-then-not-push_interval
returns-then-not-push_interval c =
    refused-more c.args.text.now c.loop-first.rest.now _ _ c.loop-first.all.items c.loop-first.invariant
    c.in-Some.ensures (c.push_interval.ensures.refused c.if-not-push_interval.true)

pub returns-then-push_interval : goal.returns-then-push_interval
returns-then-push_interval c =
    let pushed = c.push_interval-2.ensures.pushed c.if-push_interval.true in
    rw pushed.2 (read-last c.args.text.now c.loop-first.rest.now c.loop-first.all.items pushed.0
    c.loop-first.invariant c.in_default.ensures pushed.1)

pub returns-else-push_interval : goal.returns-else-push_interval
returns-else-push_interval c =
    refused-last c.args.text.now c.loop-first.rest.now c.loop-first.all.items c.loop-first.invariant
    c.in_default.ensures (c.push_interval-2.ensures.refused c.if-push_interval.false)
