use Rattle.std.proofs.Common.{◌∙◌, sym, ap}
use Rattle.mf_base.specs.TagCursor.{tags_left}
use Rattle.mf_base.specs.Tags.{value_of as value_in}
use Rattle.tag_mapping.proofs.Looking.{value-here, value-later, value-none}
use Rattle.tag_mapping.proofs.lookup.value_of.Goals as goal

pub returns-then-eq : goal.returns-then-eq
returns-then-eq c =
    sym (c.loop-at.invariant ∙ value-here c.args.key.now c.in-Some.at.now c.in-Some.value.now (tags_left c.loop-at.left)
    c.in-Some.ensures.first (sym c.eq.ensures ∙ c.if-eq.true))

pub loop-at-preserved : goal.loop-at-preserved
loop-at-preserved c =
    c.loop-at.invariant ∙ (value-later c.args.key.now c.in-Some.at.now c.in-Some.value.now (tags_left c.loop-at.left)
    c.in-Some.ensures.first (sym c.eq.ensures ∙ c.if-eq.false)
    ∙ ap (value_in c.args.key.now) (sym c.next.ensures.rest))

pub returns : goal.returns
returns c = sym (c.loop-at.invariant ∙ value-none c.args.key.now (tags_left c.loop-at.left) c.in_default.ensures.first)
