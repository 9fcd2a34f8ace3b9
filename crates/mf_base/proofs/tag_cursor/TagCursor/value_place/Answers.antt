use Rattle.std.proofs.Common.{◌∙◌, sym, ap, Some}
use Rattle.std.specs.Prelude.{bytes_eq}
use Rattle.mf_base.specs.Tags.{value_of}
use Rattle.mf_base.specs.Entries.{entry_tags}
use Rattle.mf_base.proofs.EntryLaws.{value-none, value-first, value-others, first-entry}
use Rattle.mf_base.proofs.tag_cursor.TagCursor.value_place.Goals as goal

pub returns-then-eq-clause-value : goal.returns-then-eq-clause-value
returns-then-eq-clause-value c =
    let self = c.args.self.now in
    let same = ap (λ t. bytes_eq t c.args.key.now) (sym c.text.ensures) ∙ sym c.eq.ensures ∙ c.if-eq.true in
    sym (c.loop-at.invariant.same
    ∙ value-first self.block.now self.strings.now c.args.key.now _ _ _ c.in-Some.ensures.pairs same
    ∙ ap Some (sym c.place.ensures.text))

pub loop-at-preserved : goal.loop-at-preserved
loop-at-preserved c =
    let self = c.args.self.now in
    let other = ap (λ t. bytes_eq t c.args.key.now) (sym c.text.ensures) ∙ sym c.eq.ensures ∙ c.if-eq.false in
    record {
      same = c.loop-at.invariant.same
          ∙ value-others self.block.now self.strings.now c.args.key.now _ _ _ c.in-Some.ensures.pairs other;
      whole = c.in-Some.ensures.whole;
      told = (first-entry _ _ _ _ c.loop-at.invariant.told c.in-Some.ensures.pairs).2;
    }

pub returns-clause-value : goal.returns-clause-value
returns-clause-value c =
    let self = c.args.self.now in
    sym (c.loop-at.invariant.same
    ∙ ap (λ pairs. value_of c.args.key.now (entry_tags self.block.now self.strings.now pairs))
    c.in_default.ensures.pairs ∙ value-none self.block.now self.strings.now c.args.key.now)
