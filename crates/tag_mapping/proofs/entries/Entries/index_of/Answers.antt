use Rattle.std.proofs.Common.{◌∷◌, length, refl, sym, ap, ◌∙◌, arith, length-append}
use Rattle.mf_base.specs.Words.{equals}
use Rattle.tag_mapping.proofs.Texts.{text-index, text-short}
use Rattle.tag_mapping.proofs.entries.Entries.index_of.Goals as goal

pub returns-clause-found : goal.returns-clause-found
returns-clause-found c index e here key value =
    c.get_index_of.ensures.index
    ∙ text-index c.self.inside.found.entries c.args.self.now c.as_slice.result.now index e c.self.invariant
    c.self.view_is c.get_index_of.ensures.unique here
    (c.as_slice.ensures.value ∙ (c.in_ok-text.ensures.text ∙ sym (rw (key, value) refl)))

pub returns-in_err-text-clause-found : goal.returns-in_err-text-clause-found
returns-in_err-text-clause-found c index e here key value =
    let short = text-short c.self.inside.found.entries c.args.self.now index e c.self.invariant c.self.view_is here in
    let long = c.short_text.ensures.long c.in_err-text.was in
    absurd (omega (arith, short, long, length-append e.key (equals ∷ e.value), ap length key, ap length value))
