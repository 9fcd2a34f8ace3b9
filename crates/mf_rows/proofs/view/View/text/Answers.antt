use Rattle.std.proofs.Common.{rules, ◌≡◌, Some, None, ap, ◌∙◌, sym}
use Rattle.std.specs.Prelude.{find}
use Rattle.mf_rows.specs.Records.{same_slot, text_in, texts_told}
use Rattle.mf_rows.specs.declared.head.TextSpan.{TextSpan}
use Rattle.mf_rows.proofs.TextsTold.{told, text_found, found_lies}
use Rattle.mf_rows.proofs.view.View.text.Goals as goal

pub text_at-requires : goal.text_at-requires
text_at-requires c =
    let spans = c.self.inside.texts.spans.items in
    let found : find (λ (s : TextSpan). same_slot s.slot c.args.slot) spans ≡ Some c.in-Some.span =
    ap (find (λ (s : TextSpan). same_slot s.slot c.args.slot)) (sym c.deref.ensures.0) ∙ sym c.span_of.ensures
    ∙ c.in-Some.is in
    found_lies c.self.inside.texts.block.now c.args.slot spans c.in-Some.span c.self.invariant.0 found

pub returns-in-Some-clause-some : goal.returns-in-Some-clause-some
returns-in-Some-clause-some c =
    let spans = c.self.inside.texts.spans.items in
    let block = c.self.inside.texts.block.now in
    let found : find (λ (s : TextSpan). same_slot s.slot c.args.slot) spans ≡ Some c.in-Some.span =
    ap (find (λ (s : TextSpan). same_slot s.slot c.args.slot)) (sym c.deref.ensures.0) ∙ sym c.span_of.ensures
    ∙ c.in-Some.is in
    let seen : c.args.self.now.texts ≡ texts_told block spans = search rules in
    ap (λ texts. text_in texts c.args.slot) seen ∙ text_found block c.args.slot spans
    ∙ ap (told block c.args.slot) found ∙ ap Some (sym c.text_at.ensures)

pub returns-in-None-clause-none : goal.returns-in-None-clause-none
returns-in-None-clause-none c = λ none.
    let spans = c.self.inside.texts.spans.items in
    let block = c.self.inside.texts.block.now in
    let found : find (λ (s : TextSpan). same_slot s.slot c.args.slot) spans ≡ None =
    ap (find (λ (s : TextSpan). same_slot s.slot c.args.slot)) (sym c.deref.ensures.0) ∙ sym c.span_of.ensures
    ∙ c.in-None.is in
    let seen : c.args.self.now.texts ≡ texts_told block spans = search rules in
    ap (λ texts. text_in texts c.args.slot) seen ∙ text_found block c.args.slot spans
    ∙ ap (told block c.args.slot) found
