use Rattle.std.proofs.Common.{◌≡◌, ◌∙◌, ap, ◌∷◌, ◌++◌}
use Rattle.mf_rows.specs.RecordUnits.{tag_sizes, spans_from}
use Rattle.mf_rows.specs.declared.head.TextSlot.TheVariants.{Name, House, Reference}
use Rattle.mf_rows.proofs.told.laid_texts.Goals as goal

pub returns-clause-spans : goal.returns-clause-spans
returns-clause-spans c =
    let tags = tag_sizes 0 c.args.head.now.tags.items in
    let last = (Reference, c.args.texts.reference) ∷ tags in
    let more = (House, c.args.texts.house) ∷ last in
    let all = (Name, c.args.texts.name) ∷ more in
    let start : c.new.result.items ++ spans_from 0 all ≡ spans_from 0 all =
    ap (λ spans. spans ++ spans_from 0 all) c.new.ensures in
    c.lay_tags.ensures.spans ∙ ap (λ ts. c.lay-3.new.laid.spans.items ++ spans_from c.lay-3.new.laid.size
    (tag_sizes 0 ts)) c.deref.ensures.0 ∙ c.lay-3.ensures.spans tags ∙ c.lay-2.ensures.spans last
    ∙ c.lay.ensures.spans more ∙ start
