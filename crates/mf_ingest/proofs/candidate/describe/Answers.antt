use Rattle.std.proofs.Common.{rules, ◌≡◌, true, Some, None, sym, ap, ◌∙◌, subst, length}
use Rattle.std.specs.Prelude.{option_map}
use Rattle.std.specs.List.{AllByRecursion}
use Rattle.mf_base.specs.TagCursor.{all_tags, tags_left}
use Rattle.osm_model.specs.Entities.{kind_of}
use Rattle.feature_model.specs.Descriptions.{may_be_shown, tags_of, entries_for}
use Rattle.osm_entity.specs.EntityViews.{entity_told}
use Rattle.tag_mapping.specs.Choices.{choice_shown}
use Rattle.mf_rows.specs.Records.{texts_told}
use Rattle.mf_ingest.specs.Fronts.{front_told, IsSpan}
use Rattle.mf_ingest.proofs.Describing.{chosen-of, chosen-there, not-shown, no-choice, described-is, front-is}
use Rattle.mf_ingest.proofs.candidate.describe.Goals as goal

pub returns-then-not-may_be_shown-clause-told : goal.returns-then-not-may_be_shown-clause-told
returns-then-not-may_be_shown-clause-told c =
    not-shown c.args.mapping.now (entity_told c.args.entity) (search rules)

pub returns-in_err-choice-clause-told : goal.returns-in_err-choice-clause-told
returns-in_err-choice-clause-told c =
    let m = c.args.mapping.now in
    let e = entity_told c.args.entity in
    let shown : may_be_shown e ≡ true = search rules in
    let none : c.choice_for.result ≡ None = search rules in
    let out : c.from_residual.result ≡ None = search rules in
    let there = chosen-there m e c.kind_of-kind.result (tags_left c.tags_of-tags.result) c.choice_for.result
    c.kind_of-kind.ensures c.tags_of-tags.ensures.left c.choice_for.ensures.choice in
    ap (option_map front_told) out ∙ no-choice m e shown (sym (ap (option_map choice_shown) none) ∙ there)

pub returns-clause-told : goal.returns-clause-told
returns-clause-told c =
    let m = c.args.mapping.now in
    let e = entity_told c.args.entity in
    let shown : may_be_shown e ≡ true = search rules in
    let chosen = c.in_ok-choice.choice in
    let is = chosen-of (entries_for m (kind_of e)) (tags_of e) chosen
    (chosen-there m e c.kind_of-kind.result (tags_left c.tags_of-tags.result) (Some chosen) c.kind_of-kind.ensures
    c.tags_of-tags.ensures.left c.in_ok-choice.ensures.choice) in
    let texts = ap (λ b. texts_told b c.texts_of-texts.result.spans.items) c.texts_of-texts.ensures.block
    ∙ c.texts_of-texts.ensures.texts in
    described-is m e chosen is (record { head = c.head_of-head.result; texts = c.texts_of-texts.result })
    c.kind_of-kind.result c.id_of.result c.height_of.result (all_tags c.tags_of-tags.result) c.deref.result.now
    c.kind_of-kind.ensures c.tags_of-tags.ensures.all (search rules) c.head_of-head.ensures.told texts shown
    c.id_of.ensures c.height_of.ensures

pub returns-clause-front : goal.returns-clause-front
returns-clause-front c =
    let m = c.args.mapping.now in
    let e = entity_told c.args.entity in
    let chosen = c.in_ok-choice.choice in
    let is = chosen-of (entries_for m (kind_of e)) (tags_of e) chosen
    (chosen-there m e c.kind_of-kind.result (tags_left c.tags_of-tags.result) (Some chosen) c.kind_of-kind.ensures
    c.tags_of-tags.ensures.left c.in_ok-choice.ensures.choice) in
    let texts = ap (λ b. texts_told b c.texts_of-texts.result.spans.items) c.texts_of-texts.ensures.block
    ∙ c.texts_of-texts.ensures.texts in
    front-is m e chosen is (record { head = c.head_of-head.result; texts = c.texts_of-texts.result })
    c.kind_of-kind.result c.id_of.result c.height_of.result (all_tags c.tags_of-tags.result) c.deref.result.now
    c.kind_of-kind.ensures c.tags_of-tags.ensures.all (search rules) c.head_of-head.ensures.told texts
    c.head_of-head.ensures.is c.texts_of-texts.ensures.few
    (subst (λ b. AllByRecursion (IsSpan (length b)) c.texts_of-texts.result.spans.items)
    (sym c.texts_of-texts.ensures.block) c.texts_of-texts.ensures.spans)
