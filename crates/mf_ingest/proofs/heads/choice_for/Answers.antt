use Rattle.std.proofs.Common.{rules, ◌≡◌, ◌≤◌, length, sym, ap, ◌∙◌, subst}
use Rattle.std.specs.Prelude.{option_map}
use Rattle.mf_base.specs.TagCursor.{tags_left}
use Rattle.feature_model.specs.Choice.{choice}
use Rattle.feature_model.specs.Descriptions.{entries_for}
use Rattle.tag_mapping.specs.Choices.{choice_told}
use Rattle.mf_ingest.proofs.Describing.{nothing-chosen, all-known, all-there}
use Rattle.mf_ingest.proofs.heads.choice_for.Goals as goal

pub returns-then-count-eq0-clause-choice : goal.returns-then-count-eq0-clause-choice
returns-then-count-eq0-clause-choice c =
    let same = c.entries.ensures.entries ∙ c.list_for-list.ensures c.args.mapping.now in
    let none : length c.entries.result.now ≡ 0 = search rules in
    nothing-chosen (entries_for c.args.mapping.now c.args.kind) (tags_left c.args.tags) (ap length (sym same) ∙ none)

pub returns-clause-known : goal.returns-clause-known
returns-clause-known c =
    let same = c.entries.ensures.entries ∙ c.list_for-list.ensures c.args.mapping.now in
    all-known (entries_for c.args.mapping.now c.args.kind) (tags_left c.args.tags)
    (subst (λ es. length es ≤ 4096) same c.entries.ensures.few) c.choose.result
    (c.choose.ensures ∙ ap (λ es. option_map choice_told (choice es (tags_left c.args.tags)))
    (c.list_for-list.ensures c.args.mapping.now))

pub returns-clause-there : goal.returns-clause-there
returns-clause-there c =
    let same = c.entries.ensures.entries ∙ c.list_for-list.ensures c.args.mapping.now in
    all-there (entries_for c.args.mapping.now c.args.kind) (tags_left c.args.tags)
    (subst (λ es. length es ≤ 4096) same c.entries.ensures.few) c.choose.result
    (c.choose.ensures ∙ ap (λ es. option_map choice_told (choice es (tags_left c.args.tags)))
    (c.list_for-list.ensures c.args.mapping.now))
