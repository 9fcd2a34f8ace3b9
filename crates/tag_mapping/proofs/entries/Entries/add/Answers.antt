use Rattle.std.proofs.Common.{arith, inr, sym, ◌∙◌}
use Rattle.feature_model.proofs.EntryLaws.{entry_rule-is}
use Rattle.tag_mapping.specs.Shown.{told_shown}
use Rattle.tag_mapping.proofs.Adding.{behind-none, behind-entry, behind-kind, behind-twice, behind-ok}
use Rattle.tag_mapping.proofs.entries.Entries.add.Goals as goal

pub returns-in_default-clause-refused : goal.returns-in_default-clause-refused
returns-in_default-clause-refused c =
    inr (rw (c.in_default.is, c.count-index.ensures) (behind-none c.args.list c.args.self.now))

pub returns-then-not-keeps_entry_rule-clause-refused : goal.returns-then-not-keeps_entry_rule-clause-refused
returns-then-not-keeps_entry_rule-clause-refused c =
    inr (rw (c.in-Some.is, c.count-index.ensures)
    (behind-entry c.args.list c.args.self.now (told_shown c.in-Some.told) (sym c.if-not-keeps_entry_rule.ensures)))

pub returns-then-not-keeps_kind_rule-clause-refused : goal.returns-then-not-keeps_kind_rule-clause-refused
returns-then-not-keeps_kind_rule-clause-refused c =
    inr (rw (c.in-Some.is, c.count-index.ensures)
    (behind-kind c.args.list c.args.self.now (told_shown c.in-Some.told) (sym c.if-not-keeps_entry_rule.ensures)
    (sym c.if-not-keeps_kind_rule.ensures)))

pub joined-requires : goal.joined-requires
joined-requires c = let rule =
    entry_rule-is c.args.list (told_shown c.in-Some.told) (sym c.if-not-keeps_entry_rule.ensures) in
    omega (arith, rule.key, rule.value)

pub returns-then-has_text-clause-refused : goal.returns-then-has_text-clause-refused
returns-then-has_text-clause-refused c =
    let rule = entry_rule-is c.args.list (told_shown c.in-Some.told) (sym c.if-not-keeps_entry_rule.ensures) in
    let there = sym
    (c.has_text.ensures (told_shown c.in-Some.told) (c.deref.ensures.value ∙ c.in-Ok.ensures) rule.no_equals)
    ∙ c.if-has_text.true in
    inr (rw (c.in-Some.is, c.count-index.ensures)
    (behind-twice c.args.list c.args.self.now (told_shown c.in-Some.told) (sym c.if-not-keeps_entry_rule.ensures)
    (sym c.if-not-keeps_kind_rule.ensures) there))

pub insert-requires-clause-plain : goal.insert-requires-clause-plain
insert-requires-clause-plain c =
    (entry_rule-is c.args.list (told_shown c.in-Some.told) (sym c.if-not-keeps_entry_rule.ensures)).no_equals

pub insert-requires-clause-short : goal.insert-requires-clause-short
insert-requires-clause-short c = let rule =
    entry_rule-is c.args.list (told_shown c.in-Some.told) (sym c.if-not-keeps_entry_rule.ensures) in
    (rule.key.1, rule.value.1)

pub insert-requires-clause-new : goal.insert-requires-clause-new
insert-requires-clause-new c =
    let rule = entry_rule-is c.args.list (told_shown c.in-Some.told) (sym c.if-not-keeps_entry_rule.ensures) in
    sym (c.has_text.ensures (told_shown c.in-Some.told) (c.deref.ensures.value ∙ c.in-Ok.ensures) rule.no_equals)
    ∙ c.if-has_text.false

pub returns-then-insert-clause-added : goal.returns-then-insert-clause-added
returns-then-insert-clause-added c =
    let rule = entry_rule-is c.args.list (told_shown c.in-Some.told) (sym c.if-not-keeps_entry_rule.ensures) in
    let new = sym
    (c.has_text.ensures (told_shown c.in-Some.told) (c.deref.ensures.value ∙ c.in-Ok.ensures) rule.no_equals)
    ∙ c.if-has_text.false in (
      told_shown c.in-Some.told,
      rw c.in-Some.is
          (behind-ok c.args.list c.args.self.now (told_shown c.in-Some.told) (sym c.if-not-keeps_entry_rule.ensures)
          (sym c.if-not-keeps_kind_rule.ensures) new),
      c.insert.ensures.put c.if-insert.true,
    )
