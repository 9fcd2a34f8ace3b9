use Rattle.tag_mapping.specs.Shown.{told_shown}
use Rattle.tag_mapping.proofs.OneWord.{is-poi, no-poi}
use Rattle.tag_mapping.proofs.one_poi.is_poi.Goals as goal

pub returns-then-keeps_entry_rule : goal.returns-then-keeps_entry_rule
returns-then-keeps_entry_rule c =
    rw (
      is-poi c.args.word.now (told_shown c.in-Some.told) c.in-Some.ensures.told,
      ← c.if-keeps_entry_rule.ensures,
    ) c.keeps_kind_rule.ensures

pub returns-else-keeps_entry_rule : goal.returns-else-keeps_entry_rule
returns-else-keeps_entry_rule c =
    rw (
      is-poi c.args.word.now (told_shown c.in-Some.told) c.in-Some.ensures.told,
      ← c.if-keeps_entry_rule.ensures,
    ) c.if-keeps_entry_rule.false

pub returns-in-None : goal.returns-in-None
returns-in-None c = no-poi c.args.word.now c.in-None.ensures.told
