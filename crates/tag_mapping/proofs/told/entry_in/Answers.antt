use Rattle.tag_mapping.proofs.Tables.{entry-told, entry-other}
use Rattle.tag_mapping.proofs.told.entry_in.Goals as goal

pub returns-then-has_only_members-clause-told : goal.returns-then-has_only_members-clause-told
returns-then-has_only_members-clause-told c =
    entry-told c.args.list c.args.table.now.entries _ c.if-has_only_members.ensures c.members_in.ensures.told

pub returns-else-has_only_members-clause-told : goal.returns-else-has_only_members-clause-told
returns-else-has_only_members-clause-told c =
    entry-other c.args.list c.args.table.now.entries c.if-has_only_members.ensures
