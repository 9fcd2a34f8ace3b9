use Rattle.mf_base.proofs.EntryLaws.{entry-is}
use Rattle.mf_base.proofs.tag_cursor.TagCursor.place.Goals as goal

pub returns-clause-text : goal.returns-clause-text
returns-clause-text c =
    entry-is c.args.self.now.block.now c.args.self.now.strings.now c.args.index _ c.requires c.text_place.ensures.text
