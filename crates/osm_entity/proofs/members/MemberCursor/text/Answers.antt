use Rattle.mf_base.proofs.EntryLaws.{entry-is}
use Rattle.osm_entity.proofs.members.MemberCursor.text.Goals as goal

pub returns : goal.returns
returns c =
    let self = c.args.self.now in
    entry-is self.block.now self.places.now c.args.index _ c.requires c.text_place-start.ensures.text
