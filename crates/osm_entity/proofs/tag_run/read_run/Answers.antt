use Rattle.std.proofs.Common.{ap}
use Rattle.std.specs.Prelude.{option_map}
use Rattle.mf_base.specs.TagCursor.{all_tags}
use Rattle.osm_entity.specs.InBlock.{texts_at}
use Rattle.osm_entity.proofs.RunEnds.{none-told}
use Rattle.osm_entity.proofs.tag_run.read_run.Goals as goal

pub returns-in-None-clause-told : goal.returns-in-None-clause-told
returns-in-None-clause-told c =
    none-told (texts_at c.args.in_block.block.now c.args.in_block.places.now) _ (all_tags c.no_tags.result)
    (ap (option_map (λ list. list.now)) c.in-None.is) c.no_tags.ensures.all
