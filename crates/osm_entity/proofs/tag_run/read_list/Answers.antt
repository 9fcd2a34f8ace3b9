use Rattle.mf_base.specs.TagCursor.{all_tags}
use Rattle.osm_entity.proofs.RunEnds.{list-told}
use Rattle.osm_entity.proofs.tag_run.read_list.Goals as goal

pub returns-clause-told : goal.returns-clause-told
returns-clause-told c =
    list-told c.args.in_block.block.now c.args.in_block.places.now c.args.list.now c.in_ok-end.end c.in_ok-end.behind
    c.count.result (all_tags c.pairs-tags.result) c.run_end.result c.count.ensures (c.in_ok-end.was {u = tt})
    c.run_end.ensures c.pairs-tags.ensures.all
