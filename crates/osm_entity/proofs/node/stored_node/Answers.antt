use Rattle.std.proofs.Common.{rules}
use Rattle.mf_base.specs.Packed.{packed_numbers}
use Rattle.osm_entity.specs.InBlock.{block_shown}
use Rattle.osm_entity.proofs.NodeReads.{stored-is}
use Rattle.osm_entity.proofs.node.stored_node.Goals as goal

pub returns-clause-told : goal.returns-clause-told
returns-clause-told c before behind =
    stored-is before (block_shown c.args.in_block) c.args.id c.args.lat c.args.lon _ _ _ c.unzigzag.result
    c.unzigzag-2.result c.unzigzag-3.result (packed_numbers c.args.keys.now) (packed_numbers c.args.vals.now) _
    c.in-Some-Some-Some.is-0 c.in-Some-Some-Some.is-1 c.in-Some-Some-Some.is-2
    c.unzigzag.ensures c.unzigzag-2.ensures c.unzigzag-3.ensures (search rules) (search rules) (search rules)
    (c.tagged_node.ensures.told before behind)
