use Rattle.osm_entity.proofs.EntityReads.{group-first}
use Rattle.osm_entity.proofs.next_group.next_group.Goals as goal

pub returns-in-Err-clause-gives : goal.returns-in-Err-clause-gives
returns-in-Err-clause-gives c b = (
  _,
  group-first b c.args.groups.now c.new-left.result c.in-Some.bytes.now _ c.in-Err.fault c.new-left.ensures
      c.in-Some.ensures.bytes (c.in-Err.ensures b),
)
