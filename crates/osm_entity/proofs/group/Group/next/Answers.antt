use Rattle.std.proofs.Common.{◌∙◌}
use Rattle.osm_entity.specs.InBlock.{block_shown}
use Rattle.osm_entity.specs.Groups.{group_left}
use Rattle.osm_entity.proofs.GroupTurns.{passed-on}
use Rattle.osm_entity.proofs.group.Group.next.Goals as goal

pub loop-entity-preserved : goal.loop-entity-preserved
loop-entity-preserved c before behind =
    let b = block_shown c.args.in_block in
    passed-on before (group_left b c.loop-entity.self) (group_left b c.turn.new.self) c.in_ok-entity.field-0
    c.in-Passed.is (c.in_ok-entity.ensures.gives before behind)
    ∙ c.loop-entity.invariant before behind
