use Rattle.std.proofs.Common.{◌≡◌, List}
use Rattle.osm_model.specs.Entities.{Entity}
use Rattle.osm_entity.specs.InBlock.{block_shown}
use Rattle.osm_entity.specs.Order.{StandsBehind}
use Rattle.osm_entity.specs.Groups.{group_left, turns_left}
use Rattle.osm_entity.proofs.group.Group.next.Given as goal

-- the turns before gave nothing
abbrev pub invariant-loop-entity : goal.invariant-loop-entity
invariant-loop-entity l = (before : List Entity) → StandsBehind before l.order
    → group_left (block_shown l.in_block) l.self ≡ group_left (block_shown l.in_block) l.fn.self

abbrev pub decreases-loop-entity : goal.decreases-loop-entity
decreases-loop-entity l = turns_left l.self
