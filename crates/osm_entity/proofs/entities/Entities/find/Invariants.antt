use Rattle.std.proofs.Common.{◌≡◌, List, length}
use Rattle.osm_model.specs.Entities.{Entity}
use Rattle.osm_entity.specs.Order.{StandsBehind}
use Rattle.osm_entity.specs.BlockEntities.{unread}
use Rattle.osm_entity.proofs.entities.Entities.find.Given as goal

-- the turns before gave nothing
abbrev pub invariant-loop-entity : goal.invariant-loop-entity
invariant-loop-entity l = record {
  objects : (before : List Entity) → StandsBehind before l.order → unread l.self ≡ unread l.fn.self;
  same : l.self.in_block ≡ l.fn.self.in_block;
  fault : l.self.fault ≡ l.fn.self.fault;
}

abbrev pub decreases-loop-entity : goal.decreases-loop-entity
decreases-loop-entity l = length l.self.groups.now
