use Rattle.std.proofs.Common.{◌≡◌, ◌++◌, List, length}
use Rattle.osm_model.specs.Entities.{Entity}
use Rattle.osm_model.specs.Order.{in_order, IsRising}
use Rattle.osm_entity.specs.Order.{StandsBehind}
use Rattle.osm_entity.specs.BlockEntities.{objects_left, block_read}
use Rattle.extract_pass.proofs.BlockGiven.{SoFar, Fit}
use Rattle.extract_pass.proofs.block_pass.read_all.Given as goal

-- the entities so far were given, and the reader has read them
abbrev pub invariant-loop-entity : goal.invariant-loop-entity
invariant-loop-entity g l =
    (block_read l.entities ≡ l.block)
    × ((first : g.row.R.Denot) (before : List Entity) → StandsBehind before l.fn.order
    → g.R.EntityReader.stands first l.fn.reader before
    → IsRising (before ++ (in_order before (objects_left l.fn.entities)).items)
    → SoFar (g.R.EntityReader.stands first l.reader) before (objects_left l.fn.entities) (objects_left l.entities) l.order)
    × Fit (objects_left l.entities) l.order (length l.block)

abbrev pub decreases-loop-entity : goal.decreases-loop-entity
decreases-loop-entity g l = length (objects_left l.entities)
