-- The objects of a block that are left, in the words of the definitions. This project's own.
use Rattle.std.specs.Prelude.{◌≡◌, List, ℕ, [], ◌∷◌, ◌++◌, flat_map, Option, Some, None, Result, Ok, Err}
use Rattle.std.specs.Borrow.{Bor}
use Rattle.osm_model.specs.declared.faults.EntityFault.{EntityFault}
use Rattle.osm_model.specs.declared.numbers.TheConstants.{BLOCK_PRIMITIVEGROUP}
use Rattle.osm_model.specs.Reading.{then_reads, stops_at}
use Rattle.osm_model.specs.Wire.{fields}
use Rattle.osm_model.specs.Tables.{bytes_of}
use Rattle.osm_model.specs.Blocks.{PrimitiveBlock}
use Rattle.osm_model.specs.Entities as entities
use Rattle.osm_model.specs.Objects.{Object, group_objects}
use Rattle.osm_model.specs.Order.{in_order}
use Rattle.osm_entity.specs.InBlock.{block_shown}
use Rattle.osm_entity.specs.Order.{StandsBehind}
use Rattle.osm_entity.specs.EntityViews.{entity_told}
use Rattle.osm_entity.specs.Groups.{group_left}
use Rattle.osm_entity.specs.declared.order.Order.{Order}
use Rattle.osm_entity.specs.declared.entity.Entity.{Entity}
use Rattle.osm_entity.specs.declared.group.Group.{Group}
use Rattle.osm_entity.specs.declared.entities.Entities.{Entities}

-- the objects of the groups among the fields of these bytes
abbrev pub groups_in : PrimitiveBlock → List ℕ → List (Result Object EntityFault)
groups_in in_block bytes = flat_map (group_objects in_block) (bytes_of BLOCK_PRIMITIVEGROUP (fields bytes).items)

-- The groups go on with this one and with those of the bytes behind it, or none is left, or the first has this fault.
abbrev pub GivesNextGroup : PrimitiveBlock → List ℕ → Result (Option (Group × Bor (List ℕ))) EntityFault → Type 0
GivesNextGroup in_block bytes (Ok (Some (group, rest))) =
    groups_in in_block bytes ≡ group_left in_block group ++ groups_in in_block rest.now
GivesNextGroup in_block bytes (Ok None) = groups_in in_block bytes ≡ []
GivesNextGroup in_block bytes (Err fault) =
    (others : List (Result Object EntityFault)) × (groups_in in_block bytes ≡ Err fault ∷ others)

-- the objects that were not read
abbrev pub unread : Entities → List (Result Object EntityFault)
unread es = group_left (block_shown es.in_block) es.group ++ groups_in (block_shown es.in_block) es.groups.now

-- the objects that are left, or the fault that was told
abbrev pub left_or_fault : Option EntityFault → List (Result Object EntityFault) → List (Result Object EntityFault)
left_or_fault None objects = objects
left_or_fault (Some fault) objects = Err fault ∷ []

-- The objects that are left to be given: behind a fault this fault alone.
abbrev pub objects_left : Entities → List (Result Object EntityFault)
objects_left es = left_or_fault es.fault (unread es)

-- the block whose entities are given
abbrev pub block_read : Entities → List ℕ
block_read es = es.in_block.block.now

-- Behind the entities before, which an order stood behind, the objects that were left begin with this entity, and the
-- others are left; or none was left; or there is this fault, which is left alone.
abbrev pub GivesEntity : List entities.Entity → List (Result Object EntityFault) → Order
    → Result (Option Entity) EntityFault → List (Result Object EntityFault) → Order → Type 0
GivesEntity before left old (Ok (Some e)) rest new =
    (in_order before left ≡ then_reads (entity_told e) (in_order (before ++ entity_told e ∷ []) rest))
    × StandsBehind (before ++ entity_told e ∷ []) new
GivesEntity before left old (Ok None) rest new = (left ≡ []) × (rest ≡ left) × (new ≡ old)
GivesEntity before left old (Err fault) rest new =
    (in_order before left ≡ stops_at fault) × (rest ≡ Err fault ∷ []) × (new ≡ old)
