-- An entity that is lent, in the words of the definitions. This project's own.
use Rattle.std.specs.Prelude.{◌≡◌, false, List, ℕ, [], ◌∷◌, Option, Some, None, Result, Ok, Err}
use Rattle.osm_model.specs.declared.faults.EntityFault.{EntityFault}
use Rattle.osm_model.specs.Entities as entities
use Rattle.osm_model.specs.Objects.{Object}
use Rattle.osm_model.specs.Order.{has_later_kind}
use Rattle.osm_entity.specs.Answers.{placed}
use Rattle.osm_entity.specs.Node.{node_told, node_block}
use Rattle.osm_entity.specs.Ways.{way_told, way_block}
use Rattle.osm_entity.specs.Relations.{relation_told, relation_block}
use Rattle.osm_entity.specs.declared.entity.Entity.{Entity}
use Rattle.osm_entity.specs.declared.entity.Entity.TheVariants.{Node, Way, Relation}

-- the entity that is lent
abbrev pub entity_told : Entity → entities.Entity
entity_told (Node view) = node_told view
entity_told (Way view) = way_told view
entity_told (Relation view) = relation_told view

-- the block from which it is lent
abbrev pub entity_block : Entity → List ℕ
entity_block (Node view) = node_block view
entity_block (Way view) = way_block view
entity_block (Relation view) = relation_block view

-- Behind these entities, none of which is of a later kind, the first of the objects is this entity, and the others are
-- left.
abbrev pub IsFirst : List entities.Entity → List (Result Object EntityFault) → Entity → List (Result Object EntityFault)
    → Type 0
IsFirst before left e rest =
    (told : Result Object EntityFault) × (left ≡ told ∷ rest) × (placed before told ≡ Ok (entity_told e))
    × (has_later_kind (entities.kind_of (entity_told e)) before ≡ false)

-- Behind these entities, the first of the objects has this fault.
abbrev pub HasFault : List entities.Entity → List (Result Object EntityFault) → EntityFault → Type 0
HasFault before left fault =
    (told : Result Object EntityFault) × (others : List (Result Object EntityFault)) × (left ≡ told ∷ others)
    × (placed before told ≡ Err fault)

-- Of the objects that are left, the first is this entity behind these, and the others are left; or none is left; or the
-- first has this fault.
abbrev pub GivesObject : List entities.Entity → List (Result Object EntityFault) → Result (Option Entity) EntityFault
    → List (Result Object EntityFault) → Type 0
GivesObject before left (Ok (Some e)) rest = IsFirst before left e rest
GivesObject before left (Ok None) rest = (left ≡ []) × (rest ≡ left)
GivesObject before left (Err fault) rest = HasFault before left fault
