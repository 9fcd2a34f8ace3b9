-- What a field of a group has, in the words of the definitions. This project's own.
use Rattle.std.specs.Prelude.{◌≡◌, ⊤, List, ℕ, [], Result, Ok, Err}
use Rattle.osm_model.specs.declared.faults.EntityFault.{EntityFault}
use Rattle.osm_model.specs.Blocks.{PrimitiveBlock}
use Rattle.osm_model.specs.Entities as entities
use Rattle.osm_model.specs.Objects.{Object}
use Rattle.osm_entity.specs.Dense.{dense_left}
use Rattle.osm_entity.specs.EntityViews.{entity_block, IsFirst, HasFault}
use Rattle.osm_entity.specs.declared.group_field.Read.{Read}
use Rattle.osm_entity.specs.declared.group_field.Read.TheVariants.{Object as an_object, Nodes, Nothing}

-- The objects of a field are this entity behind these, or the dense nodes that are left, or none; or the only one has
-- this fault.
abbrev pub GivesRead : PrimitiveBlock → List entities.Entity → List (Result Object EntityFault)
    → Result Read EntityFault → Type 0
GivesRead in_block before objects (Ok (an_object e)) = IsFirst before objects e []
GivesRead in_block before objects (Ok (Nodes dense)) = objects ≡ dense_left in_block dense
GivesRead in_block before objects (Ok Nothing) = objects ≡ []
GivesRead in_block before objects (Err fault) = HasFault before objects fault

-- An entity, where there is one, is lent from this block.
abbrev pub IsReadFrom : List ℕ → Read → Type 0
IsReadFrom block (an_object e) = entity_block e ≡ block
IsReadFrom block (Nodes dense) = ⊤
IsReadFrom block Nothing = ⊤
