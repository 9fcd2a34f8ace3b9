-- The objects of a group that are left, in the words of the definitions. This project's own.
use Rattle.std.specs.Prelude.{◌≡◌, ⊤, List, ℕ, [], ◌++◌, ◌+◌, ◌*◌, length, flat_map, Option, Some, None, Result}
use Rattle.std.specs.Prelude.{Ok, Err}
use Rattle.osm_model.specs.declared.faults.EntityFault.{EntityFault}
use Rattle.osm_model.specs.Wire.{fields}
use Rattle.osm_model.specs.Blocks.{PrimitiveBlock}
use Rattle.osm_model.specs.Entities as entities
use Rattle.osm_model.specs.Objects.{Object, field_objects}
use Rattle.osm_entity.specs.Dense.{dense_left}
use Rattle.osm_entity.specs.EntityViews.{entity_block, IsFirst, HasFault}
use Rattle.osm_entity.specs.declared.dense.Dense.{Dense}
use Rattle.osm_entity.specs.declared.group.Group.{Group}
use Rattle.osm_entity.specs.declared.group.Turn.{Turn}
use Rattle.osm_entity.specs.declared.group.Turn.TheVariants.{Found, Passed, End}

-- the dense nodes that are left
abbrev pub nodes_left : PrimitiveBlock → Option Dense → List (Result Object EntityFault)
nodes_left in_block None = []
nodes_left in_block (Some dense) = dense_left in_block dense

-- the objects of the fields of these bytes
abbrev pub objects_in : PrimitiveBlock → List ℕ → List (Result Object EntityFault)
objects_in in_block bytes = flat_map (field_objects in_block) (fields bytes).items

-- the objects of a group that are left
abbrev pub group_left : PrimitiveBlock → Group → List (Result Object EntityFault)
group_left in_block group = nodes_left in_block group.dense ++ objects_in in_block group.fields.now

-- A turn gives the first of the objects, or leaves all, or none is left; or the first has this fault.
abbrev pub TurnsGroup : List entities.Entity → List (Result Object EntityFault) → Result Turn EntityFault
    → List (Result Object EntityFault) → Type 0
TurnsGroup before left (Ok (Found e)) rest = IsFirst before left e rest
TurnsGroup before left (Ok Passed) rest = rest ≡ left
TurnsGroup before left (Ok End) rest = (left ≡ []) × (rest ≡ left)
TurnsGroup before left (Err fault) rest = HasFault before left fault

-- An entity, where there is one, is lent from this block.
abbrev pub IsFoundIn : List ℕ → Turn → Type 0
IsFoundIn block (Found e) = entity_block e ≡ block
IsFoundIn block Passed = ⊤
IsFoundIn block End = ⊤

-- one turn more where dense nodes may be left
abbrev pub turns_of : Option Dense → ℕ
turns_of None = 0
turns_of (Some dense) = 1

-- how many turns may follow, at most
abbrev pub turns_left : Group → ℕ
turns_left group = 2 * length group.fields.now + turns_of group.dense
