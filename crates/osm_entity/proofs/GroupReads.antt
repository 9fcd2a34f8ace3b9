-- The objects of a group, field by field.
use Rattle.std.proofs.Common.{◌≡◌, ◌∷◌, ◌++◌, ℕ, List, [], Result}
use Rattle.std.proofs.Common.{ap}
use Rattle.std.proofs.Common.{sym, subst}
use Rattle.std.specs.Prelude.{flat_map}
use Rattle.osm_model.specs.declared.faults.EntityFault.{EntityFault}
use Rattle.osm_model.specs.declared.numbers.TheConstants.{GROUP_DENSE}
use Rattle.osm_model.specs.Wire as wire
use Rattle.osm_model.specs.Wire.{fields}
use Rattle.osm_model.specs.Blocks.{PrimitiveBlock}
use Rattle.osm_model.specs.Entities as entities
use Rattle.osm_model.specs.Objects.{Object, field_objects, objects_at, dense_objects}
use Rattle.osm_entity.specs.EntityViews.{IsFirst, HasFault}
use Rattle.osm_entity.specs.Groups.{objects_in}
use Rattle.osm_entity.specs.declared.entity.Entity.{Entity}

pub dense_at : (b : PrimitiveBlock) (k : ℕ) (bytes : List ℕ) → k ≡ GROUP_DENSE
    → objects_at b k bytes ≡ dense_objects b bytes
dense_at b k bytes e = ap (λ n. objects_at b n bytes) e

-- the objects of the next field, and of those behind it
pub next-objects : (b : PrimitiveBlock) (bytes rest : List ℕ) (f : wire.Field)
    → (fields bytes).items ≡ f ∷ (fields rest).items → objects_in b bytes ≡ field_objects b f ++ objects_in b rest
next-objects b bytes rest f e = ap (flat_map (field_objects b)) e

pub no-objects : (b : PrimitiveBlock) (bytes : List ℕ) → (fields bytes).items ≡ [] → objects_in b bytes ≡ []
no-objects b bytes e = ap (flat_map (field_objects b)) e

-- ---- objects in front of others

pub first-of : (before : List entities.Entity) (front rest others : List (Result Object EntityFault)) (e : Entity)
    → IsFirst before front e rest → IsFirst before (front ++ others) e (rest ++ others)
first-of before front rest others e (told, is, placed_so, later) =
    (told, ap (λ xs. xs ++ others) is, placed_so, later)

pub fault-of : (before : List entities.Entity) (front others : List (Result Object EntityFault)) (fault : EntityFault)
    → HasFault before front fault → HasFault before (front ++ others) fault
fault-of before front others fault (told, rest, is, refused) =
    (told, rest ++ others, ap (λ xs. xs ++ others) is, refused)

pub first-as : (before : List entities.Entity) (left other rest : List (Result Object EntityFault)) (e : Entity)
    → left ≡ other → IsFirst before other e rest → IsFirst before left e rest
first-as before left other rest e is first = subst (λ xs. IsFirst before xs e rest) (sym is) first

pub fault-as : (before : List entities.Entity) (left other : List (Result Object EntityFault)) (fault : EntityFault)
    → left ≡ other → HasFault before other fault → HasFault before left fault
fault-as before left other fault is told = subst (λ xs. HasFault before xs fault) (sym is) told
