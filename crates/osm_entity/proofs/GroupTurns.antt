-- Turns over a group, and the kinds of its fields.
use Rattle.std.proofs.Common.{◌≡◌, ◌∙◌, ◌∷◌, ℕ, List, [], true, false, Option, Some, None, Result}
use Rattle.std.proofs.Common.{Ok, Err}
use Rattle.std.proofs.Common.{ap, refl, subst}
use Rattle.osm_model.specs.declared.faults.EntityFault.{EntityFault}
use Rattle.osm_model.specs.declared.faults.EntityFault.TheVariants as faults
use Rattle.osm_model.specs.declared.faults.MessageFault.{MessageFault}
use Rattle.osm_model.specs.declared.tables.TheConstants.{PRIMITIVE_GROUP}
use Rattle.osm_model.specs.Wire.{Field, fields}
use Rattle.osm_model.specs.Tables.{message, message_fault}
use Rattle.osm_model.specs.Blocks.{PrimitiveBlock}
use Rattle.osm_model.specs.Entities as entities
use Rattle.osm_model.specs.Objects.{Object, group_objects, kinds_in, are_one}
use Rattle.osm_entity.specs.Groups.{TurnsGroup, objects_in}
use Rattle.osm_entity.specs.GroupKinds.{is_kind, are_one_with}
use Rattle.osm_entity.specs.declared.group.Turn.{Turn}
use Rattle.osm_entity.specs.declared.group.Turn.TheVariants.{Passed}

pub passed-on : (before : List entities.Entity) (left rest : List (Result Object EntityFault)) (t : Turn)
    → t ≡ Passed → TurnsGroup before left (Ok t) rest → rest ≡ left
passed-on before left rest t is told = subst (λ t. TurnsGroup before left (Ok t) rest) is told

-- ---- kinds, field by field

kinds-kind : (f : Field) (fs : List Field) → is_kind f.number ≡ true → kinds_in (f ∷ fs) ≡ f.number ∷ kinds_in fs
kinds-kind f fs e = rw e refl

kinds-other : (f : Field) (fs : List Field) → is_kind f.number ≡ false → kinds_in (f ∷ fs) ≡ kinds_in fs
kinds-other f fs e = rw e refl

-- the kinds of fields, of which the first is this
pub kinds-pass : (first : Option ℕ) (fs rest : List Field) (f : Field) → fs ≡ f ∷ rest → is_kind f.number ≡ false
    → are_one_with first (kinds_in fs) ≡ are_one_with first (kinds_in rest)
kinds-pass first fs rest f e other =
    ap (λ fs. are_one_with first (kinds_in fs)) e ∙ ap (are_one_with first) (kinds-other f rest other)

pub kinds-next : (first : Option ℕ) (fs rest : List Field) (f : Field) → fs ≡ f ∷ rest → is_kind f.number ≡ true
    → are_one_with first (kinds_in fs) ≡ are_one_with first (f.number ∷ kinds_in rest)
kinds-next first fs rest f e kind =
    ap (λ fs. are_one_with first (kinds_in fs)) e ∙ ap (are_one_with first) (kinds-kind f rest kind)

pub kinds-end : (first : Option ℕ) (fs : List Field) → fs ≡ [] → are_one_with first (kinds_in fs) ≡ true
kinds-end None fs e = ap (λ fs. are_one_with None (kinds_in fs)) e
kinds-end (Some k) fs e = ap (λ fs. are_one_with (Some k) (kinds_in fs)) e

-- ---- the message

pub group-refused : (b : PrimitiveBlock) (bytes : List ℕ) (fault : MessageFault)
    → message PRIMITIVE_GROUP bytes ≡ Err fault → group_objects b bytes ≡ Err (faults.Wire fault) ∷ []
unfolding group_objects
group-refused b bytes fault e = rw (e, group_objects) refl

pub group-mixed : (b : PrimitiveBlock) (bytes : List ℕ) (fs : List Field) → message PRIMITIVE_GROUP bytes ≡ Ok fs
    → are_one (kinds_in fs) ≡ false → group_objects b bytes ≡ Err faults.MixedGroup ∷ []
unfolding group_objects
group-mixed b bytes fs e mixed = rw (e, mixed, group_objects) refl

pub group-is : (b : PrimitiveBlock) (bytes : List ℕ) → message PRIMITIVE_GROUP bytes ≡ Ok (fields bytes).items
    → are_one (kinds_in (fields bytes).items) ≡ true → group_objects b bytes ≡ objects_in b bytes
unfolding group_objects
group-is b bytes e one = rw (e, one, group_objects) refl

message-err : (bytes : List ℕ) (fault : MessageFault) → Some fault ≡ message_fault PRIMITIVE_GROUP bytes
    → message PRIMITIVE_GROUP bytes ≡ Err fault
unfolding message
message-err bytes fault e = rw (← e, message) refl

pub group-fault : (b : PrimitiveBlock) (bytes : List ℕ) (fault : MessageFault)
    → Some fault ≡ message_fault PRIMITIVE_GROUP bytes → group_objects b bytes ≡ Err (faults.Wire fault) ∷ []
group-fault b bytes fault e = group-refused b bytes fault (message-err bytes fault e)
