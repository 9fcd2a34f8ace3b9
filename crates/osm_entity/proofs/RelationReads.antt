-- What is read of a Relation, step by step.
use Rattle.std.proofs.Common.{◌≡◌, ◌∙◌, ℕ, List, [], Option, Result, Ok, Err, refl, ap, map}
use Rattle.std.specs.Prelude.{unwrap_or}
use Rattle.mf_base.specs.declared.kind.EntityKind.TheVariants as kinds
use Rattle.mf_base.specs.Texts.{Text}
use Rattle.mf_base.specs.Tags.{Tags}
use Rattle.mf_base.specs.Spelling.{unzigzag_of}
use Rattle.mf_base.specs.Packed.{packed_numbers}
use Rattle.mf_base.specs.Steps.{◌>>=◌}
use Rattle.osm_model.specs.declared.faults.EntityFault.{EntityFault}
use Rattle.osm_model.specs.declared.faults.EntityFault.TheVariants.{Wire}
use Rattle.osm_model.specs.declared.faults.MessageFault.{MessageFault}
use Rattle.osm_model.specs.declared.numbers.TheConstants.{RELATION_ID, RELATION_KEYS, RELATION_VALS}
use Rattle.osm_model.specs.declared.numbers.TheConstants.{RELATION_ROLES_SID, RELATION_MEMIDS, RELATION_TYPES}
use Rattle.osm_model.specs.declared.tables.TheConstants.{RELATION}
use Rattle.osm_model.specs.Wire.{Field}
use Rattle.osm_model.specs.Tables.{message, number_of, once_of}
use Rattle.osm_model.specs.Blocks.{PrimitiveBlock}
use Rattle.osm_model.specs.Entities.{Member, Entity, relation}
use Rattle.osm_model.specs.Objects.{indexed_tags, members_of, relation_object}
use Rattle.osm_entity.specs.Answers.{placed}
use Rattle.osm_entity.specs.PlacedIds.{placed_id}
use Rattle.osm_entity.proofs.PlacedReads.{told_object, placed-object}

-- the relation of an id, tags and members, or the first fault among them
abbrev pub relation_from : Result ℕ EntityFault → Result Tags EntityFault → Result (List Member) EntityFault
    → Result Entity EntityFault
relation_from id tags members =
    id >>= λ n. tags >>= λ ts. members >>= λ ms. Ok (relation (record { id = n; members = ms; tags = ts }))

-- the members of packed columns
abbrev pub packed_members : List Text → (roles ids types : List ℕ) → Result (List Member) EntityFault
packed_members strings roles ids types =
    members_of strings (packed_numbers roles) (map unzigzag_of (packed_numbers ids)) (packed_numbers types)

-- The bytes are a Relation message with this in its fields.
pub record IsRelation (bytes : List ℕ) (number : Option ℕ) (keys vals roles ids types : List ℕ) : Type 0 where
  pub fs : List Field
  pub message_is : message RELATION bytes ≡ Ok fs
  pub id : number ≡ number_of RELATION_ID fs
  pub keys_are : keys ≡ unwrap_or (once_of RELATION_KEYS fs) []
  pub vals_are : vals ≡ unwrap_or (once_of RELATION_VALS fs) []
  pub roles_are : roles ≡ unwrap_or (once_of RELATION_ROLES_SID fs) []
  pub ids_are : ids ≡ unwrap_or (once_of RELATION_MEMIDS fs) []
  pub types_are : types ≡ unwrap_or (once_of RELATION_TYPES fs) []

pub relation-refused : (b : PrimitiveBlock) (before : List Entity) (bytes : List ℕ) (fault : MessageFault)
    → message RELATION bytes ≡ Err fault → Err (Wire fault) ≡ placed before (relation_object b bytes)
unfolding relation_object
relation-refused b before bytes fault e = rw (e, relation_object) refl

object-is : (b : PrimitiveBlock) (bytes : List ℕ) (number : Option ℕ) (keys vals roles ids types : List ℕ)
    → IsRelation bytes number keys vals roles ids types
    → relation_object b bytes ≡ told_object kinds.Relation number
    (λ n. indexed_tags b.strings (packed_numbers keys) (packed_numbers vals)
    >>= λ ts. packed_members b.strings roles ids types
    >>= λ ms. Ok (relation (record { id = n; members = ms; tags = ts })))
unfolding relation_object
object-is b bytes number keys vals roles ids types is =
    rw (is.message_is, is.id, is.keys_are, is.vals_are, is.roles_are, is.ids_are, is.types_are, relation_object) refl

pub relation-read : (b : PrimitiveBlock) (before : List Entity) (bytes : List ℕ) (number : Option ℕ)
    (keys vals roles ids types : List ℕ) → IsRelation bytes number keys vals roles ids types
    → placed before (relation_object b bytes)
    ≡ relation_from (placed_id before kinds.Relation number)
    (indexed_tags b.strings (packed_numbers keys) (packed_numbers vals)) (packed_members b.strings roles ids types)
relation-read b before bytes number keys vals roles ids types is =
    ap (placed before) (object-is b bytes number keys vals roles ids types is)
    ∙ placed-object before kinds.Relation number
    (λ n. indexed_tags b.strings (packed_numbers keys) (packed_numbers vals)
    >>= λ ts. packed_members b.strings roles ids types
    >>= λ ms. Ok (relation (record { id = n; members = ms; tags = ts })))

-- ---- the exits

pub relation-no_id : (fault : EntityFault) (id : Result ℕ EntityFault) (tags : Result Tags EntityFault)
    (members : Result (List Member) EntityFault) → Err fault ≡ id → Err fault ≡ relation_from id tags members
relation-no_id fault id tags members e = ap (λ i. relation_from i tags members) e

pub relation-no_tags : (fault : EntityFault) (n : ℕ) (id : Result ℕ EntityFault) (tags : Result Tags EntityFault)
    (members : Result (List Member) EntityFault) → Ok n ≡ id → Err fault ≡ tags
    → Err fault ≡ relation_from id tags members
relation-no_tags fault n id tags members e f =
    ap (λ t. relation_from (Ok n) t members) f ∙ ap (λ i. relation_from i tags members) e

pub relation-no_members : (fault : EntityFault) (n : ℕ) (ts : Tags) (id : Result ℕ EntityFault)
    (tags : Result Tags EntityFault) (members : Result (List Member) EntityFault) → Ok n ≡ id → Ok ts ≡ tags
    → Err fault ≡ members → Err fault ≡ relation_from id tags members
relation-no_members fault n ts id tags members e f g =
    ap (λ m. relation_from (Ok n) (Ok ts) m) g ∙ ap (λ t. relation_from (Ok n) t members) f
    ∙ ap (λ i. relation_from i tags members) e

pub relation-is : (n : ℕ) (ts : Tags) (ms : List Member) (id : Result ℕ EntityFault)
    (tags : Result Tags EntityFault) (members : Result (List Member) EntityFault) → Ok n ≡ id → Ok ts ≡ tags
    → Ok ms ≡ members → Ok (relation (record { id = n; members = ms; tags = ts })) ≡ relation_from id tags members
relation-is n ts ms id tags members e f g =
    ap (λ m. relation_from (Ok n) (Ok ts) m) g ∙ ap (λ t. relation_from (Ok n) t members) f
    ∙ ap (λ i. relation_from i tags members) e
