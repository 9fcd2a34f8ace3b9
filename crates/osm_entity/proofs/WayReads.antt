-- What is read of a Way, step by step.
use Rattle.std.proofs.Common.{◌≡◌, ◌∙◌, ℕ, ℤ, List, [], Option, Result, Ok, Err, Bool, true, false, refl, ap, map}
use Rattle.std.specs.Prelude.{unwrap_or}
use Rattle.std.specs.List.{list_all}
use Rattle.mf_base.specs.declared.kind.EntityKind.TheVariants as kinds
use Rattle.mf_base.specs.Tags.{Tags}
use Rattle.mf_base.specs.Ranges.{is_signed_64}
use Rattle.mf_base.specs.Spelling.{unzigzag_of}
use Rattle.mf_base.specs.Packed.{packed_numbers}
use Rattle.mf_base.specs.Steps.{◌>>=◌, require}
use Rattle.osm_model.specs.declared.faults.EntityFault.{EntityFault}
use Rattle.osm_model.specs.declared.faults.EntityFault.TheVariants.{Wire, Range}
use Rattle.osm_model.specs.declared.faults.MessageFault.{MessageFault}
use Rattle.osm_model.specs.declared.numbers.TheConstants.{WAY_ID, WAY_KEYS, WAY_VALS, WAY_REFS}
use Rattle.osm_model.specs.declared.tables.TheConstants.{WAY}
use Rattle.osm_model.specs.Wire.{Field}
use Rattle.osm_model.specs.Tables.{message, number_of, once_of}
use Rattle.osm_model.specs.Blocks.{PrimitiveBlock}
use Rattle.osm_model.specs.Entities.{Entity, way}
use Rattle.osm_model.specs.Objects.{indexed_tags, running_sums, way_object}
use Rattle.osm_entity.specs.Answers.{placed}
use Rattle.osm_entity.specs.Refs.{checked_refs}
use Rattle.osm_entity.specs.PlacedIds.{placed_id}
use Rattle.osm_entity.proofs.PlacedReads.{told_object, placed-object}

-- the way of an id, tags and refs, or the first fault among them
abbrev pub way_from : Result ℕ EntityFault → Result Tags EntityFault → Result (List ℤ) EntityFault
    → Result Entity EntityFault
way_from id tags refs = id >>= λ n. tags >>= λ ts. refs >>= λ rs. Ok (way (record { id = n; refs = rs; tags = ts }))

in_parts : (id : Result ℕ EntityFault) (tags : Result Tags EntityFault) (narrow : Bool) (refs : List ℤ)
    → (id >>= λ n. tags >>= λ ts. require narrow Range >>= λ u. Ok (way (record { id = n; refs = refs; tags = ts })))
    ≡ way_from id tags (require narrow Range >>= λ u. Ok refs)
in_parts (Err fault) tags narrow refs = refl
in_parts (Ok n) (Err fault) narrow refs = refl
in_parts (Ok n) (Ok ts) true refs = refl
in_parts (Ok n) (Ok ts) false refs = refl

-- The bytes are a Way message with this in its fields.
pub record IsWay (bytes : List ℕ) (number : Option ℕ) (keys vals refs : List ℕ) : Type 0 where
  pub fs : List Field
  pub message_is : message WAY bytes ≡ Ok fs
  pub id : number ≡ number_of WAY_ID fs
  pub keys_are : keys ≡ unwrap_or (once_of WAY_KEYS fs) []
  pub vals_are : vals ≡ unwrap_or (once_of WAY_VALS fs) []
  pub refs_are : refs ≡ unwrap_or (once_of WAY_REFS fs) []

pub way-refused : (b : PrimitiveBlock) (before : List Entity) (bytes : List ℕ) (fault : MessageFault)
    → message WAY bytes ≡ Err fault → Err (Wire fault) ≡ placed before (way_object b bytes)
unfolding way_object
way-refused b before bytes fault e = rw (e, way_object) refl

object-is : (b : PrimitiveBlock) (bytes : List ℕ) (number : Option ℕ) (keys vals refs : List ℕ)
    → IsWay bytes number keys vals refs
    → way_object b bytes ≡ told_object kinds.Way number
    (λ n. indexed_tags b.strings (packed_numbers keys) (packed_numbers vals)
    >>= λ ts. require (list_all is_signed_64 (running_sums (map unzigzag_of (packed_numbers refs)))) Range
    >>= λ u. Ok (way (record { id = n; refs = running_sums (map unzigzag_of (packed_numbers refs)); tags = ts })))
unfolding way_object
object-is b bytes number keys vals refs is =
    rw (is.message_is, is.id, is.keys_are, is.vals_are, is.refs_are, way_object) refl

pub way-read : (b : PrimitiveBlock) (before : List Entity) (bytes : List ℕ) (number : Option ℕ)
    (keys vals refs : List ℕ) → IsWay bytes number keys vals refs
    → placed before (way_object b bytes)
    ≡ way_from (placed_id before kinds.Way number) (indexed_tags b.strings (packed_numbers keys) (packed_numbers vals))
    (checked_refs (running_sums (map unzigzag_of (packed_numbers refs))))
way-read b before bytes number keys vals refs is =
    let sums = running_sums (map unzigzag_of (packed_numbers refs)) in
    let tags = indexed_tags b.strings (packed_numbers keys) (packed_numbers vals) in
    ap (placed before) (object-is b bytes number keys vals refs is)
    ∙ placed-object before kinds.Way number
    (λ n. tags >>= λ ts. require (list_all is_signed_64 sums) Range
    >>= λ u. Ok (way (record { id = n; refs = sums; tags = ts })))
    ∙ in_parts (placed_id before kinds.Way number) tags (list_all is_signed_64 sums) sums

-- ---- the exits

pub way-no_id : (fault : EntityFault) (id : Result ℕ EntityFault) (tags : Result Tags EntityFault)
    (refs : Result (List ℤ) EntityFault) → Err fault ≡ id → Err fault ≡ way_from id tags refs
way-no_id fault id tags refs e = ap (λ i. way_from i tags refs) e

pub way-no_tags : (fault : EntityFault) (n : ℕ) (id : Result ℕ EntityFault) (tags : Result Tags EntityFault)
    (refs : Result (List ℤ) EntityFault) → Ok n ≡ id → Err fault ≡ tags → Err fault ≡ way_from id tags refs
way-no_tags fault n id tags refs e f = ap (λ t. way_from (Ok n) t refs) f ∙ ap (λ i. way_from i tags refs) e

pub way-no_refs : (fault : EntityFault) (n : ℕ) (ts : Tags) (id : Result ℕ EntityFault)
    (tags : Result Tags EntityFault) (refs : Result (List ℤ) EntityFault) → Ok n ≡ id → Ok ts ≡ tags
    → Err fault ≡ refs → Err fault ≡ way_from id tags refs
way-no_refs fault n ts id tags refs e f g =
    ap (λ r. way_from (Ok n) (Ok ts) r) g ∙ ap (λ t. way_from (Ok n) t refs) f ∙ ap (λ i. way_from i tags refs) e

pub way-is : (n : ℕ) (ts : Tags) (rs : List ℤ) (id : Result ℕ EntityFault)
    (tags : Result Tags EntityFault) (refs : Result (List ℤ) EntityFault) → Ok n ≡ id → Ok ts ≡ tags → Ok rs ≡ refs
    → Ok (way (record { id = n; refs = rs; tags = ts })) ≡ way_from id tags refs
way-is n ts rs id tags refs e f g =
    ap (λ r. way_from (Ok n) (Ok ts) r) g ∙ ap (λ t. way_from (Ok n) t refs) f ∙ ap (λ i. way_from i tags refs) e
