-- The entities of a block, handed to a reader one after another.
use Rattle.std.proofs.Common.{◌≡◌, ◌∙◌, ◌≤◌, ◌∷◌, ◌++◌, ℕ, arith, List, [], Some, None, Result, Ok, Err}
use Rattle.std.proofs.Common.{sym, ap, subst, append-nil, append_assoc}
use Rattle.std.specs.Prelude.{option_map}
use Rattle.osm_model.specs.declared.faults.EntityFault.{EntityFault}
use Rattle.osm_model.specs.declared.faults.InputCode.TheVariants as input_codes
use Rattle.osm_model.specs.Reading.{Reading, all_read, then_reads, with_front}
use Rattle.osm_model.specs.Entities.{Entity}
use Rattle.osm_model.specs.Objects.{Object}
use Rattle.osm_model.specs.Order.{in_order, IsRising}
use Rattle.osm_model.proofs.OrderLaws.{in_order-nil}
use Rattle.osm_entity.specs.Order.{StandsBehind}
use Rattle.osm_entity.specs.EntityViews.{entity_told}
use Rattle.osm_entity.specs.BlockEntities.{GivesEntity}
use Rattle.osm_entity.specs.declared.entity.Entity as lent
use Rattle.osm_entity.specs.declared.order.Order.{Order}
use Rattle.osm_entity.proofs.OrderReads.{some-before}
use Rattle.extract_pass.specs.EntitySizes.{entity_size, entities_size}
use Rattle.extract_pass.specs.declared.fault.BlobStop.TheVariants as blob_stop
use Rattle.extract_pass.specs.declared.reader.Stopped.{Stopped}
use Rattle.extract_pass.specs.BlobReading.{AnswersEntity, ReadsObjects}
use Rattle.extract_pass.proofs.BlockPass.{AreGiven, given-first, given-next, given-items, given-fault}

-- Entities of the block were given, the reader has read them, and these objects are left.
pub record SoFar (Stands : List Entity → Type 0) (before : List Entity) (objects left : List (Result Object EntityFault))
    (order : Order) : Type 0 where
  pub given : List Entity
  pub so : AreGiven before objects given left
  pub behind : StandsBehind (before ++ given) order
  pub stands : Stands (before ++ given)

pub so-first : (Stands : List Entity → Type 0) (before : List Entity) (objects : List (Result Object EntityFault))
    (order : Order) → StandsBehind before order → Stands before → SoFar Stands before objects objects order
so-first Stands before objects order behind stands = record {
  given = [];
  so = given-first before objects;
  behind = subst (λ es. StandsBehind es order) (sym (append-nil before)) behind;
  stands = subst Stands (sym (append-nil before)) stands;
}

-- The entity that comes next stands in order behind those before it.
record IsNext (before given : List Entity) (e : Entity) (objects rest : List (Result Object EntityFault)) : Type 0 where
  more : List Entity
  items : (in_order before objects).items ≡ given ++ e ∷ more
  rising : IsRising ((before ++ given) ++ e ∷ more)

is_next : (before given : List Entity) (e : Entity) (objects left rest : List (Result Object EntityFault))
    → AreGiven before objects given left
    → in_order (before ++ given) left ≡ then_reads e (in_order ((before ++ given) ++ e ∷ []) rest)
    → IsRising (before ++ (in_order before objects).items) → IsNext before given e objects rest
is_next before given e objects left rest so next rising =
    let behind : Reading Entity EntityFault = in_order ((before ++ given) ++ e ∷ []) rest in
    let items : (in_order before objects).items ≡ given ++ e ∷ behind.items =
    ap (λ (r : Reading Entity EntityFault). r.items) (so ∙ ap (with_front given) next) in record {
      more = behind.items;
      items = items;
      rising = subst IsRising (ap (λ es. before ++ es) items ∙ sym (append_assoc before given (e ∷ behind.items))) rising;
    }

-- What the reader answers of an entity, wherever it may stand behind those that were read.
abbrev pub ReadsNext : {A : Type 0} → (List Entity → Type 0) → (List Entity → Type 0) → (List Entity → Entity → Type 0)
    → Entity → Result A Stopped → Type 0
ReadsNext Stands Now StoppedAt e result =
    (before more : List Entity) → IsRising (before ++ e ∷ more) → Stands before
    → AnswersEntity Now StoppedAt before e result

pub so-next : (A : Type 0) (Stands Now : List Entity → Type 0) (StoppedAt : List Entity → Entity → Type 0)
    (before : List Entity) (objects left rest : List (Result Object EntityFault)) (old new : Order) (e : lent.Entity)
    (x : A) → IsRising (before ++ (in_order before objects).items) → SoFar Stands before objects left old
    → ((es : List Entity) → StandsBehind es old → GivesEntity es left old (Ok (Some e)) rest new)
    → ReadsNext Stands Now StoppedAt (entity_told e) (Ok x) → SoFar Now before objects rest new
so-next A Stands Now StoppedAt before objects left rest old new e x rising so gives reads =
    let told = entity_told e in
    let next = gives (before ++ so.given) so.behind in
    let same : (before ++ so.given) ++ told ∷ [] ≡ before ++ (so.given ++ told ∷ []) =
    append_assoc before so.given (told ∷ []) in
    let there = is_next before so.given told objects left rest so.so next.0 rising in record {
      given = so.given ++ told ∷ [];
      so = given-next before so.given told objects left rest so.so next.0;
      behind = subst (λ es. StandsBehind es new) same next.1;
      stands = subst Now same (reads (before ++ so.given) there.more there.rising so.stands);
    }

pub so-stopped : (A B : Type 0) (Stands Now : List Entity → Type 0) (StoppedAt : List Entity → Entity → Type 0)
    (before : List Entity) (objects left rest : List (Result Object EntityFault)) (old new last : Order)
    (e : lent.Entity) (stop : Stopped) → IsRising (before ++ (in_order before objects).items)
    → SoFar Stands before objects left old
    → ((es : List Entity) → StandsBehind es old → GivesEntity es left old (Ok (Some e)) rest new)
    → ReadsNext {A = A} Stands Now StoppedAt (entity_told e) (Err stop)
    → ReadsObjects {A = B} Now StoppedAt before (in_order before objects) (Err blob_stop.Reader) last
so-stopped A B Stands Now StoppedAt before objects left rest old new last e stop rising so gives reads =
    let told = entity_told e in
    let next = gives (before ++ so.given) so.behind in
    let there = is_next before so.given told objects left rest so.so next.0 rising in
    (so.given, told, there.more, there.items, reads (before ++ so.given) there.more there.rising so.stands)

pub so-all : (A : Type 0) (Stands : List Entity → Type 0) (StoppedAt : List Entity → Entity → Type 0)
    (before : List Entity) (objects left rest : List (Result Object EntityFault)) (old new : Order) (x : A)
    → SoFar Stands before objects left old
    → ((es : List Entity) → StandsBehind es old → GivesEntity es left old (Ok None) rest new)
    → ReadsObjects Stands StoppedAt before (in_order before objects) (Ok x) new
so-all A Stands StoppedAt before objects left rest old new x so gives =
    let end = gives (before ++ so.given) so.behind in
    let none : in_order (before ++ so.given) left ≡ all_read =
    ap (in_order (before ++ so.given)) end.0 ∙ in_order-nil (before ++ so.given) in
    let items : so.given ≡ (in_order before objects).items = sym (given-items before so.given objects left so.so
    (ap (λ (r : Reading Entity EntityFault). r.items) none)) in (
      ap (λ (r : Reading Entity EntityFault). r.fault) (so.so ∙ ap (with_front so.given) none),
      subst (λ o. StandsBehind (before ++ (in_order before objects).items) o) (sym end.2)
          (subst (λ es. StandsBehind (before ++ es) old) items so.behind),
      subst (λ es. Stands (before ++ es)) items so.stands,
    )

pub so-fault : (A : Type 0) (Stands : List Entity → Type 0) (StoppedAt : List Entity → Entity → Type 0)
    (before : List Entity) (objects left rest : List (Result Object EntityFault)) (old new last : Order)
    (fault : EntityFault) → SoFar Stands before objects left old
    → ((es : List Entity) → StandsBehind es old → GivesEntity es left old (Err fault) rest new)
    → ReadsObjects {A = A} Stands StoppedAt before (in_order before objects)
    (Err (blob_stop.Fault (input_codes.Entity fault))) last
so-fault A Stands StoppedAt before objects left rest old new last fault so gives =
    let stop = (gives (before ++ so.given) so.behind).0 in (
      ap (option_map input_codes.Entity) (given-fault before so.given objects left fault so.so stop),
      subst (λ es. Stands (before ++ es)) (sym (given-items before so.given objects left so.so
          (ap (λ (r : Reading Entity EntityFault). r.items) stop))) so.stands,
    )

-- ---- how many bytes the entities take

-- The entities that are left take at most so many bytes, behind some that the order stands behind.
pub record Fit (left : List (Result Object EntityFault)) (order : Order) (most : ℕ) : Type 0 where
  pub before : List Entity
  pub behind : StandsBehind before order
  pub few : entities_size (in_order before left).items ≤ most

pub fit-first : (left : List (Result Object EntityFault)) (order : Order) (most : ℕ)
    → ((before : List Entity) → StandsBehind before order → entities_size (in_order before left).items ≤ most)
    → Fit left order most
fit-first left order most all =
    let (before, behind) = some-before order in
    record { before = before; behind = behind; few = all before behind }

pub fit-next : (left rest : List (Result Object EntityFault)) (old new : Order) (most : ℕ) (e : lent.Entity)
    → Fit left old most
    → ((es : List Entity) → StandsBehind es old → GivesEntity es left old (Ok (Some e)) rest new)
    → (entity_size (entity_told e) ≤ most) × Fit rest new most
fit-next left rest old new most e fit gives =
    let next = gives fit.before fit.behind in
    let size = ap (λ (r : Reading Entity EntityFault). entities_size r.items) next.0 in (
      omega (arith, fit.few, size),
      record { before = fit.before ++ entity_told e ∷ []; behind = next.1; few = omega (arith, fit.few, size) },
    )
