-- There are no more entities of a kind than the id of the next one tells, since their ids rise.
use Rattle.std.proofs.Common.{◌≡◌, ◌∙◌, ◌+◌, ◌<◌, ◌≤◌, ◌∷◌, ◌++◌, ℕ, List, [], Option, Some, None, refl, sym}
use Rattle.std.proofs.Common.{length, arith}
use Rattle.std.specs.Prelude.{filter_map}
use Rattle.std.specs.List.{AllByRecursion}
use Rattle.std.proofs.lemmas.List.Elements.{recursion_from_All}
use Rattle.mf_base.specs.declared.kind.EntityKind.{EntityKind}
use Rattle.mf_base.proofs.Pairs.{EachPair, each_pair}
use Rattle.osm_model.specs.Entities.{Entity, kind_of, id_of}
use Rattle.osm_model.specs.Order.{Precedes, kind_and_id, IsRising}

-- the first entity may stand before the second
abbrev Before : Entity → Entity → Type 0
Before d e = Precedes (kind_and_id d) (kind_and_id e)

in_front : {A : Type 0} (P : A → Type 0) (xs ys : List A) → AllByRecursion P (xs ++ ys) → AllByRecursion P xs
in_front P [] ys h = tt
in_front P (x ∷ xs) ys h = (h.0, in_front P xs ys h.1)

in_place : {A : Type 0} (P : A → Type 0) (xs : List A) (y : A) (ys : List A) → AllByRecursion P (xs ++ y ∷ ys) → P y
in_place P [] y ys h = h.0
in_place P (x ∷ xs) y ys h = in_place P xs y ys h.1

all_before : (es : List Entity) (e : Entity) (more : List Entity) → EachPair Before (es ++ e ∷ more)
    → EachPair Before es × AllByRecursion (λ d. Before d e) es
all_before [] e more h = (tt, tt)
all_before (d ∷ ds) e more h =
    let (pairs, below) = all_before ds e more h.1 in
    ((in_front (Before d) ds (e ∷ more) h.0, pairs), (in_place (Before d) ds e more h.0, below))

-- an entity of this kind has an id between these numbers
abbrev LiesBetween : EntityKind → ℕ → ℕ → Entity → Type 0
LiesBetween k low high e = kind_of e ≡ k → (low < id_of e) × (id_of e < high)

higher : (k : EntityKind) (low high : ℕ) (e : Entity) (es : List Entity) → kind_of e ≡ k
    → AllByRecursion (Before e) es → AllByRecursion (LiesBetween k low high) es
    → AllByRecursion (LiesBetween k (id_of e) high) es
higher k low high e [] is pairs between = tt
higher k low high e (d ∷ ds) is pairs between =
    ((λ same. (pairs.0.1 (is ∙ sym same), (between.0 same).1)), higher k low high e ds is pairs.1 between.1)

few : {A : Type 0} (pick : Entity → Option A) (k : EntityKind)
    (kinds : (e : Entity) (x : A) → pick e ≡ Some x → kind_of e ≡ k)
    (low high : ℕ) (es : List Entity) → low < high → EachPair Before es → AllByRecursion (LiesBetween k low high) es
    → length (filter_map pick es) + low < high
few pick k kinds low high [] less pairs between = omega (arith, less)
few {A} pick k kinds low high (e ∷ es) less pairs between =
    go (pick e) refl (λ l h b. few pick k kinds l high es h pairs.1 b)
  where
    go : (o : Option A) → pick e ≡ o
        → ((l : ℕ) → l < high → AllByRecursion (LiesBetween k l high) es → length (filter_map pick es) + l < high)
        → length (filter_map pick (e ∷ es)) + low < high
    go None is later = rw is (later low less between.1)
    go (Some x) is later =
        let same = kinds e x is in
        let here = between.0 same in
        let others = later (id_of e) here.1 (higher k low high e es same pairs.0 between.1) in
        rw is (omega (arith, here.0, others))

between_all : (k : EntityKind) (e : Entity) (es : List Entity) → kind_of e ≡ k
    → AllByRecursion (λ d. 0 < id_of d) es → AllByRecursion (λ d. Before d e) es
    → AllByRecursion (LiesBetween k 0 (id_of e)) es
between_all k e [] is some below = tt
between_all k e (d ∷ ds) is some below =
    ((λ same. (some.0, below.0.1 (same ∙ sym is))), between_all k e ds is some.1 below.1)

-- so many entities of the kind stand before this one
pub count-fits : {A : Type 0} (pick : Entity → Option A) (k : EntityKind)
    (kinds : (e : Entity) (x : A) → pick e ≡ Some x → kind_of e ≡ k) (es : List Entity) (e : Entity)
    (more : List Entity)
    → IsRising (es ++ e ∷ more) → kind_of e ≡ k → length (filter_map pick es) + 1 ≤ id_of e
count-fits pick k kinds es e more rising is =
    let ids = recursion_from_All (λ d. 0 < id_of d) (es ++ e ∷ more) rising.0 in
    let (pairs, below) = all_before es e more (each_pair Before (es ++ e ∷ more) rising.1) in
    let between = between_all k e es is (in_front (λ d. 0 < id_of d) es (e ∷ more) ids) below in
    let bound = few pick k kinds 0 (id_of e) es (in_place (λ d. 0 < id_of d) es e more ids) pairs between in
    omega (arith, bound)
