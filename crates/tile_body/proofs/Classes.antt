-- Records one after another: what is put or counted of them by class.
use Rattle.std.proofs.Common.{◌≡◌, ℕ, zero, suc, ◌+◌, ◌≤◌, List, [], ◌∷◌, ◌++◌, length, refl, sym, ap}
use Rattle.std.proofs.Common.{◌∙◌, ◌≢◌, arith, Option, Some, None, Bool, true, false, true≢false, drop}
use Rattle.std.proofs.Common.{length-append, subst}
use Rattle.std.specs.Prelude.{filter, flat_map, slice_get, option_map, cond, not}
use Rattle.std.specs.List.{AllByRecursion}
use Rattle.std.proofs.lemmas.List.{drop_more, drop_all}
use Rattle.std.proofs.lemmas.Option.{slice_get_within, get_or_from_slice_get}
use Rattle.mf_base.specs.Buffer.{Buffer, AppendsTo, HasRoom}
use Rattle.mf_base.specs.declared.kind.EntityKind.TheVariants.{Node}
use Rattle.feature_model.specs.Features.{Feature}
use Rattle.map_model.specs.Members.{is_node_kind, is_poi, is_way}
use Rattle.mf_rows.specs.Records.{Record, candidate_told}
use Rattle.mf_rows.specs.declared.head.Head.{Head}
use Rattle.mf_rows.specs.Shapes.{feature_told}
use Rattle.tile_body.specs.Tiles.{features_told, class_bytes}
use Rattle.way_delta.proofs.Writing.{Completes, completes-part, completes-all, completes-front}

-- ---- the record of a place

pub drop-next : {X : Type 0} (xs : List X) (i : ℕ) (x : X) → Some x ≡ slice_get xs i
    → drop i xs ≡ x ∷ drop (i + 1) xs
drop-next xs i x is =
    drop_more xs i x (slice_get_within xs i x (sym is))
    ∙ ap (λ y. y ∷ drop (i + 1) xs) (get_or_from_slice_get xs i x x (sym is))

all-drop : {X : Type 0} (P : X → Type 0) (xs : List X) (i : ℕ) → AllByRecursion P xs → AllByRecursion P (drop i xs)
all-drop P xs zero all = all
all-drop P [] (suc i) all = tt
all-drop P (x ∷ xs) (suc i) all = all-drop P xs i all.1

-- what holds of all records holds of each
pub holds-at : {X : Type 0} (P : X → Type 0) (xs : List X) (i : ℕ) (x : X) → Some x ≡ slice_get xs i
    → AllByRecursion P xs → P x
holds-at P xs i x is all = (subst (AllByRecursion P) (drop-next xs i x is) (all-drop P xs i all)).0

-- the head of a place is that of its record
pub head-is : (records : List Record) (i : ℕ) (r : Record) (h : Head) → Some r ≡ slice_get records i
    → Some h ≡ option_map (λ (r : Record). r.head) (slice_get records i) → h ≡ r.head
head-is records i r h is e =
    let same : Some h ≡ Some r.head = e ∙ ap (option_map (λ (r : Record). r.head)) (sym is) in cc

-- the record of a place, where its head is known
pub record-there : (records : List Record) (i : ℕ) (h : Head)
    → Some h ≡ option_map (λ (r : Record). r.head) (slice_get records i)
    → (r : Record) × (Some r ≡ slice_get records i) × (h ≡ r.head)
record-there records i h is = by_option (slice_get records i) is
  where
    by_option : (o : Option Record) → Some h ≡ option_map (λ (r : Record). r.head) o
        → (r : Record) × (Some r ≡ o) × (h ≡ r.head)
    by_option (Some r) e = (r, refl, cc)
    by_option None e = absurd (cc)

-- ---- bytes

-- those of a feature, where it is of a class
abbrev part_of : (Feature → List ℕ) → (Feature → Bool) → Feature → List ℕ
part_of bytes class f = cond (class f) (bytes f) []

part-here : (bytes : Feature → List ℕ) (class : Feature → Bool) (f : Feature) → class f ≡ true
    → part_of bytes class f ≡ bytes f
part-here bytes class f is = rw is refl

part-other : (bytes : Feature → List ℕ) (class : Feature → Bool) (f : Feature) → class f ≡ false
    → part_of bytes class f ≡ []
part-other bytes class f is = rw is refl

module _ (bytes : Feature → List ℕ) (class : Feature → Bool) where
  class-more : (r : Record) (records : List Record)
      → class_bytes bytes class (features_told (r ∷ records))
      ≡ part_of bytes class (feature_told r) ++ class_bytes bytes class (features_told records)
  unfolding class_bytes
  class-more r records = by_test (class (feature_told r))
    where
      by_test : (b : Bool)
          → flat_map bytes (cond b (feature_told r ∷ filter class (features_told records))
          (filter class (features_told records)))
          ≡ cond b (bytes (feature_told r)) [] ++ flat_map bytes (filter class (features_told records))
      by_test true = refl
      by_test false = refl

  pub class-next : (records : List Record) (i : ℕ) (r : Record) → Some r ≡ slice_get records i
      → class_bytes bytes class (features_told (drop i records))
      ≡ part_of bytes class (feature_told r) ++ class_bytes bytes class (features_told (drop (i + 1) records))
  class-next records i r is =
      ap (λ rs. class_bytes bytes class (features_told rs)) (drop-next records i r is)
      ∙ class-more r (drop (i + 1) records)

  pub class-end : (records : List Record) (i : ℕ) → length records ≤ i
      → class_bytes bytes class (features_told (drop i records)) ≡ []
  unfolding class_bytes
  class-end records i past = ap (λ rs. class_bytes bytes class (features_told rs)) (drop_all i records past)

  -- what is still to be put completes the class
  pub PutsClass : (now first : Buffer) (records : List Record) (i : ℕ) → Type 0
  PutsClass now first records i =
      Completes now first (class_bytes bytes class (features_told (drop i records)))
      (class_bytes bytes class (features_told records))

  pub class-none : (first : Buffer) (records : List Record) → PutsClass first first records 0
  unfolding PutsClass
  class-none first records = record { bytes = refl; capacity = refl }

  -- a record of the class
  class-here : (records : List Record) (i : ℕ) (r : Record) → Some r ≡ slice_get records i
      → class (feature_told r) ≡ true → class_bytes bytes class (features_told (drop i records))
      ≡ bytes (feature_told r) ++ class_bytes bytes class (features_told (drop (i + 1) records))
  class-here records i r is belongs =
      class-next records i r is
      ∙ ap (λ b. b ++ class_bytes bytes class (features_told (drop (i + 1) records)))
      (part-here bytes class (feature_told r) belongs)

  -- a record of the other class
  class-passed : (records : List Record) (i : ℕ) (r : Record) → Some r ≡ slice_get records i
      → class (feature_told r) ≡ false → class_bytes bytes class (features_told (drop i records))
      ≡ class_bytes bytes class (features_told (drop (i + 1) records))
  class-passed records i r is other =
      class-next records i r is
      ∙ ap (λ b. b ++ class_bytes bytes class (features_told (drop (i + 1) records)))
      (part-other bytes class (feature_told r) other)

  pub class-room : (now first : Buffer) (records : List Record) (i : ℕ) (r : Record) → Some r ≡ slice_get records i
      → class (feature_told r) ≡ true → PutsClass now first records i
      → HasRoom first (length (class_bytes bytes class (features_told records)) + 10)
      → HasRoom now (length (bytes (feature_told r)) + 10)
  unfolding PutsClass
  class-room now first records i r is belongs h room =
      completes-front now first (class_bytes bytes class (features_told (drop i records)))
      (bytes (feature_told r)) (class_bytes bytes class (features_told (drop (i + 1) records)))
      (class_bytes bytes class (features_told records)) 10 (class-here records i r is belongs) h room

  pub class-puts : (now next first : Buffer) (records : List Record) (i : ℕ) (r : Record)
      → Some r ≡ slice_get records i → class (feature_told r) ≡ true → PutsClass now first records i
      → AppendsTo now next (bytes (feature_told r)) → PutsClass next first records (i + 1)
  unfolding PutsClass
  class-puts now next first records i r is belongs h put =
      completes-part now next first (class_bytes bytes class (features_told (drop i records)))
      (bytes (feature_told r)) (class_bytes bytes class (features_told (drop (i + 1) records)))
      (class_bytes bytes class (features_told records)) (class-here records i r is belongs) h put

  pub class-skips : (now first : Buffer) (records : List Record) (i : ℕ) (head : Head)
      → Some head ≡ option_map (λ (r : Record). r.head) (slice_get records i)
      → ((r : Record) → head ≡ r.head → class (feature_told r) ≡ false) → PutsClass now first records i
      → PutsClass now first records (i + 1)
  unfolding PutsClass
  class-skips now first records i head is other h =
      let there = record-there records i head is in
      subst (λ rest. Completes now first rest (class_bytes bytes class (features_told records)))
      (class-passed records i there.0 there.1 (other there.0 there.2)) h

  pub class-all : (now first : Buffer) (records : List Record) (i : ℕ) → length records ≤ i
      → PutsClass now first records i → AppendsTo first now (class_bytes bytes class (features_told records))
  unfolding PutsClass
  class-all now first records i past h =
      completes-all now first (class_bytes bytes class (features_told (drop i records)))
      (class_bytes bytes class (features_told records)) (class-end records i past) h

  -- what is measured and what is still to be measured is all
  pub MeasuresClass : (size : ℕ) (records : List Record) (i : ℕ) → Type 0
  MeasuresClass size records i =
      size + length (class_bytes bytes class (features_told (drop i records)))
      ≡ length (class_bytes bytes class (features_told records))

  pub measures-none : (records : List Record) → MeasuresClass 0 records 0
  unfolding MeasuresClass
  measures-none records =
      let e : length (class_bytes bytes class (features_told (drop 0 records)))
      ≡ length (class_bytes bytes class (features_told records)) = refl in
      omega (arith, e)

  pub measures-fit : (size part : ℕ) (records : List Record) (i : ℕ) (r : Record) → Some r ≡ slice_get records i
      → class (feature_told r) ≡ true → MeasuresClass size records i → part ≡ length (bytes (feature_told r))
      → size + part ≤ length (class_bytes bytes class (features_told records))
  unfolding MeasuresClass
  measures-fit size part records i r is belongs h e =
      let next = ap length (class-here records i r is belongs) in
      let sum = length-append (bytes (feature_told r))
      (class_bytes bytes class (features_told (drop (i + 1) records))) in
      omega (arith, h, e, next, sum)

  pub measures-more : (size part : ℕ) (records : List Record) (i : ℕ) (r : Record) → Some r ≡ slice_get records i
      → class (feature_told r) ≡ true → MeasuresClass size records i → part ≡ length (bytes (feature_told r))
      → MeasuresClass (size + part) records (i + 1)
  unfolding MeasuresClass
  measures-more size part records i r is belongs h e =
      let next = ap length (class-here records i r is belongs) in
      let sum = length-append (bytes (feature_told r))
      (class_bytes bytes class (features_told (drop (i + 1) records))) in
      omega (arith, h, e, next, sum)

  pub measures-skips : (size : ℕ) (records : List Record) (i : ℕ) (head : Head)
      → Some head ≡ option_map (λ (r : Record). r.head) (slice_get records i)
      → ((r : Record) → head ≡ r.head → class (feature_told r) ≡ false) → MeasuresClass size records i
      → MeasuresClass size records (i + 1)
  unfolding MeasuresClass
  measures-skips size records i head is other h =
      let there = record-there records i head is in
      let next = ap length (class-passed records i there.0 there.1 (other there.0 there.2)) in
      omega (arith, h, next)

  pub measures-all : (size : ℕ) (records : List Record) (i : ℕ) → length records ≤ i → MeasuresClass size records i
      → size ≡ length (class_bytes bytes class (features_told records))
  unfolding MeasuresClass
  measures-all size records i past h = let none = ap length (class-end records i past) in omega (arith, h, none)

-- ---- the class of a record by its head

pub poi-is : (r : Record) (h : Head) (b : Bool) → h ≡ r.head → b ≡ is_node_kind h.kind → is_poi (feature_told r) ≡ b
unfolding feature_told candidate_told
poi-is r h b same is = ap (λ (h : Head). is_node_kind h.kind) (sym same) ∙ sym is

pub way-is : (r : Record) (h : Head) (b : Bool) → h ≡ r.head → b ≡ is_node_kind h.kind
    → is_way (feature_told r) ≡ not b
unfolding feature_told candidate_told
way-is r h b same is = ap not (ap (λ (h : Head). is_node_kind h.kind) (sym same) ∙ sym is)

pub not-node : (r : Record) (h : Head) → h ≡ r.head → false ≡ is_node_kind h.kind → r.head.kind ≢ Node
not-node r h same is e =
    true≢false (ap is_node_kind (sym e) ∙ ap (λ (h : Head). is_node_kind h.kind) (sym same) ∙ sym is)
