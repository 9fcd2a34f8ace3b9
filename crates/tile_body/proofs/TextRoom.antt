-- The texts of a record, slot by slot, have at most its bytes of texts.
use Rattle.std.proofs.Common.{◌≡◌, ℕ, ◌+◌, ◌≤◌, ◌<◌, List, [], ◌∷◌, length, refl, arith}
use Rattle.std.proofs.Common.{length-append, Option, Some, None, Bool, true, false, inl, inr}
use Rattle.std.specs.Prelude.{cond, unwrap_or, map}
use Rattle.std.specs.List.{enumerate_from}
use Rattle.std.proofs.lemmas.Bool.{cases_eq, eq-eqb, ne_eqb}
use Rattle.mf_base.specs.Texts.{Text}
use Rattle.mf_base.specs.declared.kept.Kept.{Kept as KeptRead}
use Rattle.mf_base.specs.declared.kept.KeptValue.{KeptValue}
use Rattle.mf_base.specs.declared.kept.KeptValue.TheVariants as read
use Rattle.feature_model.specs.Choice.{Kept}
use Rattle.feature_model.specs.Descriptions.{kept_text, text_size, kept_size}
use Rattle.feature_model.proofs.Totals.{total, sum-total}
use Rattle.mf_rows.specs.Records.{same_slot, text_in, kept_told}
use Rattle.mf_rows.specs.RecordUnits.{text_bytes}
use Rattle.mf_rows.specs.declared.head.TextSlot.{TextSlot}
use Rattle.mf_rows.specs.declared.head.TextSlot.TheVariants.{Name, House, Reference, Tag}

abbrev Slotted : Type 0
Slotted = List (TextSlot × Text)

-- the bytes of the text in a slot
abbrev size_in : Slotted → TextSlot → ℕ
size_in texts slot = text_size (text_in texts slot)

-- the bytes of the texts of tags, the first of this place
tags_size : Slotted → ℕ → List KeptRead → ℕ
tags_size texts i [] = 0
tags_size texts i (k ∷ tags) = size_in texts (Tag i) + tags_size texts (i + 1) tags

-- a text in front of others
front-size : (slot : TextSlot) (text : Text) (texts : Slotted) (at : TextSlot) (b : Bool) → same_slot slot at ≡ b
    → size_in ((slot, text) ∷ texts) at ≡ cond b (length text) (size_in texts at)
front-size slot text texts at true e = rw e refl
front-size slot text texts at false e = rw e refl

-- a text that is none of a tag changes none of these
tags-other : (slot : TextSlot) (text : Text) (texts : Slotted) → ((i : ℕ) → same_slot slot (Tag i) ≡ false)
    → (i : ℕ) (tags : List KeptRead) → tags_size ((slot, text) ∷ texts) i tags ≡ tags_size texts i tags
unfolding tags_size
tags-other slot text texts other i [] = refl
tags-other slot text texts other i (k ∷ tags) =
    let here = front-size slot text texts (Tag i) false (other i) in
    let rest = tags-other slot text texts other (i + 1) tags in
    omega (arith, here, rest)

-- nor does that of a tag before
tags-before : (j : ℕ) (text : Text) (texts : Slotted) (i : ℕ) (tags : List KeptRead) → j < i
    → tags_size ((Tag j, text) ∷ texts) i tags ≡ tags_size texts i tags
unfolding tags_size
tags-before j text texts i [] low = refl
tags-before j text texts i (k ∷ tags) low =
    let here = front-size (Tag j) text texts (Tag i) false (ne_eqb j i (λ e. omega (arith, e, low))) in
    let rest = tags-before j text texts (i + 1) tags (omega (arith, low)) in
    omega (arith, here, rest)

tags-front : (j : ℕ) (text : Text) (texts : Slotted) (i : ℕ) (tags : List KeptRead)
    → tags_size ((Tag j, text) ∷ texts) i tags ≤ length text + tags_size texts i tags
unfolding tags_size
tags-front j text texts i [] = omega arith
tags-front j text texts i (k ∷ tags) =
    elim (cases_eq j i) [
      | inl same ↦
          let here = front-size (Tag j) text texts (Tag i) true (eq-eqb j i same) in
          let rest = tags-before j text texts (i + 1) tags (omega (arith, same)) in
          omega (arith, here, rest)
      | inr other ↦
          let here = front-size (Tag j) text texts (Tag i) false (ne_eqb j i other) in
          let rest = tags-front j text texts (i + 1) tags in
          omega (arith, here, rest)
    ]

-- the bytes of the texts in all slots
all_size : Slotted → List KeptRead → ℕ
all_size texts tags = size_in texts Name + size_in texts House + size_in texts Reference + tags_size texts 0 tags

all-front : (slot : TextSlot) (text : Text) (texts : Slotted) (tags : List KeptRead)
    → all_size ((slot, text) ∷ texts) tags ≤ length text + all_size texts tags
unfolding all_size
all-front Name text texts tags = let rest = tags-other Name text texts (λ i. refl) 0 tags in omega (arith, rest)
all-front House text texts tags = let rest = tags-other House text texts (λ i. refl) 0 tags in omega (arith, rest)
all-front Reference text texts tags =
    let rest = tags-other Reference text texts (λ i. refl) 0 tags in omega (arith, rest)
all-front (Tag j) text texts tags = let rest = tags-front j text texts 0 tags in omega (arith, rest)

none-size : (i : ℕ) (tags : List KeptRead) → tags_size [] i tags ≡ 0
unfolding tags_size
none-size i [] = refl
none-size i (k ∷ tags) = let rest = none-size (i + 1) tags in omega (arith, rest)

all-within : (texts : Slotted) (tags : List KeptRead) → all_size texts tags ≤ length (text_bytes texts)
unfolding all_size
all-within [] tags = let none = none-size 0 tags in omega (arith, none)
all-within (t ∷ texts) tags =
    let here = all-front t.0 t.1 texts tags in
    let rest = all-within texts tags in
    let whole = length-append t.1 (text_bytes texts) in
    omega (arith, here, rest, whole)

-- ---- kept tags

kept-one : (texts : Slotted) (i : ℕ) (k : KeptRead)
    → text_size (kept_text (kept_told texts (i, k)).value) ≤ size_in texts (Tag i)
kept-one texts i k = by_value k.value
  where
    or-none : (o : Option Text) → length (unwrap_or o []) ≤ text_size o
    or-none None = omega arith
    or-none (Some t) = omega arith

    by_value : (v : KeptValue)
        → text_size (kept_text (kept_told texts (i, record { tag = k.tag; value = v })).value) ≤ size_in texts (Tag i)
    by_value read.Plain = omega arith
    by_value (read.Byte z) = omega arith
    by_value (read.Short z) = omega arith
    by_value (read.Int z) = omega arith
    by_value (read.Text len) = or-none (text_in texts (Tag i))

kept-all : (texts : Slotted) (i : ℕ) (tags : List KeptRead)
    → total (λ (k : Kept). text_size (kept_text k.value)) (map (kept_told texts) (enumerate_from i tags))
    ≤ tags_size texts i tags
unfolding tags_size
kept-all texts i [] = omega arith
kept-all texts i (k ∷ tags) =
    let here = kept-one texts i k in
    let rest = kept-all texts (i + 1) tags in
    omega (arith, here, rest)

-- the texts of a description have at most the bytes of the record's texts
pub texts-within : (texts : Slotted) (tags : List KeptRead)
    → text_size (text_in texts Name) + text_size (text_in texts House) + text_size (text_in texts Reference)
    + kept_size (map (kept_told texts) (enumerate_from 0 tags)) ≤ length (text_bytes texts)
unfolding kept_size all_size
texts-within texts tags =
    let kept = kept-all texts 0 tags in
    let sum = sum-total (λ (k : Kept). text_size (kept_text k.value)) (map (kept_told texts) (enumerate_from 0 tags)) in
    let all = all-within texts tags in
    omega (arith, kept, sum, all)
