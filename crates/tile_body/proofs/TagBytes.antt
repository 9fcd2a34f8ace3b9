-- The bytes of a record's tags, tag by tag.
use Rattle.std.proofs.Common.{◌≡◌, ℕ, suc, ◌+◌, ◌*◌, ◌≤◌, ◌<◌, List, [], ◌∷◌, ◌++◌, length, map, drop, get_or, refl}
use Rattle.std.proofs.Common.{sym}
use Rattle.std.proofs.Common.{ap, ◌∙◌, arith, length-append, subst}
use Rattle.std.specs.Prelude.{flat_map}
use Rattle.std.specs.List.{enumerate_from}
use Rattle.std.proofs.lemmas.List.{drop_more, drop_all}
use Rattle.mf_base.specs.Buffer.{Buffer, AppendsTo, HasRoom}
use Rattle.mf_base.specs.Spelling.{vbe_unsigned}
use Rattle.mf_base.specs.Texts.{Text}
use Rattle.mf_base.specs.declared.kept.Kept.{Kept as KeptRead}
use Rattle.feature_model.specs.Choice.{Kept}
use Rattle.map_model.specs.Layout.{layer_byte, value_bytes, tag_bytes}
use Rattle.mf_rows.specs.Records.{Record, kept_told}
use Rattle.mf_rows.specs.declared.head.TextSlot.{TextSlot}
use Rattle.way_delta.proofs.Writing.{Completes, completes-part, completes-all, completes-front, puts-two}
use Rattle.tile_body.specs.Tags.{tags_told, ids_bytes, value_told, values_from, values_bytes}

ids-told : (texts : List (TextSlot × Text)) (i : ℕ) (tags : List KeptRead)
    → flat_map (λ (k : Kept). vbe_unsigned k.tag) (map (kept_told texts) (enumerate_from i tags)) ≡ ids_bytes tags
unfolding ids_bytes
ids-told texts i [] = refl
ids-told texts i (k ∷ tags) = ap (λ l. vbe_unsigned k.tag ++ l) (ids-told texts (i + 1) tags)

values-told : (texts : List (TextSlot × Text)) (i : ℕ) (tags : List KeptRead)
    → flat_map (λ (k : Kept). value_bytes k.value) (map (kept_told texts) (enumerate_from i tags))
    ≡ values_from texts i tags
unfolding values_from
values-told texts i [] = refl
values-told texts i (k ∷ tags) = ap (λ l. value_told texts i k.value ++ l) (values-told texts (i + 1) tags)

pub count-told : (texts : List (TextSlot × Text)) (i : ℕ) (tags : List KeptRead)
    → length (map (kept_told texts) (enumerate_from i tags)) ≡ length tags
count-told texts i [] = refl
count-told texts i (k ∷ tags) = ap suc (count-told texts (i + 1) tags)

pub tag_bytes-told : (r : Record) → tag_bytes r.head.layer (tags_told r)
    ≡ (layer_byte r.head.layer (length r.head.tags.items) ∷ ids_bytes r.head.tags.items) ++ values_bytes r
unfolding tag_bytes
tag_bytes-told r =
    λ i. (layer_byte r.head.layer (count-told r.texts 0 r.head.tags.items i) ∷ ids-told r.texts 0 r.head.tags.items i)
    ++ values-told r.texts 0 r.head.tags.items i

-- ---- ids

ids-next : (tags : List KeptRead) (i : ℕ) (d : KeptRead) → i < length tags
    → ids_bytes (drop i tags) ≡ vbe_unsigned (get_or tags i d).tag ++ ids_bytes (drop (i + 1) tags)
unfolding ids_bytes
ids-next tags i d less = ap ids_bytes (drop_more tags i d less)

pub PutsIds : (now first : Buffer) (tags : List KeptRead) (i : ℕ) → Type 0
PutsIds now first tags i = Completes now first (ids_bytes (drop i tags)) (ids_bytes tags)

pub ids-none : (first : Buffer) (tags : List KeptRead) → PutsIds first first tags 0
unfolding PutsIds
ids-none first tags = record { bytes = refl; capacity = refl }

pub ids-room : (now first : Buffer) (tags : List KeptRead) (i : ℕ) (d : KeptRead) → i < length tags
    → PutsIds now first tags i → HasRoom first (length (ids_bytes tags) + 10)
    → HasRoom now (length (vbe_unsigned (get_or tags i d).tag) + 10)
unfolding PutsIds
ids-room now first tags i d less h room =
    completes-front now first (ids_bytes (drop i tags)) (vbe_unsigned (get_or tags i d).tag)
    (ids_bytes (drop (i + 1) tags)) (ids_bytes tags) 10 (ids-next tags i d less) h room

pub ids-more : (now next first : Buffer) (tags : List KeptRead) (i : ℕ) (d : KeptRead) → i < length tags
    → PutsIds now first tags i → AppendsTo now next (vbe_unsigned (get_or tags i d).tag)
    → PutsIds next first tags (i + 1)
unfolding PutsIds
ids-more now next first tags i d less h put =
    completes-part now next first (ids_bytes (drop i tags)) (vbe_unsigned (get_or tags i d).tag)
    (ids_bytes (drop (i + 1) tags)) (ids_bytes tags) (ids-next tags i d less) h put

pub ids-all : (now first : Buffer) (tags : List KeptRead) (i : ℕ) → length tags ≤ i → PutsIds now first tags i
    → AppendsTo first now (ids_bytes tags)
unfolding PutsIds ids_bytes
ids-all now first tags i end h =
    completes-all now first (ids_bytes (drop i tags)) (ids_bytes tags) (ap ids_bytes (drop_all i tags end)) h

pub MeasuresIds : (size : ℕ) (tags : List KeptRead) (i : ℕ) → Type 0
MeasuresIds size tags i = (size + length (ids_bytes (drop i tags)) ≡ length (ids_bytes tags)) × (size ≤ 10 * i)

pub measures_ids-none : (tags : List KeptRead) → MeasuresIds 0 tags 0
unfolding MeasuresIds
measures_ids-none tags = (omega arith, omega arith)

pub measures_ids-low : (size : ℕ) (tags : List KeptRead) (i : ℕ) → MeasuresIds size tags i → size ≤ 10 * i
unfolding MeasuresIds
measures_ids-low size tags i h = h.1

pub measures_ids-more : (size part : ℕ) (tags : List KeptRead) (i : ℕ) (d : KeptRead) → i < length tags
    → MeasuresIds size tags i → part ≡ length (vbe_unsigned (get_or tags i d).tag) → part ≤ 10
    → MeasuresIds (size + part) tags (i + 1)
unfolding MeasuresIds
measures_ids-more size part tags i d less h e low =
    let next = ap length (ids-next tags i d less) in
    let sum = length-append (vbe_unsigned (get_or tags i d).tag) (ids_bytes (drop (i + 1) tags)) in
    let all = h.0 in
    let most = h.1 in
    (omega (arith, all, next, sum, e), omega (arith, most, low))

pub measures_ids-all : (size : ℕ) (tags : List KeptRead) (i : ℕ) → length tags ≤ i → MeasuresIds size tags i
    → size ≡ length (ids_bytes tags)
unfolding MeasuresIds ids_bytes
measures_ids-all size tags i end h =
    let none = ap (λ l. length (ids_bytes l)) (drop_all i tags end) in let all = h.0 in omega (arith, all, none)

-- ---- values

module _ (texts : List (TextSlot × Text)) (tags : List KeptRead) where
  values-next : (i : ℕ) (d : KeptRead) → i < length tags → values_from texts i (drop i tags)
      ≡ value_told texts i (get_or tags i d).value ++ values_from texts (i + 1) (drop (i + 1) tags)
  unfolding values_from
  values-next i d less = ap (values_from texts i) (drop_more tags i d less)

  pub PutsValues : (now first : Buffer) (i : ℕ) → Type 0
  PutsValues now first i = Completes now first (values_from texts i (drop i tags)) (values_from texts 0 tags)

  pub values-none : (first : Buffer) → PutsValues first first 0
  unfolding PutsValues
  values-none first = record { bytes = refl; capacity = refl }

  pub values-room : (now first : Buffer) (i : ℕ) (d : KeptRead) → i < length tags → PutsValues now first i
      → HasRoom first (length (values_from texts 0 tags) + 10)
      → HasRoom now (length (value_told texts i (get_or tags i d).value) + 10)
  unfolding PutsValues
  values-room now first i d less h room =
      completes-front now first (values_from texts i (drop i tags)) (value_told texts i (get_or tags i d).value)
      (values_from texts (i + 1) (drop (i + 1) tags)) (values_from texts 0 tags) 10 (values-next i d less) h room

  pub values-more : (now next first : Buffer) (i : ℕ) (d : KeptRead) → i < length tags → PutsValues now first i
      → AppendsTo now next (value_told texts i (get_or tags i d).value) → PutsValues next first (i + 1)
  unfolding PutsValues
  values-more now next first i d less h put =
      completes-part now next first (values_from texts i (drop i tags)) (value_told texts i (get_or tags i d).value)
      (values_from texts (i + 1) (drop (i + 1) tags)) (values_from texts 0 tags) (values-next i d less) h put

  pub values-all : (now first : Buffer) (i : ℕ) → length tags ≤ i → PutsValues now first i
      → AppendsTo first now (values_from texts 0 tags)
  unfolding PutsValues values_from
  values-all now first i end h =
      completes-all now first (values_from texts i (drop i tags)) (values_from texts 0 tags)
      (ap (values_from texts i) (drop_all i tags end)) h

  pub MeasuresValues : (size i : ℕ) → Type 0
  MeasuresValues size i = size + length (values_from texts i (drop i tags)) ≡ length (values_from texts 0 tags)

  pub measures_values-none : MeasuresValues 0 0
  unfolding MeasuresValues
  measures_values-none = omega arith

  pub measures_values-more : (size part i : ℕ) (d : KeptRead) → i < length tags → MeasuresValues size i
      → part ≡ length (value_told texts i (get_or tags i d).value) → MeasuresValues (size + part) (i + 1)
  unfolding MeasuresValues
  measures_values-more size part i d less h e =
      let next = ap length (values-next i d less) in
      let sum = length-append (value_told texts i (get_or tags i d).value)
      (values_from texts (i + 1) (drop (i + 1) tags)) in
      omega (arith, h, next, sum, e)

  pub measures_values-fit : (size part i : ℕ) (d : KeptRead) → i < length tags → MeasuresValues size i
      → part ≡ length (value_told texts i (get_or tags i d).value) → size + part ≤ length (values_from texts 0 tags)
  unfolding MeasuresValues
  measures_values-fit size part i d less h e =
      let next = ap length (values-next i d less) in
      let sum = length-append (value_told texts i (get_or tags i d).value)
      (values_from texts (i + 1) (drop (i + 1) tags)) in
      omega (arith, h, next, sum, e)

  pub measures_values-all : (size i : ℕ) → length tags ≤ i → MeasuresValues size i
      → size ≡ length (values_from texts 0 tags)
  unfolding MeasuresValues values_from
  measures_values-all size i end h =
      let none = ap (λ l. length (values_from texts i l)) (drop_all i tags end) in omega (arith, h, none)

-- ---- both behind layer and number

pub tags-length : (r : Record) → length (tag_bytes r.head.layer (tags_told r))
    ≡ 1 + length (ids_bytes r.head.tags.items) + length (values_bytes r)
tags-length r =
    let all = ap length (tag_bytes-told r) in
    let sum = length-append (layer_byte r.head.layer (length r.head.tags.items) ∷ ids_bytes r.head.tags.items)
    (values_bytes r) in
    omega (arith, all, sum)

module _ (r : Record) (byte : ℕ) (tags : List KeptRead)
    (byte_is : byte ≡ layer_byte r.head.layer (length r.head.tags.items)) (tags_are : tags ≡ r.head.tags.items) where
  pub ids-after : (first next : Buffer) → AppendsTo first next (byte ∷ [])
      → HasRoom first (length (tag_bytes r.head.layer (tags_told r)) + 10) → HasRoom next (length (ids_bytes tags) + 10)
  ids-after first next put room =
      let all = tags-length r in
      let size = ap (λ (b : Buffer). length b.bytes) put ∙ length-append first.bytes (byte ∷ []) in
      let same = ap (λ (b : Buffer). b.capacity) put in
      let ids = ap (λ l. length (ids_bytes l)) tags_are in
      omega (arith, all, size, same, ids, room)

  pub values-after : (first next last : Buffer) → AppendsTo first next (byte ∷ [])
      → AppendsTo next last (ids_bytes tags)
      → HasRoom first (length (tag_bytes r.head.layer (tags_told r)) + 10)
      → HasRoom last (length (values_bytes r) + 10)
  values-after first next last put put_ids room =
      let all = tags-length r in
      let size = ap (λ (b : Buffer). length b.bytes) put ∙ length-append first.bytes (byte ∷ []) in
      let same = ap (λ (b : Buffer). b.capacity) put in
      let size2 = ap (λ (b : Buffer). length b.bytes) put_ids ∙ length-append next.bytes (ids_bytes tags) in
      let same2 = ap (λ (b : Buffer). b.capacity) put_ids in
      let ids = ap (λ l. length (ids_bytes l)) tags_are in
      omega (arith, all, size, same, size2, same2, ids, room)

  pub puts-tags : (first next last end : Buffer) → AppendsTo first next (byte ∷ [])
      → AppendsTo next last (ids_bytes tags) → AppendsTo last end (values_bytes r)
      → AppendsTo first end (tag_bytes r.head.layer (tags_told r))
  puts-tags first next last end put put_ids put_values =
      subst (AppendsTo first end)
      ((λ i. (byte_is i ∷ ids_bytes (tags_are i)) ++ values_bytes r) ∙ sym (tag_bytes-told r))
      (puts-two first last end (byte ∷ ids_bytes tags) (values_bytes r)
      (puts-two first next last (byte ∷ []) (ids_bytes tags) put put_ids) put_values)
