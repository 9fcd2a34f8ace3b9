-- The units of a head are read again as this head.
use Rattle.std.proofs.Common.{◌≡◌, ◌⊎◌, inl, inr, ℕ, zero, suc, ◌+◌, ◌^◌, ◌≤◌, ◌<◌, Bool, true, false, List, []}
use Rattle.std.proofs.Common.{◌∷◌, ◌++◌, length, take, map, Option, Some, None, refl, sym, ap, ◌∙◌, arith, append_assoc}
use Rattle.std.specs.Prelude.{ℤ, slice_get, bytes_eq, flat_map, if◌then◌else◌, unwrap_or}
use Rattle.std.specs.List.{AllByRecursion}
use Rattle.std.specs.Int.{w8, w16, w32, cast_signed, cast_unsigned}
use Rattle.std.proofs.Math.Nat.{mod-eq_of_lt}
use Rattle.std.proofs.Math.Facts.{Fits-of_z}
use Rattle.std.proofs.lemmas.Int.{to_z-of_z}
use Rattle.std.proofs.lemmas.Bool.{cases_Bool}
use Rattle.std.proofs.lemmas.Slice.Eq.{bytes_eq-Decides}
use Rattle.mf_base.specs.declared.kept.Kept.{Kept}
use Rattle.mf_base.specs.declared.kept.KeptValue.{KeptValue}
use Rattle.mf_base.specs.declared.kept.KeptValue.TheVariants.{Plain, Byte, Short, Int, Text}
use Rattle.mf_base.specs.declared.kind.EntityKind.{EntityKind}
use Rattle.mf_rows.specs.Fields.{Field, number, coordinate, fields_bytes, AreFields, field_bytes}
use Rattle.mf_rows.specs.Places.{number_at, coordinate_at}
use Rattle.mf_rows.specs.Spelled.{fields-read_back, number_in, coordinate_in, fields_at, form_of}
use Rattle.mf_rows.specs.Units.{Unit16}
use Rattle.mf_rows.specs.Heads.{value_kind, value_number, kept_fields, value_told, kept_at, bit, kind_number}
use Rattle.mf_rows.specs.Heads.{height_bit, height_number, marks, id_unit, marks_unit, lengths_unit, kept_unit}
use Rattle.mf_rows.specs.Heads.{head_unit, kind_told, has_bit, height_told, all_kept, HeadTold, told_by, are_units}
use Rattle.mf_rows.specs.Heads.{head_in}
use Rattle.mf_rows.specs.FirstUnits.{IsValue, IsKeptTag, IsHead, AreLengths}
use Rattle.mf_rows.specs.declared.head.Head.{Head}
use Rattle.mf_rows.specs.declared.head_units.TextLengths.{TextLengths}

-- ---- values

value-again : (v : KeptValue) → IsValue v → value_told (value_kind v) (value_number v) ≡ v
value-again Plain is = refl
value-again (Byte z) is =
    let small : cast_unsigned w8 z < 256 = omega (arith, Fits-of_z {w = w8} {z = z} is) in
    ap (λ n. Byte (cast_signed w8 n)) (mod-eq_of_lt small) ∙ ap Byte (to_z-of_z w8 z is)
value-again (Short z) is =
    let small : cast_unsigned w16 z < 65536 = omega (arith, Fits-of_z {w = w16} {z = z} is) in
    ap (λ n. Short (cast_signed w16 n)) (mod-eq_of_lt small) ∙ ap Short (to_z-of_z w16 z is)
value-again (Int z) is = ap Int (to_z-of_z w32 z is)
value-again (Text len) is = ap Text (mod-eq_of_lt is)

value-fits : (v : KeptValue) → IsValue v → value_number v < 256 ^ 4
value-fits Plain is = omega arith
value-fits (Byte z) is = omega (arith, Fits-of_z {w = w8} {z = z} is)
value-fits (Short z) is = omega (arith, Fits-of_z {w = w16} {z = z} is)
value-fits (Int z) is = omega (arith, Fits-of_z {w = w32} {z = z} is)
value-fits (Text len) is = omega (arith, is)

kind-fits : (v : KeptValue) → value_kind v < 256 ^ 1
kind-fits Plain = omega arith
kind-fits (Byte z) = omega arith
kind-fits (Short z) = omega arith
kind-fits (Int z) = omega arith
kind-fits (Text len) = omega arith

-- ---- kept tags

-- a kept tag, or eight zeros
abbrev kept_or : Option Kept → Kept
kept_or None = record { tag = 0; value = Plain }
kept_or (Some k) = k

same-fields : (k : Option Kept) → kept_fields k ≡ kept_fields (Some (kept_or k))
same-fields None = refl
same-fields (Some k) = refl

kept-are : (k : Kept) → IsKeptTag k → AreFields (kept_fields (Some k))
kept-are k is = (omega (arith, is.0), (kind-fits k.value, (omega arith, (value-fits k.value is.1, tt))))

bytes-both : (xs ys : List Field) → fields_bytes (xs ++ ys) ≡ fields_bytes xs ++ fields_bytes ys
bytes-both [] ys = refl
bytes-both (f ∷ xs) ys = ap (λ more. field_bytes f ++ more) (bytes-both xs ys)
    ∙ sym (append_assoc (field_bytes f) (fields_bytes xs) (fields_bytes ys))

same-kept : (tag kind value : ℕ) (k : Kept) → IsKeptTag k → tag ≡ k.tag → kind ≡ value_kind k.value
    → value ≡ value_number k.value → ◌≡◌ {A = Kept} (record { tag = tag; value = value_told kind value }) k
same-kept tag kind value k is a b c =
    ap (λ n. record { tag = n; value = value_told kind value }) a
    ∙ ap (λ n. record { tag = k.tag; value = value_told n value }) b
    ∙ ap (λ n. record { tag = k.tag; value = value_told (value_kind k.value) n }) c
    ∙ ap (λ v. record { tag = k.tag; value = v }) (value-again k.value is.1)

module _ (j k : Kept) (j-is : IsKeptTag j) (k-is : IsKeptTag k) where
  abbrev pair_unit : Unit16
  pair_unit = fields_bytes (kept_fields (Some j) ++ kept_fields (Some k))

  pair-are : AreFields (kept_fields (Some j) ++ kept_fields (Some k))
  pair-are = (omega (arith, j-is.0), (kind-fits j.value, (omega arith, (value-fits j.value j-is.1, kept-are k k-is))))

  first-kept : kept_at 0 pair_unit ≡ j
  first-kept =
      let read = fields-read_back (kept_fields (Some j) ++ kept_fields (Some k)) pair-are in
      same-kept (number_at 0 2 pair_unit) (number_at 2 1 pair_unit) (number_at 4 4 pair_unit) j j-is
      (ap (number_in 0) read) (ap (number_in 1) read) (ap (number_in 3) read)

  second-kept : kept_at 8 pair_unit ≡ k
  second-kept =
      let read = fields-read_back (kept_fields (Some j) ++ kept_fields (Some k)) pair-are in
      same-kept (number_at 8 2 pair_unit) (number_at 10 1 pair_unit) (number_at 12 4 pair_unit) k k-is
      (ap (number_in 4) read) (ap (number_in 5) read) (ap (number_in 7) read)

-- what a unit of two kept tags tells
module _ (tags : List Kept) (i : ℕ) (j-is : IsKeptTag (kept_or (slice_get tags i)))
    (k-is : IsKeptTag (kept_or (slice_get tags (i + 1)))) where
  abbrev j : Kept
  j = kept_or (slice_get tags i)

  abbrev k : Kept
  k = kept_or (slice_get tags (i + 1))

  unit-is : kept_unit tags i ≡ fields_bytes (kept_fields (Some j) ++ kept_fields (Some k))
  unit-is = ap (λ fs. fields_bytes fs ++ fields_bytes (kept_fields (slice_get tags (i + 1))))
      (same-fields (slice_get tags i))
      ∙ ap (λ fs. fields_bytes (kept_fields (Some j)) ++ fields_bytes fs) (same-fields (slice_get tags (i + 1)))
      ∙ sym (bytes-both (kept_fields (Some j)) (kept_fields (Some k)))

  two-told : kept_at 0 (kept_unit tags i) ∷ kept_at 8 (kept_unit tags i) ∷ [] ≡ j ∷ k ∷ []
  two-told = ap (λ u. kept_at 0 u ∷ kept_at 8 u ∷ []) unit-is
      ∙ ap (λ x. x ∷ kept_at 8 (pair_unit j k j-is k-is) ∷ []) (first-kept j k j-is k-is)
      ∙ ap (λ x. j ∷ x ∷ []) (second-kept j k j-is k-is)

-- as many kept tags as are asked for, zeros behind the last
abbrev row : ℕ → (ℕ → Option Kept) → List Kept
row zero f = []
row (suc n) f = kept_or (f 0) ∷ row n (λ i. f (suc i))

tags-again : (tags : List Kept) (n : ℕ) → length tags ≤ n → take (length tags) (row n (slice_get tags)) ≡ tags
tags-again [] n few = refl
tags-again (k ∷ tags) zero few = absurd (omega (arith, few))
tags-again (k ∷ tags) (suc n) few = ap (λ more. k ∷ more) (tags-again tags n (omega (arith, few)))

none-fits : IsKeptTag (record { tag = 0; value = Plain })
none-fits = (omega arith, tt)

tag-fits : (tags : List Kept) (i : ℕ) → AllByRecursion IsKeptTag tags → IsKeptTag (kept_or (slice_get tags i))
tag-fits [] i all = none-fits
tag-fits (k ∷ tags) zero all = all.0
tag-fits (k ∷ tags) (suc i) all = tag-fits tags i all.1

-- ---- marks

bits-again : (w l c : Bool) (z : Option ℤ) →
    let m = bit w 1 + bit l 2 + bit c 4 + height_bit z in
    (has_bit m 1 ≡ w) × (has_bit m 2 ≡ l) × (has_bit m 4 ≡ c) × (height_told (has_bit m 8) (height_number z) ≡ z)
bits-again false false false None = (refl, refl, refl, refl)
bits-again false false true None = (refl, refl, refl, refl)
bits-again false true false None = (refl, refl, refl, refl)
bits-again false true true None = (refl, refl, refl, refl)
bits-again true false false None = (refl, refl, refl, refl)
bits-again true false true None = (refl, refl, refl, refl)
bits-again true true false None = (refl, refl, refl, refl)
bits-again true true true None = (refl, refl, refl, refl)
bits-again false false false (Some z) = (refl, refl, refl, refl)
bits-again false false true (Some z) = (refl, refl, refl, refl)
bits-again false true false (Some z) = (refl, refl, refl, refl)
bits-again false true true (Some z) = (refl, refl, refl, refl)
bits-again true false false (Some z) = (refl, refl, refl, refl)
bits-again true false true (Some z) = (refl, refl, refl, refl)
bits-again true true false (Some z) = (refl, refl, refl, refl)
bits-again true true true (Some z) = (refl, refl, refl, refl)

bit-most : (b : Bool) (n : ℕ) → bit b n ≤ n
bit-most false n = omega arith
bit-most true n = omega arith

height-most : (z : Option ℤ) → height_bit z ≤ 8
height-most None = omega arith
height-most (Some z) = omega arith

kind-again : (k : EntityKind) → kind_told (kind_number k) ≡ k
kind-again EntityKind.Node = refl
kind-again EntityKind.Way = refl
kind-again EntityKind.Relation = refl

kind-small : (k : EntityKind) → kind_number k < 256 ^ 1
kind-small EntityKind.Node = omega arith
kind-small EntityKind.Way = omega arith
kind-small EntityKind.Relation = omega arith

-- ---- units

module _ (h : Head) (t : TextLengths) (is : IsHead h) (lengths : AreLengths t) where
  abbrev at : ℕ → Kept
  at i = kept_or (slice_get h.tags.items i)

  abbrev id_fields : List Field
  id_fields = number 8 h.id ∷ number 8 h.number ∷ []

  id-read : fields_at 0 (map form_of id_fields) (fields_bytes id_fields) ≡ id_fields
  id-read = fields-read_back id_fields (omega (arith, is.id), (omega (arith, is.number), tt))

  marks-small : marks h < 256 ^ 1
  marks-small = omega (arith, bit-most h.water 1, bit-most h.label 2, bit-most h.coast 4, height-most h.height)

  abbrev second_fields : List Field
  second_fields = number 8 h.weight ∷ number 1 (kind_number h.kind) ∷ number 1 h.zoom
      ∷ number 1 (cast_unsigned w8 h.layer) ∷ number 1 (marks h) ∷ coordinate (height_number h.height) ∷ []

  marks-read : fields_at 0 (map form_of second_fields) (fields_bytes second_fields) ≡ second_fields
  marks-read = fields-read_back second_fields (
    omega (arith, is.weight),
    (
      kind-small h.kind,
      (
        omega (arith, is.zoom),
        (omega (arith, Fits-of_z {w = w8} {z = h.layer} is.layer), (marks-small, (is.height, tt))),
      ),
    ),
  )

  abbrev third_fields : List Field
  third_fields = (number 2 t.name ∷ number 2 t.house ∷ number 2 t.reference ∷ number 1 (length h.tags.items)
      ∷ number 1 0 ∷ []) ++ kept_fields (Some (at 0))

  third-is : lengths_unit h t ≡ fields_bytes third_fields
  third-is = ap (λ fs. fields_bytes ((number 2 t.name ∷ number 2 t.house ∷ number 2 t.reference
      ∷ number 1 (length h.tags.items) ∷ number 1 0 ∷ []) ++ fs)) (same-fields (slice_get h.tags.items 0))

  fits : (i : ℕ) → IsKeptTag (at i)
  fits i = tag-fits h.tags.items i is.tags

  third-read : fields_at 0 (map form_of third_fields) (fields_bytes third_fields) ≡ third_fields
  third-read = fields-read_back third_fields (
    omega (arith, lengths.name),
    (
      omega (arith, lengths.house),
      (
        omega (arith, lengths.reference),
        (omega (arith, is.few), (omega arith, kept-are (at 0) (fits 0))),
      ),
    ),
  )

  abbrev first : Unit16
  first = id_unit h

  abbrev second : Unit16
  second = marks_unit h

  abbrev third : Unit16
  third = fields_bytes third_fields

  abbrev unit_at : ℕ → Unit16
  unit_at i = kept_unit h.tags.items i

  abbrev more : List Unit16
  more = unit_at 1 ∷ unit_at 3 ∷ unit_at 5 ∷ unit_at 7 ∷ unit_at 9 ∷ unit_at 11 ∷ unit_at 13 ∷ []

  first-tag : kept_at 8 third ≡ at 0
  first-tag = same-kept (number_at 8 2 third) (number_at 10 1 third) (number_at 12 4 third) (at 0) (fits 0)
      (ap (number_in 5) third-read) (ap (number_in 6) third-read) (ap (number_in 8) third-read)

  one : (i : ℕ) → kept_at 0 (unit_at i) ∷ kept_at 8 (unit_at i) ∷ [] ≡ at i ∷ at (i + 1) ∷ []
  one i = two-told h.tags.items i (fits i) (fits (i + 1))

  pair : (i : ℕ) (later same : List Kept) → later ≡ same
      → kept_at 0 (unit_at i) ∷ kept_at 8 (unit_at i) ∷ later ≡ at i ∷ at (i + 1) ∷ same
  pair i later same e = ap (λ front. front ++ later) (one i) ∙ ap (λ back. at i ∷ at (i + 1) ∷ back) e

  all-tags : all_kept third more ≡ row 15 (slice_get h.tags.items)
  all-tags = ap (λ k. k ∷ flat_map (λ u. kept_at 0 u ∷ kept_at 8 u ∷ []) more) first-tag
      ∙ ap (λ ks. at 0 ∷ ks) (pair 1 _ _ (pair 3 _ _ (pair 5 _ _ (pair 7 _ _ (pair 9 _ _ (pair 11 _ _
      (pair 13 [] [] refl)))))))

  same-head : (kind : EntityKind) (id numbered weight zoom : ℕ) (layer : ℤ) (water label coast : Bool)
      (height : Option ℤ) (tags : List Kept) (name house reference : ℕ)
      → kind ≡ h.kind → id ≡ h.id → numbered ≡ h.number → weight ≡ h.weight → zoom ≡ h.zoom → layer ≡ h.layer
      → water ≡ h.water → label ≡ h.label → coast ≡ h.coast → height ≡ h.height → tags ≡ h.tags.items
      → name ≡ t.name → house ≡ t.house → reference ≡ t.reference
      → ◌≡◌ {A = HeadTold} (record {
        head = record {
          kind = kind;
          id = id;
          number = numbered;
          weight = weight;
          zoom = zoom;
          layer = layer;
          water = water;
          label = label;
          coast = coast;
          height = height;
          tags = record { items = tags };
        };
        texts = record { name = name; house = house; reference = reference };
      }) (record { head = h; texts = t })
  same-head kind id numbered weight zoom layer water label coast height tags name house reference a b c d e f g i p q l
      m n o = rw (a, b, c, d, e, f, g, i, p, q, l, m, n, o) refl

  taken : take (number_at 6 1 third) (all_kept third more) ≡ h.tags.items
  taken = ap (λ n. take n (all_kept third more)) (ap (number_in 3) third-read)
      ∙ ap (take (length h.tags.items)) all-tags ∙ tags-again h.tags.items 15 is.few

  abbrev bits : ℕ
  bits = number_at 11 1 second

  bits-are : bits ≡ marks h
  bits-are = ap (number_in 4) marks-read

  bits-read : (has_bit (marks h) 1 ≡ h.water) × (has_bit (marks h) 2 ≡ h.label) × (has_bit (marks h) 4 ≡ h.coast)
      × (height_told (has_bit (marks h) 8) (height_number h.height) ≡ h.height)
  bits-read = bits-again h.water h.label h.coast h.height

  pub told-again : told_by first second third more ≡ record { head = h; texts = t }
  told-again = same-head (kind_told (number_at 8 1 second)) (number_at 0 8 first) (number_at 8 8 first)
      (number_at 0 8 second) (number_at 9 1 second) (cast_signed w8 (number_at 10 1 second))
      (has_bit bits 1) (has_bit bits 2) (has_bit bits 4) (height_told (has_bit bits 8) (coordinate_at 12 second))
      (take (number_at 6 1 third) (all_kept third more)) (number_at 0 2 third) (number_at 2 2 third)
      (number_at 4 2 third)
      (ap (λ fs. kind_told (number_in 1 fs)) marks-read ∙ kind-again h.kind) (ap (number_in 0) id-read)
      (ap (number_in 1) id-read) (ap (number_in 0) marks-read) (ap (number_in 2) marks-read)
      (ap (λ fs. cast_signed w8 (number_in 3 fs)) marks-read ∙ to_z-of_z w8 h.layer is.layer)
      (ap (λ n. has_bit n 1) bits-are ∙ bits-read.0) (ap (λ n. has_bit n 2) bits-are ∙ bits-read.1)
      (ap (λ n. has_bit n 4) bits-are ∙ bits-read.2)
      (ap (λ n. height_told (has_bit n 8) (coordinate_at 12 second)) bits-are
      ∙ ap (λ fs. height_told (has_bit (marks h) 8) (coordinate_in 5 fs)) marks-read ∙ bits-read.3)
      taken (ap (number_in 0) third-read) (ap (number_in 1) third-read) (ap (number_in 2) third-read)

same_bytes : (bytes : List ℕ) → bytes_eq bytes bytes ≡ true
same_bytes bytes = (bytes_eq-Decides bytes bytes).1 refl

ten-same : (f : ℕ → Unit16) → are_units f 0 (map f (0 ∷ 1 ∷ 2 ∷ 3 ∷ 4 ∷ 5 ∷ 6 ∷ 7 ∷ 8 ∷ 9 ∷ [])) ≡ true
ten-same f = rw (
  same_bytes (f 0),
  same_bytes (f 1),
  same_bytes (f 2),
  same_bytes (f 3),
  same_bytes (f 4),
  same_bytes (f 5),
  same_bytes (f 6),
  same_bytes (f 7),
  same_bytes (f 8),
  same_bytes (f 9),
) refl

-- units that tell a head, and are its units
found-head : (a b c : Unit16) (us : List Unit16) (told : HeadTold) → told_by a b c us ≡ told
    → are_units (head_unit told.head told.texts) 0 (a ∷ b ∷ c ∷ us) ≡ true → head_in (a ∷ b ∷ c ∷ us) ≡ Some told
unfolding head_in
found-head a b c us told e holds =
    ap (λ (t : HeadTold). if are_units (head_unit t.head t.texts) 0 (a ∷ b ∷ c ∷ us) then Some t else None) e
    ∙ rw holds refl

module _ (h : Head) (t : TextLengths) (is : IsHead h) (lengths : AreLengths t) where
  abbrev f : ℕ → Unit16
  f = head_unit h t

  ten-told : told_by (f 0) (f 1) (f 2) (f 3 ∷ f 4 ∷ f 5 ∷ f 6 ∷ f 7 ∷ f 8 ∷ f 9 ∷ []) ≡ record { head = h; texts = t }
  unfolding head_unit
  ten-told = ap (λ u. told_by (id_unit h) (marks_unit h) u (more h t is lengths)) (third-is h t is lengths)
      ∙ told-again h t is lengths

  pub head-again : head_in (map (head_unit h t) (0 ∷ 1 ∷ 2 ∷ 3 ∷ 4 ∷ 5 ∷ 6 ∷ 7 ∷ 8 ∷ 9 ∷ []))
      ≡ Some (record { head = h; texts = t })
  head-again = found-head (f 0) (f 1) (f 2) (f 3 ∷ f 4 ∷ f 5 ∷ f 6 ∷ f 7 ∷ f 8 ∷ f 9 ∷ [])
      (record { head = h; texts = t }) ten-told (ten-same f)

-- ---- no other units are read as a head

-- so many units from one on
abbrev units_by : (ℕ → Unit16) → (from count : ℕ) → List Unit16
units_by f k zero = []
units_by f k (suc n) = f k ∷ units_by f (suc k) n

are-these : (f : ℕ → Unit16) (k : ℕ) (us : List Unit16) → are_units f k us ≡ true → us ≡ units_by f k (length us)
are-these f k [] is = refl
are-these f k (u ∷ us) is = by_test (cases_Bool (bytes_eq u (f k))) (are-these f (suc k) us)
  where
    by_test : (bytes_eq u (f k) ≡ true) ⊎ (bytes_eq u (f k) ≡ false)
        → (are_units f (suc k) us ≡ true → us ≡ units_by f (suc k) (length us))
        → u ∷ us ≡ f k ∷ units_by f (suc k) (length us)
    by_test (inl e) again =
        let more : are_units f (suc k) us ≡ true = sym (rw e refl) ∙ is in
        ap (λ v. v ∷ us) ((bytes_eq-Decides u (f k)).0 e) ∙ ap (λ vs. f k ∷ vs) (again more)
    by_test (inr e) again = let no : false ≡ true = sym (rw e refl) ∙ is in cc

pub head-only : (us : List Unit16) (t : HeadTold) → length us ≡ 10 → head_in us ≡ Some t
    → us ≡ map (head_unit t.head t.texts) (0 ∷ 1 ∷ 2 ∷ 3 ∷ 4 ∷ 5 ∷ 6 ∷ 7 ∷ 8 ∷ 9 ∷ [])
unfolding head_in
head-only [] t long is = cc
head-only (a ∷ []) t long is = cc
head-only (a ∷ b ∷ []) t long is = cc
head-only (a ∷ b ∷ c ∷ us) t long is =
    by_test (cases_Bool (are_units (head_unit told.head told.texts) 0 (a ∷ b ∷ c ∷ us)))
  where
    told : HeadTold
    told = told_by a b c us

    all : List Unit16
    all = a ∷ b ∷ c ∷ us

    by_test : (are_units (head_unit told.head told.texts) 0 all ≡ true)
        ⊎ (are_units (head_unit told.head told.texts) 0 all ≡ false)
        → all ≡ map (head_unit t.head t.texts) (0 ∷ 1 ∷ 2 ∷ 3 ∷ 4 ∷ 5 ∷ 6 ∷ 7 ∷ 8 ∷ 9 ∷ [])
    by_test (inl e) =
        let found : Some told ≡ Some t = sym (rw e refl) ∙ is in
        are-these (head_unit told.head told.texts) 0 all e
        ∙ ap (units_by (head_unit told.head told.texts) 0) long
        ∙ ap (λ (h : HeadTold). units_by (head_unit h.head h.texts) 0 10) (ap (λ o. unwrap_or o told) found)
    by_test (inr e) = let none : ◌≡◌ {A = Option HeadTold} None (Some t) = sym (rw e refl) ∙ is in cc
