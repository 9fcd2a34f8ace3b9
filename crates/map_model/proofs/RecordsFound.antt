-- What is read as tags or as a POI is spelled so.
use Rattle.std.proofs.Common.{◌≡◌, ℕ, zero, suc, ◌-◌, ◌*◌, ◌/◌, ◌%◌, ◌^◌, ◌<◌, ◌≤◌, List, [], ◌∷◌, ◌++◌, length, refl}
use Rattle.std.proofs.Common.{sym, ap, ◌∙◌, subst, arith, inl, inr, true}
use Rattle.std.specs.Prelude.{Bool, flat_map, ◌==◌, ℤ, pos, negsuc, ◌-ℤ◌, Ok, IsTrue, is_some}
use Rattle.std.specs.List.{AllByRecursion, AllZip}
use Rattle.std.specs.Int.{w8, w16, w32, cast_signed}
use Rattle.std.proofs.lemmas.Bool.{cases_lt, lt-ltb, le-ltb, le-leb, leb-true, ltb-true}
use Rattle.std.proofs.lemmas.Int.{of_z-to_z}
use Rattle.std.proofs.Math.IntN.{+ℤ_idr, -ℤ-+ℤ_cancel}
use Rattle.std.proofs.Math.Nat.{mod-eq_of_lt}
use Rattle.mf_base.specs.Spelling.{IsBytes, vbe_unsigned, vbe_signed, string, big_endian}
use Rattle.mf_base.specs.declared.place.Place.{Place}
use Rattle.mf_base.specs.Ranges.{lies_within}
use Rattle.mf_base.proofs.StepLaws.{bind_ok, require_ok, ok_is}
use Rattle.feature_model.specs.Mapping.{IsOfKind, KeptValue, ValueKind}
use Rattle.feature_model.specs.Choice.{Kept}
use Rattle.map_model.specs.Layout.{PoiFields, flag, layer_byte, value_bytes, tag_bytes, poi_flags, poi_fields_bytes}
use Rattle.map_model.specs.TagLists.{tag_kind, tag_at}
use Rattle.map_model.specs.Reader.{fixed_number}
use Rattle.map_model.specs.TileReading.{tile_text_at, ranged, layer_at, id_at, value_at, kept_at, tags_at, has_flag}
use Rattle.map_model.specs.TileReading.{poi_at, IsText, IsKeptOf, IsPoi}
use Rattle.map_model.specs.declared.fault.TileKind.{TileKind}
use Rattle.map_model.proofs.ReaderFound.{Takes, IsFound, Finds, nothing, then, fixed_number-found, times-found}
use Rattle.map_model.proofs.ReaderFound.{each-found, where_set-found}
use Rattle.map_model.proofs.PlacesFound.{IsSigned32, number-found, text_at-found, ranged-found, place_from-found}

-- ---- layer

-- the spelling of a number in one byte
one_byte : (n : ℕ) → n < 256 → big_endian 1 n ≡ n ∷ []
unfolding big_endian
one_byte n fits = ap (λ b. b ∷ []) (mod-eq_of_lt fits)

pub byte-found : {Kind : Type 0} (short : Kind) → Finds (fixed_number short 1) (λ n. n ∷ []) (λ n. n < 256)
byte-found short bytes r small e =
    let found = fixed_number-found short 1 bytes r small e in
    (subst (λ text. Takes bytes text r.1) (one_byte r.0 found.1) found.0, found.1)

layer-within : (c : ℕ) → c ≤ 10 → lies_within (negsuc 4) (pos 5) (pos c -ℤ pos 5) ≡ true
layer-within c few = elim (cases_lt c 5) [
  | inl low ↦ rw (lt-ltb c 5 low, le-leb (5 - suc c) 4 (omega arith)) refl
  | inr high ↦ rw (le-ltb c 5 high, le-leb (c - 5) 5 (omega (arith, few))) refl
]

-- a layer, and a number of tags
abbrev pub IsLayer : ℤ × ℕ → Type 0
IsLayer l = IsTrue (lies_within (negsuc 4) (pos 5) l.0) × (l.1 < 16)

pub layer_at-found : Finds layer_at (λ l. layer_byte l.0 l.1 ∷ []) IsLayer
unfolding layer_at
layer_at-found bytes r small e =
    let b = bind_ok _ _ r e in
    let fits = bind_ok _ _ r b.2 in
    let found = byte-found TileKind.Short bytes b.0 small b.1 in
    let few = leb-true (b.0.0 / 16) 10 (require_ok _ _ _ fits.1) in
    let code : layer_byte (pos (b.0.0 / 16) -ℤ pos 5) (b.0.0 % 16) ≡ b.0.0 =
    rw (-ℤ-+ℤ_cancel (pos (b.0.0 / 16)) (pos 5)) (omega arith) in
    subst (IsFound (λ l. layer_byte l.0 l.1 ∷ []) IsLayer bytes)
    (ok_is ((pos (b.0.0 / 16) -ℤ pos 5, b.0.0 % 16), b.0.1) r fits.2)
    (subst (λ c. Takes bytes (c ∷ []) b.0.1) (sym code) found.0, (layer-within (b.0.0 / 16) few, omega arith))

-- ---- values and tags

signed_8 : (n : ℕ) → n < 256 → lies_within (negsuc 127) (pos 127) (cast_signed w8 n) ≡ true
signed_8 n fits = elim (cases_lt n 128) [
  | inl low ↦ rw (lt-ltb n 128 low, le-leb n 127 (omega (arith, low))) refl
  | inr high ↦ rw (le-ltb n 128 high, le-leb (256 - suc n) 127 (omega (arith, high))) refl
]

signed_16 : (n : ℕ) → n < 65536 → lies_within (negsuc 32767) (pos 32767) (cast_signed w16 n) ≡ true
signed_16 n fits = elim (cases_lt n 32768) [
  | inl low ↦ rw (lt-ltb n 32768 low, le-leb n 32767 (omega (arith, low))) refl
  | inr high ↦ rw (le-ltb n 32768 high, le-leb (65536 - suc n) 32767 (omega (arith, high))) refl
]

pub signed_32-within : (n : ℕ) → n < 4294967296
    → lies_within (negsuc 2147483647) (pos 2147483647) (cast_signed w32 n) ≡ true
signed_32-within n fits = elim (cases_lt n 2147483648) [
  | inl low ↦ rw (lt-ltb n 2147483648 low, le-leb n 2147483647 (omega (arith, low))) refl
  | inr high ↦ rw (le-ltb n 2147483648 high, le-leb (4294967296 - suc n) 2147483647 (omega (arith, high))) refl
]

pub value_at-found : (kind : ValueKind) → Finds (value_at kind) value_bytes (IsOfKind IsText kind)
value_at-found ValueKind.plain bytes r small e =
    subst (IsFound value_bytes (IsOfKind IsText ValueKind.plain) bytes) (ok_is (KeptValue.plain, bytes) r e)
    (nothing bytes small, tt)
value_at-found ValueKind.byte bytes r small e =
    let n = bind_ok _ _ r e in
    let found = fixed_number-found TileKind.Short 1 bytes n.0 small n.1 in
    subst (IsFound value_bytes (IsOfKind IsText ValueKind.byte) bytes)
    (ok_is (KeptValue.byte (cast_signed w8 n.0.0), n.0.1) r n.2)
    (subst (λ m. Takes bytes (big_endian 1 m) n.0.1) (sym (of_z-to_z w8 n.0.0 found.1)) found.0, signed_8 n.0.0 found.1)
value_at-found ValueKind.short bytes r small e =
    let n = bind_ok _ _ r e in
    let found = fixed_number-found TileKind.Short 2 bytes n.0 small n.1 in
    subst (IsFound value_bytes (IsOfKind IsText ValueKind.short) bytes)
    (ok_is (KeptValue.short (cast_signed w16 n.0.0), n.0.1) r n.2) (
      subst (λ m. Takes bytes (big_endian 2 m) n.0.1) (sym (of_z-to_z w16 n.0.0 found.1)) found.0,
      signed_16 n.0.0 found.1,
    )
value_at-found ValueKind.int bytes r small e =
    let n = bind_ok _ _ r e in
    let found = fixed_number-found TileKind.Short 4 bytes n.0 small n.1 in
    subst (IsFound value_bytes (IsOfKind IsText ValueKind.int) bytes)
    (ok_is (KeptValue.int (cast_signed w32 n.0.0), n.0.1) r n.2) (
      subst (λ m. Takes bytes (big_endian 4 m) n.0.1) (sym (of_z-to_z w32 n.0.0 found.1)) found.0,
      signed_32-within n.0.0 found.1,
    )
value_at-found ValueKind.text bytes r small e =
    let t = bind_ok _ _ r e in
    let found = text_at-found bytes t.0 small t.1 in
    subst (IsFound value_bytes (IsOfKind IsText ValueKind.text) bytes) (ok_is (KeptValue.text t.0.0, t.0.1) r t.2) found

-- a number of a tag in this list
abbrev pub IsId : List (List ℕ) → ℕ → Type 0
IsId tags id = (id < length tags) × (id < 2 ^ 63)

pub id_at-found : (tags : List (List ℕ)) → Finds (id_at tags) vbe_unsigned (IsId tags)
unfolding id_at
id_at-found tags bytes r small e =
    let id = bind_ok _ _ r e in
    let known = bind_ok _ _ r id.2 in
    let found = number-found bytes id.0 small id.1 in
    subst (IsFound vbe_unsigned (IsId tags) bytes) (ok_is id.0 r known.2)
    (found.0, (ltb-true id.0.0 (length tags) (require_ok _ _ _ known.1), found.1))

-- what is kept has this id
abbrev pub IsKeptAs : List (List ℕ) → ℕ → Kept → Type 0
IsKeptAs tags id k = (k.tag ≡ id) × IsOfKind IsText (tag_kind (tag_at tags id)) k.value

kept_at-found : (tags : List (List ℕ)) (id : ℕ) → Finds (kept_at tags id) (λ k. value_bytes k.value) (IsKeptAs tags id)
kept_at-found tags id bytes r small e =
    let value = bind_ok _ _ r e in
    let found = value_at-found (tag_kind (tag_at tags id)) bytes value.0 small value.1 in
    subst (IsFound (λ k. value_bytes k.value) (IsKeptAs tags id) bytes)
    (ok_is (record { tag = id; value = value.0.0 }, value.0.1) r value.2) (found.0, (refl, found.1))

-- what the ids and the values tell together
record AreKept (tags : List (List ℕ)) (ids : List ℕ) (kept : List Kept) : Type 0 where
  spelt : flat_map vbe_unsigned ids ≡ flat_map (λ k. vbe_unsigned k.tag) kept
  many : length kept ≡ length ids
  each : AllByRecursion (IsKeptOf tags) kept

are_kept : (tags : List (List ℕ)) (ids : List ℕ) (kept : List Kept) → AllByRecursion (IsId tags) ids
    → AllZip (IsKeptAs tags) ids kept → AreKept tags ids kept
are_kept tags [] [] known same = record { spelt = refl; many = refl; each = tt }
are_kept tags [] (k ∷ kept) known same = absurd same
are_kept tags (id ∷ ids) [] known same = absurd same
are_kept tags (id ∷ ids) (k ∷ kept) known same =
    let others = are_kept tags ids kept known.1 same.1 in
    let tag : id ≡ k.tag = sym same.0.0 in
    record {
      spelt = (λ i. vbe_unsigned (tag i) ++ others.spelt i);
      many = ap suc others.many;
      each = (
        subst (λ m. (m < length tags) × (m < 2 ^ 63) × IsOfKind IsText (tag_kind (tag_at tags m)) k.value) tag
            (known.0.0, known.0.1, same.0.1),
        others.each,
      );
    }

-- the ids, then the values
abbrev pub kept_bytes : List Kept → List ℕ
kept_bytes kept = flat_map (λ k. vbe_unsigned k.tag) kept ++ flat_map (λ k. value_bytes k.value) kept

pub tags_at-found : (tags : List (List ℕ)) (count : ℕ)
    → Finds (tags_at tags count) kept_bytes (λ kept. (length kept ≡ count) × AllByRecursion (IsKeptOf tags) kept)
unfolding tags_at
tags_at-found tags count bytes r small e =
    let ids = bind_ok _ _ r e in
    let a = times-found (id_at tags) vbe_unsigned (IsId tags) (id_at-found tags) count bytes ids.0 small ids.1 in
    let b = each-found (kept_at tags) (λ k. value_bytes k.value) (IsKeptAs tags) (kept_at-found tags) ids.0.0 ids.0.1 r
    a.0.behind ids.2 in
    let all = are_kept tags ids.0.0 r.0 a.1.1 b.1 in
    (then (subst (λ text. Takes bytes text ids.0.1) all.spelt a.0) b.0, (all.many ∙ a.1.0, all.each))

-- layer, number of tags, ids and values
pub record AreTags (tags : List (List ℕ)) (bytes : List ℕ) (layer : ℤ) (kept : List Kept) (rest : List ℕ) : Type 0 where
  pub spelt : Takes bytes (tag_bytes layer kept) rest
  pub low : IsTrue (lies_within (negsuc 4) (pos 5) layer)
  pub few : length kept < 16
  pub each : AllByRecursion (IsKeptOf tags) kept

pub layered : (tags : List (List ℕ)) (bytes : List ℕ) (l : (ℤ × ℕ) × List ℕ) (kept : List Kept × List ℕ) → IsBytes bytes
    → layer_at bytes ≡ Ok l → tags_at tags l.0.1 l.1 ≡ Ok kept → AreTags tags bytes l.0.0 kept.0 kept.1
unfolding tag_bytes
layered tags bytes l kept small el ek =
    let a = layer_at-found bytes l small el in
    let b = tags_at-found tags l.0.1 l.1 kept a.0.behind ek in
    let many = b.1.0 in
    record {
      spelt = then (subst (λ n. Takes bytes (layer_byte l.0.0 n ∷ []) l.1) (sym many) a.0) b.0;
      low = a.1.0;
      few = rw many a.1.1;
      each = b.1.1;
    }

-- ---- flags

-- a bit of a byte, as a flag that is set
bit_flag : (bit m : ℕ) → m < 2 → flag (m == 1) bit ≡ bit * m
bit_flag bit zero few = omega arith
bit_flag bit (suc zero) few = omega arith
bit_flag bit (suc (suc m)) few = absurd (omega (arith, few))

pub flag_as : (flags bit : ℕ) (set : Bool) → set ≡ has_flag flags bit → flag set bit ≡ bit * (flags / bit % 2)
flag_as flags bit set e = ap (λ b. flag b bit) e ∙ bit_flag bit (flags / bit % 2) (omega arith)

-- ---- POI

height-found : Finds (ranged (pos 0)) vbe_signed IsSigned32
height-found bytes r small e =
    let found = ranged-found (pos 0) bytes r small e in
    (subst (λ z. Takes bytes (vbe_signed z) r.1) (+ℤ_idr r.0) found.0, found.1)

poi_flags-sum : (p : PoiFields) (flags : ℕ) → flags < 256 → is_some p.name ≡ has_flag flags 0x80
    → is_some p.house ≡ has_flag flags 0x40 → is_some p.height ≡ has_flag flags 0x20 → p.other ≡ flags % 32
    → poi_flags p ≡ flags
poi_flags-sum p flags fits name house height other =
    let a = flag_as flags 0x80 (is_some p.name) name in
    let b = flag_as flags 0x40 (is_some p.house) house in
    let c = flag_as flags 0x20 (is_some p.height) height in
    omega (arith, a, b, c, other, fits)

-- the bits without a name
below_32 : (n : ℕ) → n % 32 < 32
below_32 n = omega arith

pub below_4 : (n : ℕ) → n % 4 < 4
below_4 n = omega arith

pub poi_at-found : (names : List (List ℕ)) (corner : Place)
    → Finds (poi_at names corner) (poi_fields_bytes corner) (IsPoi names)
unfolding poi_at poi_fields_bytes
poi_at-found names corner bytes r small e =
    let place = bind_ok _ _ r e in
    let layer = bind_ok _ _ r place.2 in
    let kept = bind_ok _ _ r layer.2 in
    let flags = bind_ok _ _ r kept.2 in
    let name = bind_ok _ _ r flags.2 in
    let house = bind_ok _ _ r name.2 in
    let height = bind_ok _ _ r house.2 in
    let a = place_from-found corner bytes place.0 small place.1 in
    let b = layered names place.0.1 layer.0 kept.0 a.0.behind layer.1 kept.1 in
    let c = byte-found TileKind.Short kept.0.1 flags.0 b.spelt.behind flags.1 in
    let d = where_set-found tile_text_at string IsText text_at-found (has_flag flags.0.0 0x80) flags.0.1 name.0
    c.0.behind name.1 in
    let h = where_set-found tile_text_at string IsText text_at-found (has_flag flags.0.0 0x40) name.0.1 house.0
    d.0.behind house.1 in
    let i = where_set-found (ranged (pos 0)) vbe_signed IsSigned32 height-found (has_flag flags.0.0 0x20) house.0.1
    height.0 h.0.behind height.1 in
    let p : PoiFields = record {
      place = place.0.0;
      layer = layer.0.0.0;
      tags = kept.0.0;
      other = flags.0.0 % 32;
      name = name.0.0;
      house = house.0.0;
      height = height.0.0;
    } in
    let sum = poi_flags-sum p flags.0.0 c.1 d.1.1 h.1.1 i.1.1 refl in
    let told = subst (λ f. Takes kept.0.1 (f ∷ []) flags.0.1) (sym sum) c.0 in
    subst (IsFound (poi_fields_bytes corner) (IsPoi names) bytes) (ok_is (p, height.0.1) r height.2) (
      then (then (then (then a.0 b.spelt) (then told d.0)) h.0) i.0,
      record {
        place = a.1;
        layer = b.low;
        few = b.few;
        kept = b.each;
        other = below_32 flags.0.0;
        name = d.1.0;
        house = h.1.0;
        height = i.1.0;
      },
    )
