-- What POIs and ways tell is read again from their bytes.
use Rattle.std.proofs.Common.{◌≡◌, ℕ, zero, suc, ◌+◌, ◌-◌, ◌*◌, ◌/◌, ◌%◌, ◌^◌, ◌<◌, ◌≤◌, List, [], ◌∷◌, ◌++◌, map}
use Rattle.std.proofs.Common.{length, refl, sym, ap, ◌∙◌, arith, true, false, length-append, append_assoc, append-nil}
use Rattle.std.specs.Prelude.{Bool, flat_map, zip, cond, ℤ, pos, negsuc, ◌+ℤ◌, ◌-ℤ◌, Ok, Some, None, Option, IsTrue}
use Rattle.std.specs.Prelude.{leb, is_some, IfSome}
use Rattle.std.specs.List.{AllByRecursion}
use Rattle.std.specs.Int.{w8, w16, w32}
use Rattle.std.proofs.lemmas.Bool.{lt-ltb, le-ltb, le-leb, leb-true, eq-eqb}
use Rattle.std.proofs.lemmas.List.{length-map, drop_at, take_at}
use Rattle.std.proofs.lemmas.Int.{to_z-of_z}
use Rattle.std.proofs.Math.IntN.{+ℤ_idr, +ℤ-neg_ℤ_cancel}
use Rattle.byteorder.specs.Endian.{big_number}
use Rattle.byteorder.specs.Numbers.{big_number-reads_back}
use Rattle.mf_base.specs.Spelling.{vbe_unsigned, vbe_signed, string, big_endian}
use Rattle.mf_base.specs.declared.place.Place.{Place}
use Rattle.mf_base.specs.Ranges.{is_signed_32, lies_within}
use Rattle.mf_base.specs.declared.tile.Interval.{Interval}
use Rattle.mf_base.specs.declared.tile.TilePlace.{TilePlace}
use Rattle.mf_base.proofs.OneSpelling.{length-vbe-positive}
use Rattle.feature_model.specs.Features.{Block, Feature}
use Rattle.feature_model.specs.Inside.{Ring}
use Rattle.feature_model.specs.Mapping.{IsOfKind, KeptValue, ValueKind}
use Rattle.feature_model.specs.Choice.{Kept}
use Rattle.map_model.specs.Numbers.{above_zero}
use Rattle.map_model.specs.Layout.{PoiFields, WayFields, Level, optional, flag, layer_byte, value_bytes, tag_bytes}
use Rattle.map_model.specs.Layout.{step, step_bytes, poi_flags, poi_fields_bytes, way_flags, first_of_blocks}
use Rattle.map_model.specs.Layout.{way_body_bytes, way_fields_bytes, sized, ring_bytes, block_bytes, level_count_bytes}
use Rattle.map_model.specs.Layout.{levels_bytes}
use Rattle.map_model.specs.Intervals.{zooms}
use Rattle.map_model.specs.Members.{in_tile_order}
use Rattle.map_model.specs.TileBytes.{tile_corner, tile_bytes, written_level, written_levels}
use Rattle.map_model.proofs.CornerLemmas.{tile_corner-in_range}
use Rattle.map_model.proofs.LevelLemmas.{levels-shown}
use Rattle.map_model.specs.Listed.{Listed, listed, shown_levels}
use Rattle.map_model.specs.TagLists.{TagLists, tag_kind, tag_at}
use Rattle.map_model.specs.Reader.{Read, fixed_number, times, read_each, where_set}
use Rattle.map_model.specs.TileReading.{number, tile_text_at, ranged, layer_at, id_at, value_at, kept_at, tags_at}
use Rattle.map_model.specs.TileReading.{has_flag, poi_at, block_at, block_count_at, blocks_at, first_place_at}
use Rattle.map_model.specs.TileReading.{two_signed, label_and_blocks_at, way_body_at, way_at, counts_at, level_of}
use Rattle.map_model.specs.TileReading.{levels_at, read_tile_from, read_tile, ReadsTile, IsLevel, SpellsLevels, IsText}
use Rattle.map_model.specs.TileReading.{IsPlaceOf32Bits, IsKeptOf, IsPoi, IsToldBlock, IsWay}
use Rattle.map_model.specs.declared.fault.TileKind.{TileKind}
use Rattle.mf_base.proofs.ByteLaws.{length-big_endian}
use Rattle.map_model.proofs.PlacesAgain.{Again, number-again, signed-again, count_from-again, text_at-again}
use Rattle.map_model.proofs.PlacesAgain.{ranged-again, place_from-again, block_at-again, times-again, and-true}
use Rattle.map_model.proofs.PlacesAgain.{after_first, coordinates-split, nat_abs-step}

-- ---- fixed widths

pub fixed_number-again : {Kind : Type 0} (short : Kind) (width n : ℕ) → n < 256 ^ width
    → Again (fixed_number short width) (big_endian width n) n
unfolding Again big_endian
fixed_number-again short width n fits rest =
    let len = length-big_endian width n in
    rw (
      le-ltb (length (big_endian width n ++ rest)) width
          (rw (length-append (big_endian width n) rest) (omega (arith, len))),
      take_at (big_endian width n) rest width len,
      drop_at (big_endian width n) rest width len,
    ) (ap (λ m. Ok (m, rest)) here)
  where
    here : big_number width (big_endian width n) ≡ n
    here = ap (big_number width) (sym (append-nil (big_endian width n))) ∙ big_number-reads_back width n [] fits

pub one_byte-again : {Kind : Type 0} (short : Kind) (b : ℕ) (rest : List ℕ)
    → fixed_number short 1 (b ∷ rest) ≡ Ok (b, rest)
one_byte-again short b rest = rw (le-ltb (suc (length rest)) 1 (omega arith)) (ap (λ m. Ok (m, rest)) value)
  where
    value : b * 256 ^ 0 + 0 ≡ b
    value = omega arith

-- ---- layer

record LayerCode (z : ℤ) : Type 0 where
  code : ℕ
  few : code ≤ 10
  is : above_zero (z +ℤ pos 5) ≡ code
  shown : pos code -ℤ pos 5 ≡ z

layer_code : (z : ℤ) → lies_within (negsuc 4) (pos 5) z ≡ true → LayerCode z
layer_code (pos n) e = let le = leb-true n 5 e in
    record { code = n + 5; few = omega (arith, le); is = refl; shown = +ℤ-neg_ℤ_cancel (pos n) (pos 5) }
layer_code (negsuc zero) e = record { code = 4; few = omega arith; is = refl; shown = refl }
layer_code (negsuc (suc zero)) e = record { code = 3; few = omega arith; is = refl; shown = refl }
layer_code (negsuc (suc (suc zero))) e = record { code = 2; few = omega arith; is = refl; shown = refl }
layer_code (negsuc (suc (suc (suc zero)))) e = record { code = 1; few = omega arith; is = refl; shown = refl }
layer_code (negsuc (suc (suc (suc (suc zero))))) e = record { code = 0; few = omega arith; is = refl; shown = refl }
layer_code (negsuc (suc (suc (suc (suc (suc n)))))) e =
    absurd (let le = leb-true (suc (suc (suc (suc (suc n))))) 4 (and-true (leb (suc (suc (suc (suc (suc n))))) 4) e) in
    omega (arith, le))

pub layer_at-again : (layer : ℤ) (count : ℕ) (rest : List ℕ) → lies_within (negsuc 4) (pos 5) layer ≡ true → count < 16
    → layer_at (layer_byte layer count ∷ rest) ≡ Ok ((layer, count), rest)
unfolding layer_at
layer_at-again layer count rest h few =
    let c = layer_code layer h in
    let is = c.is in
    let bound = c.few in
    let high : layer_byte layer count / 16 ≡ c.code = omega (arith, is, few) in
    let low : layer_byte layer count % 16 ≡ count = omega (arith, is, few) in
    rw (one_byte-again TileKind.Short (layer_byte layer count) rest, high, low, le-leb c.code 10 bound, c.shown) refl

-- ---- values and tags

pub value_at-again : (kind : ValueKind) (value : KeptValue) → IsOfKind IsText kind value
    → Again (value_at kind) (value_bytes value) value
unfolding Again
value_at-again ValueKind.plain KeptValue.plain h rest = refl
value_at-again ValueKind.byte (KeptValue.byte (pos n)) h rest =
    let le = leb-true n 127 h in
    rw (
      fixed_number-again TileKind.Short 1 n (omega (arith, le)) rest,
      to_z-of_z w8 (pos n) (record { sfits = omega (arith, le) }),
    ) refl
value_at-again ValueKind.byte (KeptValue.byte (negsuc n)) h rest =
    let le = leb-true n 127 (and-true (leb n 127) h) in
    rw (
      fixed_number-again TileKind.Short 1 (256 - suc n) (omega (arith, le)) rest,
      to_z-of_z w8 (negsuc n) (record { sfits = omega (arith, le) }),
    ) refl
value_at-again ValueKind.short (KeptValue.short (pos n)) h rest =
    let le = leb-true n 32767 h in
    rw (
      fixed_number-again TileKind.Short 2 n (omega (arith, le)) rest,
      to_z-of_z w16 (pos n) (record { sfits = omega (arith, le) }),
    ) refl
value_at-again ValueKind.short (KeptValue.short (negsuc n)) h rest =
    let le = leb-true n 32767 (and-true (leb n 32767) h) in
    rw (
      fixed_number-again TileKind.Short 2 (65536 - suc n) (omega (arith, le)) rest,
      to_z-of_z w16 (negsuc n) (record { sfits = omega (arith, le) }),
    ) refl
value_at-again ValueKind.int (KeptValue.int (pos n)) h rest =
    let le = leb-true n 2147483647 h in
    rw (
      fixed_number-again TileKind.Short 4 n (omega (arith, le)) rest,
      to_z-of_z w32 (pos n) (record { sfits = omega (arith, le) }),
    ) refl
value_at-again ValueKind.int (KeptValue.int (negsuc n)) h rest =
    let le = leb-true n 2147483647 (and-true (leb n 2147483647) h) in
    rw (
      fixed_number-again TileKind.Short 4 (4294967296 - suc n) (omega (arith, le)) rest,
      to_z-of_z w32 (negsuc n) (record { sfits = omega (arith, le) }),
    ) refl
value_at-again ValueKind.text (KeptValue.text bytes) h rest = rw (text_at-again bytes h rest) refl
value_at-again _ _ h rest = absurd h

pub id_at-again : (tags : List (List ℕ)) (id : ℕ) → id < length tags → id < 2 ^ 63
    → Again (id_at tags) (vbe_unsigned id) id
unfolding Again id_at
id_at-again tags id known fits rest = rw (number-again id fits rest, lt-ltb id (length tags) known) refl

ids-again : (tags : List (List ℕ)) (kept : List Kept) → AllByRecursion (IsKeptOf tags) kept → (rest : List ℕ)
    → times (length kept) (id_at tags) (flat_map (λ k. vbe_unsigned k.tag) kept ++ rest)
    ≡ Ok (map (λ k. k.tag) kept, rest)
unfolding times Again
ids-again tags [] h rest = refl
ids-again tags (k ∷ kept) h rest =
    ap (times (suc (length kept)) (id_at tags))
    (append_assoc (vbe_unsigned k.tag) (flat_map (λ k. vbe_unsigned k.tag) kept) rest)
    ∙ rw (
      id_at-again tags k.tag h.0.0 h.0.1 (flat_map (λ k. vbe_unsigned k.tag) kept ++ rest),
      ids-again tags kept h.1 rest,
    ) refl

values-again : (tags : List (List ℕ)) (kept : List Kept) → AllByRecursion (IsKeptOf tags) kept → (rest : List ℕ)
    → read_each (kept_at tags) (map (λ k. k.tag) kept) (flat_map (λ k. value_bytes k.value) kept ++ rest)
    ≡ Ok (kept, rest)
unfolding read_each Again
values-again tags [] h rest = refl
values-again tags (k ∷ kept) h rest =
    ap (read_each (kept_at tags) (k.tag ∷ map (λ k. k.tag) kept))
    (append_assoc (value_bytes k.value) (flat_map (λ k. value_bytes k.value) kept) rest)
    ∙ rw (
      value_at-again (tag_kind (tag_at tags k.tag)) k.value h.0.2 (flat_map (λ k. value_bytes k.value) kept
          ++ rest),
      values-again tags kept h.1 rest,
    ) refl

pub tags_at-again : (tags : List (List ℕ)) (kept : List Kept) → AllByRecursion (IsKeptOf tags) kept → (rest : List ℕ)
    → tags_at tags (length kept) (flat_map (λ k. vbe_unsigned k.tag) kept ++ flat_map (λ k. value_bytes k.value) kept
    ++ rest) ≡ Ok (kept, rest)
unfolding tags_at
tags_at-again tags kept h rest =
    ap (tags_at tags (length kept))
    (append_assoc (flat_map (λ k. vbe_unsigned k.tag) kept) (flat_map (λ k. value_bytes k.value) kept) rest)
    ∙ rw (ids-again tags kept h (flat_map (λ k. value_bytes k.value) kept ++ rest), values-again tags kept h rest) refl

-- ---- flags

unfoldable pub num : Bool → ℕ
num b = cond b 1 0

pub num-le : (b : Bool) → num b ≤ 1
unfolding num
num-le true = omega arith
num-le false = omega arith

pub flag-num : (b : Bool) (bit : ℕ) → flag b bit ≡ bit * num b
unfolding num
flag-num true bit = omega arith
flag-num false bit = omega arith

pub has_flag-is : (n bit : ℕ) (b : Bool) → n / bit % 2 ≡ num b → has_flag n bit ≡ b
unfolding num
has_flag-is n bit true e = rw e refl
has_flag-is n bit false e = rw e refl

-- a field that is there where its flag is set
pub where_set-again : {Kind X : Type 0} (read : List ℕ → Read Kind X) (bytes : X → List ℕ) (Fits : X → Type 0)
    → ((x : X) → Fits x → Again read (bytes x) x) → (o : Option X) → IfSome o Fits → (rest : List ℕ)
    → where_set (is_some o) read (optional bytes o ++ rest) ≡ Ok (o, rest)
unfolding Again
where_set-again read bytes Fits again None h rest = refl
where_set-again read bytes Fits again (Some x) h rest = rw (again x h rest) refl

height-again : (n : ℤ) → is_signed_32 n ≡ true → Again (ranged (pos 0)) (vbe_signed n) n
unfolding Again
height-again n h rest =
    ap (λ z. ranged (pos 0) (vbe_signed z ++ rest)) (sym (+ℤ_idr n)) ∙ ranged-again (pos 0) n refl h rest

-- ---- POI

poi_flag : (p : PoiFields) → p.other < 32
    → (has_flag (poi_flags p) 0x80 ≡ is_some p.name) × (has_flag (poi_flags p) 0x40 ≡ is_some p.house)
    × (has_flag (poi_flags p) 0x20 ≡ is_some p.height) × (poi_flags p % 32 ≡ p.other)
poi_flag p few =
    let a = flag-num (is_some p.name) 0x80 in
    let b = flag-num (is_some p.house) 0x40 in
    let c = flag-num (is_some p.height) 0x20 in
    let la = num-le (is_some p.name) in
    let lb = num-le (is_some p.house) in
    let lc = num-le (is_some p.height) in (
      has_flag-is (poi_flags p) 0x80 (is_some p.name) (omega (arith, a, b, c, la, lb, lc, few)),
      has_flag-is (poi_flags p) 0x40 (is_some p.house) (omega (arith, a, b, c, la, lb, lc, few)),
      has_flag-is (poi_flags p) 0x20 (is_some p.height) (omega (arith, a, b, c, la, lb, lc, few)),
      omega (arith, a, b, c, la, lb, lc, few),
    )

-- the layer, the tags and what follows them
after_layer : List Kept → List ℕ → List ℕ
after_layer tags rest = flat_map (λ k. vbe_unsigned k.tag) tags ++ flat_map (λ k. value_bytes k.value) tags ++ rest

tag_bytes-split : (layer : ℤ) (tags : List Kept) (rest : List ℕ)
    → tag_bytes layer tags ++ rest ≡ layer_byte layer (length tags) ∷ after_layer tags rest
unfolding tag_bytes after_layer
tag_bytes-split layer tags rest = refl

after_layer-again : (names : List (List ℕ)) (tags : List Kept) → AllByRecursion (IsKeptOf names) tags → (rest : List ℕ)
    → tags_at names (length tags) (after_layer tags rest) ≡ Ok (tags, rest)
unfolding after_layer
after_layer-again names tags h rest = tags_at-again names tags h rest

regroup : (s t : List ℕ) (f : ℕ) (n h e rest : List ℕ)
    → s ++ t ++ f ∷ n ++ h ++ e ++ rest ≡ s ++ (t ++ (f ∷ (n ++ (h ++ (e ++ rest)))))
regroup s t f n h e rest = simp append_assoc refl

pub poi_at-again : (names : List (List ℕ)) (corner : Place) (p : PoiFields) → IsPlaceOf32Bits corner → IsPoi names p
    → Again (poi_at names corner) (poi_fields_bytes corner p) p
unfolding Again poi_at poi_fields_bytes
poi_at-again names corner p hc h rest =
    let flags = poi_flag p h.other in
    let after_house = optional vbe_signed p.height ++ rest in
    let after_name = optional string p.house ++ after_house in
    let after_flags = optional string p.name ++ after_name in
    let after_tags = poi_flags p ∷ after_flags in
    ap (poi_at names corner) (regroup (step_bytes (step corner p.place)) (tag_bytes p.layer p.tags) (poi_flags p)
    (optional string p.name) (optional string p.house) (optional vbe_signed p.height) rest
    ∙ ap (λ t. step_bytes (step corner p.place) ++ t) (tag_bytes-split p.layer p.tags after_tags))
    ∙ rw (
      place_from-again corner p.place hc h.place (layer_byte p.layer (length p.tags) ∷ after_layer p.tags after_tags),
      layer_at-again p.layer (length p.tags) (after_layer p.tags after_tags) h.layer h.few,
      after_layer-again names p.tags h.kept after_tags,
      one_byte-again TileKind.Short (poi_flags p) after_flags,
      flags.0,
      flags.1,
      flags.2,
      flags.3,
      where_set-again tile_text_at string IsText text_at-again p.name h.name after_name,
      where_set-again tile_text_at string IsText text_at-again p.house h.house after_house,
      where_set-again (ranged (pos 0)) vbe_signed (λ n. IsTrue (is_signed_32 n)) height-again p.height h.height rest,
    ) refl

-- ---- way

way_flag : (w : WayFields) → w.other < 4
    → (has_flag (way_flags w) 0x80 ≡ is_some w.name) × (has_flag (way_flags w) 0x40 ≡ is_some w.house)
    × (has_flag (way_flags w) 0x20 ≡ is_some w.reference)
    × (has_flag (way_flags w) 0x10 ≡ is_some w.label) × (has_flag (way_flags w) 0x08 ≡ w.counted)
    × (has_flag (way_flags w) 0x04 ≡ w.double) × (way_flags w % 4 ≡ w.other)
way_flag w few =
    let a = flag-num (is_some w.name) 0x80 in
    let b = flag-num (is_some w.house) 0x40 in
    let c = flag-num (is_some w.reference) 0x20 in
    let d = flag-num (is_some w.label) 0x10 in
    let e = flag-num w.counted 0x08 in
    let f = flag-num w.double 0x04 in
    let la = num-le (is_some w.name) in
    let lb = num-le (is_some w.house) in
    let lc = num-le (is_some w.reference) in
    let ld = num-le (is_some w.label) in
    let le = num-le w.counted in
    let lf = num-le w.double in (
      has_flag-is (way_flags w) 0x80 (is_some w.name) (omega (arith, a, b, c, d, e, f, la, lb, lc, ld, le, lf, few)),
      has_flag-is (way_flags w) 0x40 (is_some w.house) (omega (arith, a, b, c, d, e, f, la, lb, lc, ld, le, lf, few)),
      has_flag-is (way_flags w) 0x20 (is_some w.reference)
          (omega (arith, a, b, c, d, e, f, la, lb, lc, ld, le, lf, few)),
      has_flag-is (way_flags w) 0x10 (is_some w.label) (omega (arith, a, b, c, d, e, f, la, lb, lc, ld, le, lf, few)),
      has_flag-is (way_flags w) 0x08 w.counted (omega (arith, a, b, c, d, e, f, la, lb, lc, ld, le, lf, few)),
      has_flag-is (way_flags w) 0x04 w.double (omega (arith, a, b, c, d, e, f, la, lb, lc, ld, le, lf, few)),
      omega (arith, a, b, c, d, e, f, la, lb, lc, ld, le, lf, few),
    )

-- the number of data blocks, where it is told
unfoldable pub count_bytes : Bool → List Block → List ℕ
count_bytes counted blocks = cond counted (vbe_unsigned (length blocks)) []

block_count-again : (counted : Bool) (blocks : List Block) → (counted ≡ false → length blocks ≡ 1) → 1 ≤ length blocks
    → length blocks < 2 ^ 63 → (rest : List ℕ)
    → block_count_at counted (count_bytes counted blocks ++ rest) ≡ Ok (length blocks, rest)
unfolding count_bytes Again
block_count-again true blocks single some few rest = count_from-again 1 (length blocks) some few rest
block_count-again false blocks single some few rest = ap (λ n. Ok (n, rest)) (sym (single refl))

blocks_again : (corner : Place) (counted double : Bool) (blocks : List Block) → IsPlaceOf32Bits corner
    → (counted ≡ false → length blocks ≡ 1) → 1 ≤ length blocks → length blocks < 2 ^ 63
    → AllByRecursion IsToldBlock blocks → (rest : List ℕ)
    → blocks_at corner counted double (count_bytes counted blocks
    ++ (flat_map (block_bytes corner double) blocks ++ rest)) ≡ Ok (blocks, rest)
unfolding blocks_at Again
blocks_again corner counted double blocks hc single some few h rest =
    rw (block_count-again counted blocks single some few (flat_map (block_bytes corner double) blocks ++ rest))
    (all rest)
  where
    all : (rest : List ℕ)
        → times (length blocks) (block_at corner double) (flat_map (block_bytes corner double) blocks ++ rest)
        ≡ Ok (blocks, rest)
    all rest = times-again (block_at corner double) (block_bytes corner double) IsToldBlock
        (λ rings hr. block_at-again corner double rings hc hr) blocks h rest

-- a block begins with the number of its rings, and a ring with the number of its places and the first of them
first_of_ring : (corner : Place) (double : Bool) (p : Place) (ps : Ring) (rest : List ℕ)
    → (after : List ℕ)
    × (ring_bytes corner double (p ∷ ps) ++ rest ≡ vbe_unsigned (suc (length ps))
    ++ (step_bytes (step corner p) ++ after))
unfolding ring_bytes
first_of_ring corner double p ps rest = (
  after_first double p ps ++ rest,
  ap (λ c. vbe_unsigned (suc (length ps)) ++ c ++ rest) (coordinates-split corner double p ps)
      ∙ append_assoc (vbe_unsigned (suc (length ps))) (step_bytes (step corner p) ++ after_first double p ps) rest
      ∙ ap (λ c. vbe_unsigned (suc (length ps)) ++ c)
      (append_assoc (step_bytes (step corner p)) (after_first double p ps) rest),
)

first_of_block : (corner : Place) (double : Bool) (ring : Ring) (rings : Block) (rest : List ℕ)
    → block_bytes corner double (ring ∷ rings) ++ rest ≡ vbe_unsigned (suc (length rings))
    ++ (ring_bytes corner double ring ++ (flat_map (ring_bytes corner double) rings ++ rest))
unfolding block_bytes
first_of_block corner double ring rings rest = simp append_assoc refl

-- the first place is found before anything after it is looked at
pub first_place-again : (corner : Place) (counted double : Bool) (blocks : List Block) → IsPlaceOf32Bits corner
    → (counted ≡ false → length blocks ≡ 1) → 1 ≤ length blocks → length blocks < 2 ^ 63
    → AllByRecursion IsToldBlock blocks → (rest : List ℕ)
    → (after : List ℕ)
    × (first_place_at corner counted (count_bytes counted blocks
    ++ (flat_map (block_bytes corner double) blocks ++ rest)) ≡ Ok (first_of_blocks blocks, after))
unfolding first_place_at Again
first_place-again corner counted double [] hc single some few h rest = absurd (omega (arith, some))
first_place-again corner counted double ([] ∷ blocks) hc single some few h rest =
    absurd (let one = h.0.0 in omega (arith, one))
first_place-again corner counted double (([] ∷ rings) ∷ blocks) hc single some few h rest =
    absurd (let two = h.0.2.0.0 in omega (arith, two))
first_place-again corner counted double (((p ∷ ps) ∷ rings) ∷ blocks) hc single some few h rest =
    let all = ((p ∷ ps) ∷ rings) ∷ blocks in
    let behind = flat_map (ring_bytes corner double) rings ++ (flat_map (block_bytes corner double) blocks ++ rest) in
    let ring = first_of_ring corner double p ps behind in
    let regrouped : flat_map (block_bytes corner double) all ++ rest ≡ vbe_unsigned (suc (length rings))
    ++ (vbe_unsigned (suc (length ps)) ++ (step_bytes (step corner p) ++ ring.0)) =
    append_assoc (block_bytes corner double ((p ∷ ps) ∷ rings)) (flat_map (block_bytes corner double) blocks) rest
    ∙ first_of_block corner double (p ∷ ps) rings (flat_map (block_bytes corner double) blocks ++ rest)
    ∙ ap (λ c. vbe_unsigned (suc (length rings)) ++ c) ring.1 in (
      ring.0,
      ap (λ c. first_place_at corner counted (count_bytes counted all ++ c)) regrouped ∙ reads,
    )
  where
    reads : first_place_at corner counted (count_bytes counted (((p ∷ ps) ∷ rings) ∷ blocks)
        ++ (vbe_unsigned (suc (length rings))
        ++ (vbe_unsigned (suc (length ps))
        ++ (step_bytes (step corner p)
        ++ (first_of_ring corner double p ps (flat_map (ring_bytes corner double) rings
        ++ (flat_map (block_bytes corner double) blocks ++ rest))).0))))
        ≡ Ok (
          p,
          (first_of_ring corner double p ps (flat_map (ring_bytes corner double) rings
              ++ (flat_map (block_bytes corner double) blocks ++ rest))).0,
        )
    reads =
        let after = (first_of_ring corner double p ps (flat_map (ring_bytes corner double) rings
        ++ (flat_map (block_bytes corner double) blocks ++ rest))).0 in
        rw (
          block_count-again counted (((p ∷ ps) ∷ rings) ∷ blocks) single some few (vbe_unsigned (suc (length rings))
              ++ (vbe_unsigned (suc (length ps)) ++ (step_bytes (step corner p) ++ after))),
          count_from-again 1 (suc (length rings)) h.0.0 h.0.1 (vbe_unsigned (suc (length ps))
              ++ (step_bytes (step corner p) ++ after)),
          count_from-again 2 (suc (length ps)) h.0.2.0.0 h.0.2.0.1 (step_bytes (step corner p) ++ after),
          place_from-again corner p hc h.0.2.0.2.0 after,
        ) refl

pub two_signed-again : (a p : Place) → IsPlaceOf32Bits a → IsPlaceOf32Bits p
    → Again two_signed (step_bytes (step a p)) (p.lat -ℤ a.lat, p.lon -ℤ a.lon)
unfolding Again two_signed
two_signed-again a p ha hp rest =
    ap two_signed (append_assoc (vbe_signed (p.lat -ℤ a.lat)) (vbe_signed (p.lon -ℤ a.lon)) rest)
    ∙ rw (
      signed-again (p.lat -ℤ a.lat) (nat_abs-step a.lat p.lat ha.0 hp.0) (vbe_signed (p.lon -ℤ a.lon) ++ rest),
      signed-again (p.lon -ℤ a.lon) (nat_abs-step a.lon p.lon ha.1 hp.1) rest,
    ) refl

pub first_in_range : (blocks : List Block) → 1 ≤ length blocks → AllByRecursion IsToldBlock blocks
    → IsPlaceOf32Bits (first_of_blocks blocks)
first_in_range [] some h = absurd (omega (arith, some))
first_in_range ([] ∷ blocks) some h = absurd (let one = h.0.0 in omega (arith, one))
first_in_range (([] ∷ rings) ∷ blocks) some h = absurd (let two = h.0.2.0.0 in omega (arith, two))
first_in_range (((p ∷ ps) ∷ rings) ∷ blocks) some h = h.0.2.0.2.0

label_bytes : List Block → Option Place → List ℕ
label_bytes blocks label = optional (λ p. step_bytes (step (first_of_blocks blocks) p)) label

label_and_blocks-again : (corner : Place) (flags : ℕ) (label : Option Place) (counted double : Bool)
    (blocks : List Block) → has_flag flags 0x10 ≡ is_some label → has_flag flags 0x08 ≡ counted
    → has_flag flags 0x04 ≡ double
    → IsPlaceOf32Bits corner → IfSome label IsPlaceOf32Bits → (counted ≡ false → length blocks ≡ 1) → 1 ≤ length blocks
    → length blocks < 2 ^ 63 → AllByRecursion IsToldBlock blocks → (rest : List ℕ)
    → label_and_blocks_at corner flags (label_bytes blocks label
    ++ (count_bytes counted blocks ++ (flat_map (block_bytes corner double) blocks ++ rest)))
    ≡ Ok ((label, blocks), rest)
unfolding label_and_blocks_at label_bytes Again
label_and_blocks-again corner flags None counted double blocks el ec ed hc hl single some few h rest =
    let first = first_place-again corner counted double blocks hc single some few h rest in
    rw (el, ec, ed, first.1, blocks_again corner counted double blocks hc single some few h rest) refl
label_and_blocks-again corner flags (Some p) counted double blocks el ec ed hc hl single some few h rest =
    let first = first_place-again corner counted double blocks hc single some few h rest in
    let start = first_in_range blocks some h in
    let behind = count_bytes counted blocks ++ (flat_map (block_bytes corner double) blocks ++ rest) in
    rw (
      el,
      ec,
      ed,
      two_signed-again (first_of_blocks blocks) p start hl behind,
      first.1,
      place_from-again (first_of_blocks blocks) p start hl behind,
      blocks_again corner counted double blocks hc single
          some few h rest,
    ) refl

regroup_eight : (b t m h r l c d rest : List ℕ)
    → b ++ t ++ m ++ h ++ r ++ l ++ c ++ d ++ rest ≡ b ++ (t ++ (m ++ (h ++ (r ++ (l ++ (c ++ (d ++ rest)))))))
regroup_eight b t m h r l c d rest = simp append_assoc refl

regroup_way : (b t : List ℕ) (f : ℕ) (n h r l c d rest : List ℕ)
    → b ++ t ++ f ∷ n ++ h ++ r ++ l ++ c ++ d ++ rest ≡ b
    ++ (t ++ (f ∷ (n ++ (h ++ (r ++ (l ++ (c ++ (d ++ rest))))))))
regroup_way b t f n h r l c d rest = regroup_eight b t (f ∷ n) h r l c d rest

way_body_at-again : (names : List (List ℕ)) (corner : Place) (w : WayFields) → IsPlaceOf32Bits corner → IsWay names w
    → Again (way_body_at names corner) (way_body_bytes corner w) w
unfolding Again way_body_at way_body_bytes label_bytes count_bytes
way_body_at-again names corner w hc h rest =
    let flags = way_flag w h.other in
    let behind = label_bytes w.blocks w.label
    ++ (count_bytes w.counted w.blocks ++ (flat_map (block_bytes corner w.double) w.blocks ++ rest)) in
    let after_house = optional string w.reference ++ behind in
    let after_name = optional string w.house ++ after_house in
    let after_flags = optional string w.name ++ after_name in
    let after_tags = way_flags w ∷ after_flags in
    let tags = layer_byte w.layer (length w.tags) ∷ after_layer w.tags after_tags in
    ap (way_body_at names corner) (regroup_way (big_endian 2 w.bits) (tag_bytes w.layer w.tags) (way_flags w)
    (optional string w.name) (optional string w.house) (optional string w.reference) (label_bytes w.blocks w.label)
    (count_bytes w.counted w.blocks) (flat_map (block_bytes corner w.double) w.blocks) rest
    ∙ ap (λ t. big_endian 2 w.bits ++ t) (tag_bytes-split w.layer w.tags after_tags))
    ∙ rw (
      fixed_number-again TileKind.Short 2 w.bits h.bits tags,
      layer_at-again w.layer (length w.tags) (after_layer w.tags after_tags) h.layer h.few,
      after_layer-again names w.tags h.kept after_tags,
      one_byte-again TileKind.Short (way_flags w) after_flags,
      flags.0,
      flags.1,
      flags.2,
      where_set-again tile_text_at string IsText text_at-again w.name h.name after_name,
      where_set-again tile_text_at string IsText text_at-again w.house h.house after_house,
      where_set-again tile_text_at string IsText text_at-again w.reference h.reference behind,
      label_and_blocks-again corner (way_flags w) w.label w.counted w.double w.blocks flags.3 flags.4 flags.5 hc h.label
          h.single h.counted.0 h.counted.1 h.blocks rest,
      flags.4,
      flags.5,
      flags.6,
    ) refl

pub way_at-again : (names : List (List ℕ)) (corner : Place) (w : WayFields) → IsPlaceOf32Bits corner → IsWay names w
    → length (way_body_bytes corner w) < 2 ^ 63 → Again (way_at names corner) (way_fields_bytes corner w) w
unfolding Again way_at way_fields_bytes sized
way_at-again names corner w hc h few rest =
    ap (way_at names corner) (append_assoc (vbe_unsigned (length (way_body_bytes corner w))) (way_body_bytes corner w)
    rest)
    ∙ rw (
      number-again (length (way_body_bytes corner w)) few (way_body_bytes corner w ++ rest),
      way_body_at-again names corner w hc h rest,
      eq-eqb (length (way_body_bytes corner w) + length rest) (length (way_body_bytes corner w ++ rest))
          (sym (length-append (way_body_bytes corner w) rest)),
    ) refl

-- ---- tile

counts_of : Level → ℕ × ℕ
counts_of level = (length level.pois, length level.ways)

counts-again : (names : TagLists) (levels : List Level) → AllByRecursion (IsLevel names) levels → (rest : List ℕ)
    → times (length levels) counts_at (flat_map level_count_bytes levels ++ rest) ≡ Ok (map counts_of levels, rest)
unfolding times counts_at counts_of Again
counts-again names [] h rest = refl
counts-again names (l ∷ levels) h rest =
    ap (times (suc (length levels)) counts_at) (append_assoc (level_count_bytes l) (flat_map level_count_bytes levels)
    rest ∙ append_assoc (vbe_unsigned (length l.pois)) (vbe_unsigned (length l.ways))
    (flat_map level_count_bytes levels ++ rest))
    ∙ rw (
      number-again (length l.pois) h.0.counts.0 (vbe_unsigned (length l.ways)
          ++ (flat_map level_count_bytes levels ++ rest)),
      number-again (length l.ways) h.0.counts.1
          (flat_map level_count_bytes levels ++ rest),
      counts-again names levels h.1 rest,
    ) refl

pois_bytes : Place → List Level → List ℕ
pois_bytes corner levels = flat_map (λ level. flat_map (poi_fields_bytes corner) level.pois) levels

ways_bytes : Place → List Level → List ℕ
ways_bytes corner levels = flat_map (λ level. flat_map (way_fields_bytes corner) level.ways) levels

pois-again : (names : TagLists) (corner : Place) (levels : List Level) → IsPlaceOf32Bits corner
    → AllByRecursion (IsLevel names) levels → (rest : List ℕ)
    → read_each (λ c. times c.0 (poi_at names.poi corner)) (map counts_of levels) (pois_bytes corner levels ++ rest)
    ≡ Ok (map (λ l. l.pois) levels, rest)
unfolding read_each counts_of pois_bytes Again
pois-again names corner [] hc h rest = refl
pois-again names corner (l ∷ levels) hc h rest =
    ap (read_each (λ (c : ℕ × ℕ). times c.0 (poi_at names.poi corner)) (map counts_of (l ∷ levels)))
    (append_assoc (flat_map (poi_fields_bytes corner) l.pois) (pois_bytes corner levels) rest)
    ∙ rw (
      times-again (poi_at names.poi corner) (poi_fields_bytes corner) (IsPoi names.poi)
          (λ p hp. poi_at-again names.poi corner p hc hp) l.pois h.0.pois (pois_bytes corner levels ++ rest),
      pois-again names corner levels hc h.1 rest,
    ) refl

-- a way whose bytes can be told
record IsSmallWay (names : List (List ℕ)) (corner : Place) (w : WayFields) : Type 0 where
  way : IsWay names w
  small : length (way_body_bytes corner w) < 2 ^ 63

small_ways : (names : List (List ℕ)) (corner : Place) (ws : List WayFields) → AllByRecursion (IsWay names) ws
    → length (flat_map (way_fields_bytes corner) ws) < 2 ^ 63 → AllByRecursion (IsSmallWay names corner) ws
unfolding way_fields_bytes sized
small_ways names corner [] h few = h
small_ways names corner (w ∷ ws) h few =
    let a = length-append (way_fields_bytes corner w) (flat_map (way_fields_bytes corner) ws) in
    let b = length-append (vbe_unsigned (length (way_body_bytes corner w))) (way_body_bytes corner w) in
    (record { way = h.0; small = omega (arith, few, a, b) }, small_ways names corner ws h.1 (omega (arith, few, a)))

ways-again : (names : TagLists) (corner : Place) (levels : List Level) → IsPlaceOf32Bits corner
    → AllByRecursion (IsLevel names) levels → length (ways_bytes corner levels) < 2 ^ 63 → (rest : List ℕ)
    → read_each (λ c. times c.1 (way_at names.way corner)) (map counts_of levels) (ways_bytes corner levels ++ rest)
    ≡ Ok (map (λ l. l.ways) levels, rest)
unfolding read_each counts_of ways_bytes Again
ways-again names corner [] hc h few rest = refl
ways-again names corner (l ∷ levels) hc h few rest =
    let a = length-append (flat_map (way_fields_bytes corner) l.ways) (ways_bytes corner levels) in
    let small = small_ways names.way corner l.ways h.0.ways (omega (arith, few, a)) in
    ap (read_each (λ (c : ℕ × ℕ). times c.1 (way_at names.way corner)) (map counts_of (l ∷ levels)))
    (append_assoc (flat_map (way_fields_bytes corner) l.ways) (ways_bytes corner levels) rest)
    ∙ rw (
      times-again (way_at names.way corner) (way_fields_bytes corner) (IsSmallWay names.way corner)
          (λ w hw. way_at-again names.way corner w hc hw.way hw.small) l.ways small (ways_bytes corner levels ++ rest),
      ways-again names corner levels hc h.1 (omega (arith, few, a)) rest,
    ) refl

levels_of_parts : (levels : List Level)
    → map level_of (zip (map (λ l. l.pois) levels) (map (λ l. l.ways) levels)) ≡ levels
levels_of_parts [] = refl
levels_of_parts (l ∷ levels) = λ i. l ∷ levels_of_parts levels i

levels_parts : Place → List Level → List ℕ
levels_parts corner levels =
    flat_map level_count_bytes levels
    ++ (vbe_unsigned (length (pois_bytes corner levels)) ++ (pois_bytes corner levels ++ ways_bytes corner levels))

levels_bytes-parts : (corner : Place) (levels : List Level) → levels_bytes corner levels ≡ levels_parts corner levels
unfolding levels_bytes sized levels_parts pois_bytes ways_bytes
levels_bytes-parts corner levels =
    append_assoc (flat_map level_count_bytes levels) (vbe_unsigned (length (pois_bytes corner levels))
    ++ pois_bytes corner levels) (ways_bytes corner levels)
    ∙ ap (λ c. flat_map level_count_bytes levels ++ c) (append_assoc (vbe_unsigned (length (pois_bytes corner levels)))
    (pois_bytes corner levels) (ways_bytes corner levels))

number-read : (n : ℕ) → n < 2 ^ 63 → (rest : List ℕ) → number (vbe_unsigned n ++ rest) ≡ Ok (n, rest)
unfolding Again
number-read n fits rest = number-again n fits rest

-- what spells some levels is read as them
pub levels_at-again : (names : TagLists) (interval : Interval) (corner : Place) (bytes : List ℕ) (levels : List Level)
    → IsPlaceOf32Bits corner → SpellsLevels names interval corner bytes levels
    → levels_at names interval corner bytes ≡ Ok levels
unfolding levels_at levels_parts
levels_at-again names interval corner bytes levels hc h =
    let spelt = h.spelt ∙ levels_bytes-parts corner levels in
    let all = ap length spelt in
    let a = length-append (flat_map level_count_bytes levels) (vbe_unsigned (length (pois_bytes corner levels))
    ++ (pois_bytes corner levels ++ ways_bytes corner levels)) in
    let b = length-append (vbe_unsigned (length (pois_bytes corner levels))) (pois_bytes corner levels
    ++ ways_bytes corner levels) in
    let c = length-append (pois_bytes corner levels) (ways_bytes corner levels) in
    let small = h.small in
    let few_pois : length (pois_bytes corner levels) < 2 ^ 63 = omega (arith, all, a, b, c, small) in
    let few_ways : length (ways_bytes corner levels) < 2 ^ 63 = omega (arith, all, a, b, c, small) in
    ap (levels_at names interval corner) spelt
    ∙ rw (
      sym h.all,
      counts-again names levels h.each (vbe_unsigned (length (pois_bytes corner levels))
          ++ (pois_bytes corner levels ++ ways_bytes corner levels)),
      number_again few_pois,
      pois-again names corner levels hc h.each (ways_bytes corner levels),
      eq-eqb (length (pois_bytes corner levels) + length (ways_bytes corner levels))
          (length (pois_bytes corner levels ++ ways_bytes corner levels)) (sym c),
      last few_ways,
      levels_of_parts levels,
    ) refl
  where
    number_again : length (pois_bytes corner levels) < 2 ^ 63
        → number (vbe_unsigned (length (pois_bytes corner levels))
        ++ (pois_bytes corner levels ++ ways_bytes corner levels))
        ≡ Ok (length (pois_bytes corner levels), pois_bytes corner levels ++ ways_bytes corner levels)
    number_again few =
        number-read (length (pois_bytes corner levels)) few (pois_bytes corner levels ++ ways_bytes corner levels)

    last : length (ways_bytes corner levels) < 2 ^ 63
        → read_each (λ c. times c.1 (way_at names.way corner)) (map counts_of levels) (ways_bytes corner levels)
        ≡ Ok (map (λ l. l.ways) levels, [])
    last few = ap (read_each (λ (c : ℕ × ℕ). times c.1 (way_at names.way corner)) (map counts_of levels))
        (sym (append-nil (ways_bytes corner levels))) ∙ ways-again names corner levels hc h.each few []

-- what spells some records is read as them
pub read_tile-again : (names : TagLists) (tile : TilePlace) (bytes : List ℕ) (shown : List Listed)
    → IsPlaceOf32Bits (tile_corner tile) → ReadsTile names tile bytes shown → read_tile names tile bytes ≡ Ok shown
unfolding read_tile read_tile_from
read_tile-again names tile [] shown hc h = ap Ok (sym h)
read_tile-again names tile (b ∷ bytes) shown hc h =
    rw (levels_at-again names tile.interval (tile_corner tile) (b ∷ bytes) h.0 hc h.1, h.2) refl

-- levels take a byte at least: the first-way offset
not_empty : (names : TagLists) (interval : Interval) (corner : Place) (levels : List Level)
    → SpellsLevels names interval corner [] levels → ⊥
unfolding levels_parts
not_empty names interval corner levels h =
    let all = ap length (h.spelt ∙ levels_bytes-parts corner levels) in
    let a = length-append (flat_map level_count_bytes levels) (vbe_unsigned (length (pois_bytes corner levels))
    ++ (pois_bytes corner levels ++ ways_bytes corner levels)) in
    let b = length-append (vbe_unsigned (length (pois_bytes corner levels))) (pois_bytes corner levels
    ++ ways_bytes corner levels) in
    let some = length-vbe-positive 128 0 (length (pois_bytes corner levels)) (omega arith) in
    omega (arith, all, a, b, some)

read_tile-spelt : (names : TagLists) (tile : TilePlace) (bytes : List ℕ) (levels : List Level)
    → IsPlaceOf32Bits (tile_corner tile) → SpellsLevels names tile.interval (tile_corner tile) bytes levels
    → read_tile names tile bytes ≡ Ok (shown_levels names tile.interval levels)
unfolding read_tile read_tile_from
read_tile-spelt names tile [] levels hc h = absurd (not_empty names tile.interval (tile_corner tile) levels h)
read_tile-spelt names tile (b ∷ bytes) levels hc h =
    rw (levels_at-again names tile.interval (tile_corner tile) (b ∷ bytes) levels hc h) refl

pub reads_spelt : (names : TagLists) (tile : TilePlace) (bytes : List ℕ) (shown : List Listed)
    → tile.x < 2 ^ tile.interval.base → ReadsTile names tile bytes shown → read_tile names tile bytes ≡ Ok shown
reads_spelt names tile bytes shown below h = read_tile-again names tile bytes shown (tile_corner-in_range tile below) h

written_levels-length : (tile : TilePlace) (fs : List Feature)
    → length (written_levels tile fs) ≡ length (zooms tile.interval)
unfolding written_levels
written_levels-length tile fs = length-map (zooms tile.interval) (written_level (tile_corner tile) tile fs)

-- a tile of members in order is read as what is listed of them
pub reads_written : (names : TagLists) (tile : TilePlace) (f : Feature) (fs : List Feature)
    → tile.x < 2 ^ tile.interval.base → f ∷ fs ≡ in_tile_order tile.interval (f ∷ fs)
    → AllByRecursion (IsLevel names) (written_levels tile (f ∷ fs)) → length (tile_bytes tile (f ∷ fs)) < 2 ^ 63
    → read_tile names tile (tile_bytes tile (f ∷ fs)) ≡ Ok (map (listed names tile) (f ∷ fs))
unfolding tile_bytes
reads_written names tile f fs below ordered fits small =
    read_tile-spelt names tile (tile_bytes tile (f ∷ fs)) (written_levels tile (f ∷ fs))
    (tile_corner-in_range tile below)
    (record { each = fits; all = written_levels-length tile (f ∷ fs); spelt = refl; small = small })
    ∙ ap Ok (levels-shown names tile (f ∷ fs) ordered)

pub ruleset reading_laws = (reads_spelt, reads_written)
