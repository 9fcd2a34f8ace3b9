-- What is read as a way is spelled so.
use Rattle.std.proofs.Common.{◌≡◌, ℕ, ◌+◌, ◌%◌, ◌^◌, ◌<◌, ◌≤◌, List, [], ◌∷◌, ◌++◌, length, refl, sym, ap, ◌∙◌, subst}
use Rattle.std.proofs.Common.{arith, true, false, append_assoc}
use Rattle.std.specs.Prelude.{Bool, ⊤, flat_map, cond, ℤ, Ok, Some, None, Option, is_some, IfSome}
use Rattle.std.specs.List.{AllByRecursion}
use Rattle.std.proofs.lemmas.Bool.{eqb-true}
use Rattle.mf_base.specs.Spelling.{IsBytes, vbe_unsigned, vbe_signed, string}
use Rattle.mf_base.specs.declared.place.Place.{Place}
use Rattle.mf_base.proofs.StepLaws.{bind_ok, require_ok, ok_is}
use Rattle.feature_model.specs.Features.{Block}
use Rattle.feature_model.specs.Choice.{Kept}
use Rattle.map_model.specs.Layout.{WayFields, optional, step, step_bytes, first_of_blocks, block_bytes, way_flags}
use Rattle.map_model.specs.Layout.{way_body_bytes, way_fields_bytes, sized}
use Rattle.map_model.specs.Reader.{fixed_number, where_set}
use Rattle.map_model.specs.TileReading.{layer_at, tags_at, tile_text_at, place_from, has_flag, block_at, block_count_at}
use Rattle.map_model.specs.TileReading.{blocks_at, first_place_at, two_signed, label_and_blocks_at, way_body_at, way_at}
use Rattle.map_model.specs.TileReading.{IsText, IsPlaceOf32Bits, IsToldBlock, IsWay}
use Rattle.map_model.specs.declared.fault.TileKind.{TileKind}
use Rattle.map_model.proofs.ReaderFound.{Takes, IsFound, Finds, nothing, then, fixed_number-found, times-found}
use Rattle.map_model.proofs.ReaderFound.{where_set-found, part_size}
use Rattle.map_model.proofs.PlacesFound.{number-found, signed-found, count_from-found, text_at-found, place_from-found}
use Rattle.map_model.proofs.PlacesFound.{block_at-found}
use Rattle.map_model.proofs.RecordsFound.{below_4, byte-found, layered, flag_as}
use Rattle.map_model.proofs.PlacesAgain.{Again}
use Rattle.map_model.proofs.RecordsAgain.{count_bytes, first_place-again, first_in_range, two_signed-again}

-- ---- blocks

-- a number of data blocks, which is 1 where it is not told
record IsCount (counted : Bool) (n : ℕ) : Type 0 where
  single : counted ≡ false → n ≡ 1
  some : 1 ≤ n
  few : n < 2 ^ 63

told_count : Bool → ℕ → List ℕ
told_count counted n = cond counted (vbe_unsigned n) []

block_count-found : (counted : Bool) → Finds (block_count_at counted) (told_count counted) (IsCount counted)
unfolding told_count
block_count-found true bytes r small e =
    let found = count_from-found 1 bytes r small e in
    (found.0, record { single = (λ no. cc); some = found.1.0; few = found.1.1 })
block_count-found false bytes r small e =
    subst (IsFound (told_count false) (IsCount false) bytes) (ok_is (1, bytes) r e) (
      nothing bytes small,
      record { single = (λ no. refl); some = omega arith; few = omega arith },
    )

-- the number of blocks where it is told, then the blocks
record AreBlocks (counted : Bool) (blocks : List Block) : Type 0 where
  count : IsCount counted (length blocks)
  each : AllByRecursion IsToldBlock blocks

abbrev blocks_bytes : Place → Bool → Bool → List Block → List ℕ
blocks_bytes corner counted double blocks = count_bytes counted blocks ++ flat_map (block_bytes corner double) blocks

blocks_at-found : (corner : Place) (counted double : Bool)
    → Finds (blocks_at corner counted double) (blocks_bytes corner counted double) (AreBlocks counted)
unfolding blocks_at count_bytes told_count
blocks_at-found corner counted double bytes r small e =
    let n = bind_ok _ _ r e in
    let count = block_count-found counted bytes n.0 small n.1 in
    let all = times-found (block_at corner double) (block_bytes corner double) IsToldBlock
    (block_at-found corner double) n.0.0 n.0.1 r count.0.behind n.2 in
    let many : n.0.0 ≡ length r.0 = sym all.1.0 in (
      then (subst (λ k. Takes bytes (told_count counted k) n.0.1) many count.0) all.0,
      record { count = subst (IsCount counted) many count.1; each = all.1.1 },
    )

-- ---- label

two_signed-found : Finds two_signed (λ z. vbe_signed z.0 ++ vbe_signed z.1) (λ z. ⊤)
unfolding two_signed
two_signed-found bytes r small e =
    let lat = bind_ok _ _ r e in
    let lon = bind_ok _ _ r lat.2 in
    let a = signed-found bytes lat.0 small lat.1 in
    let b = signed-found lat.0.1 lon.0 a.0.behind lon.1 in
    subst (IsFound (λ z. vbe_signed z.0 ++ vbe_signed z.1) (λ z. ⊤) bytes) (ok_is ((lat.0.0, lon.0.0), lon.0.1) r lon.2)
    (then a.0 b.0, tt)

-- the first place is that of the first ring of the blocks
first_is : (corner : Place) (counted double : Bool) (bytes : List ℕ) (first : Place × List ℕ) (blocks : List Block
    × List ℕ) → IsPlaceOf32Bits corner
    → first_place_at corner counted bytes ≡ Ok first
    → IsFound (blocks_bytes corner counted double) (AreBlocks counted) bytes blocks
    → first.0 ≡ first_of_blocks blocks.0
first_is corner counted double bytes first blocks hc e found =
    let count = found.1.count in
    let again = first_place-again corner counted double blocks.0 hc count.single count.some count.few found.1.each
    blocks.1 in
    let spelt = found.0.spelt
    ∙ append_assoc (count_bytes counted blocks.0) (flat_map (block_bytes corner double) blocks.0) blocks.1 in
    ap (λ (q : Place × List ℕ). q.0) (ok_is first (first_of_blocks blocks.0, again.0) (sym e
    ∙ ap (first_place_at corner counted) spelt ∙ again.1))

-- a label is read twice, as numbers and as a place, and ends in the same place
label_end : (set : Bool) (start : Place) (bytes : List ℕ) (numbers : Option (ℤ × ℤ) × List ℕ) (label : Option Place
    × List ℕ) → IsPlaceOf32Bits start → IsBytes bytes
    → where_set set two_signed bytes ≡ Ok numbers → where_set set (place_from start) bytes ≡ Ok label
    → label.1 ≡ numbers.1
unfolding Again
label_end false start bytes numbers label hs small en el =
    ap (λ (q : Option Place × List ℕ). q.1) (sym (ok_is (None, bytes) label el))
    ∙ ap (λ (q : Option (ℤ × ℤ) × List ℕ). q.1) (ok_is (None, bytes) numbers en)
label_end true start bytes numbers label hs small en el =
    let n = bind_ok _ _ numbers en in
    let p = bind_ok _ _ label el in
    let found = place_from-found start bytes p.0 small p.1 in
    let again = ap two_signed found.0.spelt ∙ two_signed-again start p.0.0 hs found.1 p.0.1 in
    ap (λ (q : Option Place × List ℕ). q.1) (sym (ok_is (Some p.0.0, p.0.1) label p.2))
    ∙ ap (λ (q : (ℤ × ℤ) × List ℕ). q.1) (ok_is _ n.0 (sym again ∙ n.1))
    ∙ ap (λ (q : Option (ℤ × ℤ) × List ℕ). q.1) (ok_is (Some n.0.0, n.0.1) numbers n.2)

-- a label where the bit is set, and blocks
record IsRest (flags : ℕ) (rest : Option Place × List Block) : Type 0 where
  label : IfSome rest.0 IsPlaceOf32Bits
  set : is_some rest.0 ≡ has_flag flags 0x10
  blocks : AreBlocks (has_flag flags 0x08) rest.1

abbrev rest_bytes : Place → ℕ → Option Place × List Block → List ℕ
rest_bytes corner flags rest = optional (λ p. step_bytes (step (first_of_blocks rest.1) p)) rest.0
    ++ blocks_bytes corner (has_flag flags 0x08) (has_flag flags 0x04) rest.1

label_and_blocks-found : (corner : Place) (flags : ℕ) → IsPlaceOf32Bits corner
    → Finds (label_and_blocks_at corner flags) (rest_bytes corner flags) (IsRest flags)
unfolding label_and_blocks_at
label_and_blocks-found corner flags hc bytes r small e =
    let numbers = bind_ok _ _ r e in
    let first = bind_ok _ _ r numbers.2 in
    let label = bind_ok _ _ r first.2 in
    let blocks = bind_ok _ _ r label.2 in
    let set = has_flag flags 0x10 in
    let counted = has_flag flags 0x08 in
    let double = has_flag flags 0x04 in
    let n = where_set-found two_signed (λ z. vbe_signed z.0 ++ vbe_signed z.1) (λ z. ⊤) two_signed-found set bytes
    numbers.0 small numbers.1 in
    let b = blocks_at-found corner counted double numbers.0.1 blocks.0 n.0.behind blocks.1 in
    let is = first_is corner counted double numbers.0.1 first.0 blocks.0 hc first.1 b in
    let start : IsPlaceOf32Bits first.0.0 =
    subst IsPlaceOf32Bits (sym is) (first_in_range blocks.0.0 b.1.count.some b.1.each) in
    let l = where_set-found (place_from first.0.0) (λ p. step_bytes (step first.0.0 p)) IsPlaceOf32Bits
    (place_from-found first.0.0) set bytes label.0 small label.1 in
    let same = label_end set first.0.0 bytes numbers.0 label.0 start small numbers.1 label.1 in
    let text = subst (λ (q : Place). Takes bytes (optional (λ p. step_bytes (step q p)) label.0.0) numbers.0.1) is
    (subst (λ c. Takes bytes (optional (λ p. step_bytes (step first.0.0 p)) label.0.0) c) same l.0) in
    subst (IsFound (rest_bytes corner flags) (IsRest flags) bytes)
    (ok_is ((label.0.0, blocks.0.0), blocks.0.1) r blocks.2)
    (then text b.0, record { label = l.1.0; set = l.1.1; blocks = b.1 })

-- ---- way

way_flags-sum : (w : WayFields) (flags : ℕ) → flags < 256
    → is_some w.name ≡ has_flag flags 0x80 → is_some w.house ≡ has_flag flags 0x40
    → is_some w.reference ≡ has_flag flags 0x20 → is_some w.label ≡ has_flag flags 0x10
    → w.counted ≡ has_flag flags 0x08 → w.double ≡ has_flag flags 0x04 → w.other ≡ flags % 4 → way_flags w ≡ flags
way_flags-sum w flags fits name house reference label counted double other =
    let a = flag_as flags 0x80 (is_some w.name) name in
    let b = flag_as flags 0x40 (is_some w.house) house in
    let c = flag_as flags 0x20 (is_some w.reference) reference in
    let d = flag_as flags 0x10 (is_some w.label) label in
    let e = flag_as flags 0x08 w.counted counted in
    let f = flag_as flags 0x04 w.double double in
    omega (arith, a, b, c, d, e, f, other, fits)

-- the last three parts, one behind the other
last_three : (front label count blocks : List ℕ)
    → front ++ (label ++ (count ++ blocks)) ≡ front ++ label ++ count ++ blocks
last_three front label count blocks = simp append_assoc refl

then_three : {bytes front middle rest : List ℕ} (label count blocks : List ℕ) → Takes bytes front middle
    → Takes middle (label ++ (count ++ blocks)) rest → Takes bytes (front ++ label ++ count ++ blocks) rest
then_three {bytes} {front} {middle} {rest} label count blocks x y =
    subst (λ text. Takes bytes text rest) (last_three front label count blocks) (then x y)

abbrev way_of : ℕ → ℤ → List Kept → ℕ → Option (List ℕ) → Option (List ℕ) → Option (List ℕ) → Option Place × List Block
    → WayFields
way_of bits layer kept flags name house reference rest = record {
  bits = bits;
  layer = layer;
  tags = kept;
  other = flags % 4;
  name = name;
  house = house;
  reference = reference;
  label = rest.0;
  counted = has_flag flags 0x08;
  double = has_flag flags 0x04;
  blocks = rest.1;
}

-- the parts of a way's bytes as they are read, one after the other
record WayParts (names : List (List ℕ)) (corner : Place) (bytes : List ℕ) (r : WayFields × List ℕ) : Type 0 where
  bits : ℕ × List ℕ
  at_bits : fixed_number TileKind.Short 2 bytes ≡ Ok bits
  layer : (ℤ × ℕ) × List ℕ
  at_layer : layer_at bits.1 ≡ Ok layer
  kept : List Kept × List ℕ
  at_kept : tags_at names layer.0.1 layer.1 ≡ Ok kept
  flags : ℕ × List ℕ
  at_flags : fixed_number TileKind.Short 1 kept.1 ≡ Ok flags
  name : Option (List ℕ) × List ℕ
  at_name : where_set (has_flag flags.0 0x80) tile_text_at flags.1 ≡ Ok name
  house : Option (List ℕ) × List ℕ
  at_house : where_set (has_flag flags.0 0x40) tile_text_at name.1 ≡ Ok house
  reference : Option (List ℕ) × List ℕ
  at_reference : where_set (has_flag flags.0 0x20) tile_text_at house.1 ≡ Ok reference
  rest : (Option Place × List Block) × List ℕ
  at_rest : label_and_blocks_at corner flags.0 reference.1 ≡ Ok rest
  is : (way_of bits.0 layer.0.0 kept.0 flags.0 name.0 house.0 reference.0 rest.0, rest.1) ≡ r

way_parts : (names : List (List ℕ)) (corner : Place) (bytes : List ℕ) (r : WayFields × List ℕ)
    → way_body_at names corner bytes ≡ Ok r → WayParts names corner bytes r
unfolding way_body_at
way_parts names corner bytes r e =
    let bits = bind_ok _ _ r e in
    let layer = bind_ok _ _ r bits.2 in
    let kept = bind_ok _ _ r layer.2 in
    let flags = bind_ok _ _ r kept.2 in
    let name = bind_ok _ _ r flags.2 in
    let house = bind_ok _ _ r name.2 in
    let reference = bind_ok _ _ r house.2 in
    let rest = bind_ok _ _ r reference.2 in
    record {
      bits = bits.0;
      at_bits = bits.1;
      layer = layer.0;
      at_layer = layer.1;
      kept = kept.0;
      at_kept = kept.1;
      flags = flags.0;
      at_flags = flags.1;
      name = name.0;
      at_name = name.1;
      house = house.0;
      at_house = house.1;
      reference = reference.0;
      at_reference = reference.1;
      rest = rest.0;
      at_rest = rest.1;
      is = ok_is (way_of bits.0.0 layer.0.0.0 kept.0.0 flags.0.0 name.0.0 house.0.0 reference.0.0 rest.0.0, rest.0.1) r
          rest.2;
    }

way_from : (names : List (List ℕ)) (corner : Place) (bytes : List ℕ) (r : WayFields × List ℕ) → IsPlaceOf32Bits corner
    → IsBytes bytes → WayParts names corner bytes r → IsFound (way_body_bytes corner) (IsWay names) bytes r
unfolding way_body_bytes count_bytes
way_from names corner bytes r hc small x =
    let a = fixed_number-found TileKind.Short 2 bytes x.bits small x.at_bits in
    let b = layered names x.bits.1 x.layer x.kept a.0.behind x.at_layer x.at_kept in
    let c = byte-found TileKind.Short x.kept.1 x.flags b.spelt.behind x.at_flags in
    let d = where_set-found tile_text_at string IsText text_at-found (has_flag x.flags.0 0x80) x.flags.1 x.name
    c.0.behind x.at_name in
    let h = where_set-found tile_text_at string IsText text_at-found (has_flag x.flags.0 0x40) x.name.1 x.house
    d.0.behind x.at_house in
    let i = where_set-found tile_text_at string IsText text_at-found (has_flag x.flags.0 0x20) x.house.1 x.reference
    h.0.behind x.at_reference in
    let j = label_and_blocks-found corner x.flags.0 hc x.reference.1 x.rest i.0.behind x.at_rest in
    let w = way_of x.bits.0 x.layer.0.0 x.kept.0 x.flags.0 x.name.0 x.house.0 x.reference.0 x.rest.0 in
    let sum = way_flags-sum w x.flags.0 c.1 d.1.1 h.1.1 i.1.1 j.1.set refl refl refl in
    let told = subst (λ f. Takes x.kept.1 (f ∷ []) x.flags.1) (sym sum) c.0 in
    let front = then (then (then (then a.0 b.spelt) (then told d.0)) h.0) i.0 in
    let count = j.1.blocks.count in
    subst (IsFound (way_body_bytes corner) (IsWay names) bytes) x.is (
      then_three (optional (λ p. step_bytes (step (first_of_blocks w.blocks) p)) w.label)
          (count_bytes w.counted w.blocks) (flat_map (block_bytes corner w.double) w.blocks) front j.0,
      record {
        bits = a.1;
        layer = b.low;
        few = b.few;
        kept = b.each;
        other = below_4 x.flags.0;
        name = d.1.0;
        house = h.1.0;
        reference = i.1.0;
        label = j.1.label;
        single = count.single;
        counted =
            (count.some, count.few);
        blocks = j.1.blocks.each;
      },
    )

way_body_at-found : (names : List (List ℕ)) (corner : Place) → IsPlaceOf32Bits corner
    → Finds (way_body_at names corner) (way_body_bytes corner) (IsWay names)
way_body_at-found names corner hc bytes r small e =
    way_from names corner bytes r hc small (way_parts names corner bytes r e)

pub way_at-found : (names : List (List ℕ)) (corner : Place) → IsPlaceOf32Bits corner
    → Finds (way_at names corner) (way_fields_bytes corner) (IsWay names)
unfolding way_at way_fields_bytes sized
way_at-found names corner hc bytes r small e =
    let told = bind_ok _ _ r e in
    let way = bind_ok _ _ r told.2 in
    let fits = bind_ok _ _ r way.2 in
    let a = number-found bytes told.0 small told.1 in
    let b = way_body_at-found names corner hc told.0.1 way.0 a.0.behind way.1 in
    let body = way_body_bytes corner way.0.0 in
    let size = eqb-true (told.0.0 + length way.0.1) (length told.0.1) (require_ok _ _ _ fits.1) in
    let many : told.0.0 ≡ length body = part_size told.0.0 told.0.1 body way.0.1 b.0.spelt size in
    subst (IsFound (way_fields_bytes corner) (IsWay names) bytes) (ok_is way.0 r fits.2)
    (then (subst (λ n. Takes bytes (vbe_unsigned n) told.0.1) many a.0) b.0, b.1)
