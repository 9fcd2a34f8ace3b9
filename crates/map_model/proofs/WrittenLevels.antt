-- What is written of features of an input is what a tile can tell: for the encoder of a tile, and for the whole map
-- that is read again.
use Rattle.std.proofs.Common.{◌≡◌, ℕ, zero, suc, ◌+◌, ◌-◌, ◌*◌, ◌/◌, ◌%◌, ◌^◌, ◌<◌, ◌≤◌, List, [], ◌∷◌, map}
use Rattle.std.proofs.Common.{length, Bool}
use Rattle.std.proofs.Common.{true, false, Option, Some, None, Ok, refl, sym, ap, ◌∙◌, subst, inl, inr, arith, ℤ}
use Rattle.std.proofs.Common.{pos, negsuc}
use Rattle.std.specs.Prelude.{cond, filter, flat_map, nat_abs, nat_lt, slice_get, IfSome}
use Rattle.std.specs.Prelude.{IsTrue}
use Rattle.std.specs.Prelude.{◌==◌, ◌&&◌, leb}
use Rattle.std.specs.List.{AllByRecursion, list_all, range_with_len}
use Rattle.std.proofs.lemmas.Bool.{cases_lt, and_parts, leb-true, lt-ltb, not-true}
use Rattle.std.proofs.lemmas.List.{length-map}
use Rattle.mf_base.specs.declared.place.Place.{Place}
use Rattle.mf_base.specs.declared.kind.EntityKind.{EntityKind}
use Rattle.mf_base.specs.declared.kind.List as which
use Rattle.mf_base.specs.declared.tile.TilePlace.{TilePlace}
use Rattle.mf_base.specs.Ranges.{is_on_earth, is_latitude, is_longitude, is_signed_32, lies_within}
use Rattle.mf_base.specs.Texts.{Text}
use Rattle.feature_model.specs.Inside.{Ring}
use Rattle.feature_model.specs.Mapping.{Mapping, Entry, KeptValue, ValueKind, value_kind, IsOfKind}
use Rattle.feature_model.specs.Entries.{IsMapping, AreEntries, IsEntry}
use Rattle.feature_model.specs.Choice.{Kept}
use Rattle.feature_model.specs.Descriptions.{entries_for, kept_text}
use Rattle.feature_model.specs.Features.{Block, Shape, Feature}
use Rattle.feature_model.specs.Proper.{AllPlaces, IsUtf8Text, IsPresent, IsKept, IsHeight, is_ring}
use Rattle.feature_model.specs.Proper.{is_block, is_shape, is_drawn_as, ring_count, place_count}
use Rattle.feature_model.proofs.EntryLaws.{entry_rule-is}
use Rattle.feature_model.proofs.ListLemmas.{all-map, all-weaker}
use Rattle.feature_model.proofs.Rising.{all-flat_map, all-filter, all-both, all-passes}
use Rattle.feature_model.proofs.Totals.{total, sum-total}
use Rattle.map_model.specs.Rectangles.{blocks_of_shape, places_of_shape, places_of, first_place, rings_of, rect_of}
use Rattle.map_model.specs.TileRects.{meets}
use Rattle.map_model.specs.Intervals.{raised_zoom, zooms}
use Rattle.map_model.specs.Members.{is_node_kind, is_poi, is_way, of_zoom, in_tile_order, weight_of_tile}
use Rattle.map_model.specs.Bitmap.{rect_bits, sub_tile_bits}
use Rattle.map_model.specs.Labels.{first_ring_is_closed, middle, label_place}
use Rattle.map_model.specs.TagLists.{TagLists, entry_text, tag_lists, tag_kind, tag_at}
use Rattle.map_model.specs.TileBytes.{poi_fields, way_fields, tile_corner, tile_bytes, written_level, written_levels}
use Rattle.map_model.specs.TileReading.{IsText, IsPlaceOf32Bits, IsKeptOf, IsPoi, IsToldRing, IsToldBlock, IsWay}
use Rattle.map_model.specs.TileReading.{IsLevel}
use Rattle.map_model.specs.TileReading.{read_tile_from, read_tile}
use Rattle.map_model.specs.Listed.{listed}
use Rattle.map_model.specs.Room.{rows_limit, IsShort, IsKeptShort, IsWritable, IsWritten}
use Rattle.map_model.proofs.TileLaws.{entry-value}
use Rattle.map_model.proofs.CornerLemmas.{in_32-small}
use Rattle.map_model.proofs.HeaderOfMapping.{place-32}
use Rattle.map_model.proofs.Widths.{IsNear}
use Rattle.map_model.proofs.FeatureRoom.{first-32}
use Rattle.map_model.proofs.WayRoom.{middle-near, count-rings, count-places, few-blocks}
use Rattle.map_model.proofs.TileRoom.{weights, few-features, filter-le, tile-room}
use Rattle.map_model.proofs.RecordsAgain.{reads_written}

-- ---- places

flat-rings : (P : Place → Type 0) (block : Block) → AllByRecursion (λ ring. AllByRecursion P ring) block
    → AllByRecursion P (flat_map (λ ring. ring) block)
flat-rings P block all = all-flat_map P (λ ring. ring) block all

flat-places : (P : Place → Type 0) (s : Shape) → AllPlaces P s → AllByRecursion P (places_of_shape s)
flat-places P (Shape.point p) all = (all, tt)
flat-places P (Shape.blocks found) all =
    all-flat_map P (λ rings. flat_map (λ ring. ring) rings) found
    (all-weaker (λ (block : Block). AllByRecursion (λ ring. AllByRecursion P ring) block)
    (λ rings. AllByRecursion P (flat_map (λ ring. ring) rings)) found (flat-rings P) all)

earth-32 : (s : Shape) → AllPlaces (λ p. IsTrue (is_on_earth p)) s → AllByRecursion IsPlaceOf32Bits (places_of_shape s)
earth-32 s all =
    all-weaker (λ p. IsTrue (is_on_earth p)) IsPlaceOf32Bits (places_of_shape s) place-32
    (flat-places (λ p. IsTrue (is_on_earth p)) s all)

abs-within : (low high : ℕ) (z : ℤ) → low ≤ high → lies_within (negsuc low) (pos (suc high)) z ≡ true
    → nat_abs z ≤ suc high
abs-within low high (pos n) le h = leb-true n (suc high) h
abs-within low high (negsuc n) le h = let small = leb-true n low (and_parts (leb n low) true h).0 in
    omega (arith, le, small)

earth-near : (p : Place) → is_on_earth p ≡ true → IsNear 180000000 p
earth-near p h =
    let sides = and_parts (is_latitude p.lat) (is_longitude p.lon) h in
    let lat = abs-within 89999999 89999999 p.lat (omega arith) sides.0 in
    record { lat = omega (arith, lat); lon = abs-within 179999999 179999999 p.lon (omega arith) sides.1 }

-- ---- what may be written

text-short : (o : Option Text) → IfSome o IsPresent → IfSome o IsShort
text-short None h = tt
text-short (Some t) h = h.1

height-small : (o : Option ℤ) → IfSome o IsHeight → IfSome o (λ z. nat_abs z < 100000)
height-small None h = tt
height-small (Some z) h = let small = abs-within 99998 99998 z (omega arith) h in omega (arith, small)

kind-short : (kind : ValueKind) (v : KeptValue) → IsOfKind IsPresent kind v → IfSome (kept_text v) IsShort
kind-short kind KeptValue.plain h = tt
kind-short kind (KeptValue.byte n) h = tt
kind-short kind (KeptValue.short n) h = tt
kind-short kind (KeptValue.int n) h = tt
kind-short ValueKind.plain (KeptValue.text t) h = absurd h
kind-short ValueKind.byte (KeptValue.text t) h = absurd h
kind-short ValueKind.short (KeptValue.text t) h = absurd h
kind-short ValueKind.int (KeptValue.text t) h = absurd h
kind-short ValueKind.text (KeptValue.text t) h = h.1

-- the entry of a kept tag
entry-there : (entries : List Entry) (n : ℕ) → n < length entries → (e : Entry) × (slice_get entries n ≡ Some e)
entry-there [] n lt = absurd (omega (arith, lt))
entry-there (e ∷ entries) zero lt = (e, refl)
entry-there (e ∷ entries) (suc n) lt = entry-there entries n (omega (arith, lt))

kept-short : (entries : List Entry) (k : Kept) → length entries ≤ 4096 → IsKept entries k → IsKeptShort k
kept-short entries k few h =
    let there = entry-there entries k.tag h.0 in (
      omega (arith, few, h.0),
      kind-short (value_kind there.0.value) k.value
          (subst (λ o. IfSome o (λ (e : Entry). IsOfKind IsPresent (value_kind e.value) k.value)) there.1 h.1),
    )

few-entries : (mapping : Mapping) (kind : EntityKind) → IsMapping mapping → length (entries_for mapping kind) ≤ 4096
few-entries mapping EntityKind.Node m = m.poi.few
few-entries mapping EntityKind.Way m = m.way.few
few-entries mapping EntityKind.Relation m = m.way.few

-- A feature of an input that is light enough may be written.
pub writable-of : (mapping : Mapping) (f : Feature) → IsMapping mapping → IsWritten mapping f → IsWritable f
writable-of mapping f m h =
    let proper = h.proper in
    record {
      few = proper.few;
      kept = all-weaker (IsKept (entries_for mapping f.kind)) IsKeptShort f.tags
          (λ k is. kept-short (entries_for mapping f.kind) k (few-entries mapping f.kind m) is) proper.kept;
      name = text-short f.name proper.name;
      house = text-short f.house proper.house;
      reference = text-short f.reference proper.reference;
      height = height-small f.height proper.height;
      shape = proper.shape;
      places = earth-32 f.shape h.input.places;
      weight = proper.weight;
      light = h.light;
    }

-- ---- what a tile can tell

text-told : (o : Option Text) → IfSome o IsPresent → IfSome o IsUtf8Text → IfSome o IsText
text-told None short utf8 = tt
text-told (Some t) short utf8 = let few = short.1 in (omega (arith, few), utf8)

height-told : (o : Option ℤ) → IfSome o IsHeight → IfSome o (λ n. IsTrue (is_signed_32 n))
height-told None h = tt
height-told (Some z) h = let small = abs-within 99998 99998 z (omega arith) h in in_32-small z (omega (arith, small))

value-told : (kind : ValueKind) (v : KeptValue) → IfSome (kept_text v) IsUtf8Text → IsOfKind IsPresent kind v
    → IsOfKind IsText kind v
value-told ValueKind.plain KeptValue.plain utf8 h = h
value-told ValueKind.byte (KeptValue.byte n) utf8 h = h
value-told ValueKind.short (KeptValue.short n) utf8 h = h
value-told ValueKind.int (KeptValue.int n) utf8 h = h
value-told ValueKind.text (KeptValue.text t) utf8 h = let few = h.1 in (omega (arith, few), utf8)
value-told _ _ utf8 h = absurd h

tag-there : (entries : List Entry) (n : ℕ) (e : Entry) → slice_get entries n ≡ Some e
    → tag_at (map entry_text entries) n ≡ entry_text e
tag-there [] n e h = absurd (cc h)
tag-there (f ∷ entries) zero e h = ap entry_text (some-is h)
  where
    some-is : Some f ≡ Some e → f ≡ e
    some-is same = cc
tag-there (f ∷ entries) (suc n) e h = tag-there entries n e h

entry-of : (P : Entry → Type 0) (entries : List Entry) (n : ℕ) (e : Entry) → AllByRecursion P entries
    → slice_get entries n ≡ Some e → P e
entry-of P [] n e all h = absurd (cc h)
entry-of P (f ∷ entries) zero e all h = subst P (some-is h) all.0
  where
    some-is : Some f ≡ Some e → f ≡ e
    some-is same = cc
entry-of P (f ∷ entries) (suc n) e all h = entry-of P entries n e all.1 h

kind-of_entry : (list : which.List) (e : Entry) → IsEntry list e → tag_kind (entry_text e) ≡ value_kind e.value
unfolding tag_kind
kind-of_entry list e is = ap value_kind (entry-value e (rw ((entry_rule-is list e is.entry_rule).no_equals) refl))

kept-told : (list : which.List) (entries : List Entry) (k : Kept) → AreEntries list entries → IsKept entries k
    → IfSome (kept_text k.value) IsUtf8Text → IsKeptOf (map entry_text entries) k
kept-told list entries k are h utf8 =
    let there = entry-there entries k.tag h.0 in
    let e = there.0 in
    let is = entry-of (IsEntry list) entries k.tag e are.rules there.1 in
    let count = length-map entries entry_text in
    let few = are.few in
    let kind : value_kind e.value ≡ tag_kind (tag_at (map entry_text entries) k.tag) =
    sym (ap tag_kind (tag-there entries k.tag e there.1) ∙ kind-of_entry list e is) in (
      omega (arith, count, h.0),
      omega (arith, few, h.0),
      subst (λ kind. IsOfKind IsText kind k.value) kind
          (value-told (value_kind e.value) k.value utf8
          (subst (λ o. IfSome o (λ (e : Entry). IsOfKind IsPresent (value_kind e.value) k.value)) there.1 h.1)),
    )

tags-told : (list : which.List) (entries : List Entry) (tags : List Kept) → AreEntries list entries
    → AllByRecursion (IsKept entries) tags → AllByRecursion (λ (k : Kept). IfSome (kept_text k.value) IsUtf8Text) tags
    → AllByRecursion (IsKeptOf (map entry_text entries)) tags
tags-told list entries tags are kept utf8 =
    all-weaker (λ k. IsKept entries k × IfSome (kept_text k.value) IsUtf8Text)
    (IsKeptOf (map entry_text entries)) tags (λ k h. kept-told list entries k are h.0 h.1)
    (all-both (IsKept entries) (λ k. IfSome (kept_text k.value) IsUtf8Text) tags kept utf8)

first-32_of : (f : Feature) → AllPlaces (λ p. IsTrue (is_on_earth p)) f.shape
    → IsPlaceOf32Bits (first_place (places_of f))
first-32_of f all = first-32 (places_of f) (earth-32 f.shape all)

poi-told : (mapping : Mapping) (f : Feature) → IsMapping mapping → IsWritten mapping f → is_poi f ≡ true
    → IsPoi (tag_lists mapping).poi (poi_fields f)
unfolding poi_fields
poi-told mapping f m h poi =
    let proper = h.proper in
    let few = proper.few in
    let entries = subst (λ es. AllByRecursion (IsKept es) f.tags) (poi-entries f.kind poi) proper.kept in
    record {
      place = first-32_of f h.input.places;
      layer = proper.layer;
      few = omega (arith, few);
      kept = tags-told which.List.Poi mapping.poi f.tags m.poi entries h.input.kept;
      other = omega arith;
      name = text-told f.name proper.name h.input.name;
      house = text-told f.house proper.house h.input.house;
      height = height-told f.height proper.height;
    }
  where
    poi-entries : (kind : EntityKind) → is_node_kind kind ≡ true → entries_for mapping kind ≡ mapping.poi
    poi-entries EntityKind.Node e = refl
    poi-entries EntityKind.Way e = absurd (cc e)
    poi-entries EntityKind.Relation e = absurd (cc e)

-- ---- ways

total-le : {X : Type 0} (f g : X → ℕ) (xs : List X) → ((x : X) → f x ≤ g x) → total f xs ≤ total g xs
total-le f g [] le = omega arith
total-le f g (x ∷ xs) le = let here = le x in let rest = total-le f g xs le in omega (arith, here, rest)

cond-le : (b : Bool) (n : ℕ) → cond b n 0 ≤ n
cond-le true n = omega arith
cond-le false n = omega arith

-- sixteen bits
bits-small : (f : Feature) (tile : TilePlace) → sub_tile_bits f tile < 2 ^ 16
unfolding sub_tile_bits rect_bits
bits-small f tile = by_coast f.coast
  where
    bits : ℕ
    bits = rect_bits (rect_of f) tile.interval.base tile.x tile.y

    small : bits ≤ 65535
    small =
        let sum = sum-total
        (λ n. cond (meets (rect_of f) (tile.interval.base + 2) (4 * tile.x + n % 4) (4 * tile.y + n / 4))
        (2 ^ (15 - n)) 0) (range_with_len 0 16) in
        let le = total-le
        (λ n. cond (meets (rect_of f) (tile.interval.base + 2) (4 * tile.x + n % 4) (4 * tile.y + n / 4))
        (2 ^ (15 - n)) 0) (λ n. 2 ^ (15 - n)) (range_with_len 0 16)
        (λ n. cond-le (meets (rect_of f) (tile.interval.base + 2) (4 * tile.x + n % 4) (4 * tile.y + n / 4))
        (2 ^ (15 - n))) in
        omega (arith, sum, le)

    by_coast : (b : Bool) → cond b 65535 bits < 2 ^ 16
    by_coast true = omega arith
    by_coast false = omega (arith, small)

near-earth : (ps : Ring) → AllByRecursion (λ p. IsTrue (is_on_earth p)) ps → AllByRecursion (IsNear 180000000) ps
near-earth ps all = all-weaker (λ p. IsTrue (is_on_earth p)) (IsNear 180000000) ps earth-near all

label-told : (f : Feature) → AllPlaces (λ p. IsTrue (is_on_earth p)) f.shape → IfSome (label_place f) IsPlaceOf32Bits
unfolding label_place
label-told f all = by_test (f.label && first_ring_is_closed (rings_of f))
  where
    by_test : (b : Bool) → IfSome (cond b (Some (middle (rect_of f))) None) IsPlaceOf32Bits
    by_test true =
        let near = middle-near 180000000 (places_of f)
        (near-earth (places_of f) (flat-places (λ p. IsTrue (is_on_earth p)) f.shape all)) in
        let lat = near.lat in
        let lon = near.lon in (
          in_32-small (middle (rect_of f)).lat (omega (arith, lat)),
          in_32-small (middle (rect_of f)).lon (omega (arith, lon)),
        )
    by_test false = tt

ring-told : (ring : Ring) → is_ring ring ≡ true → length ring < 2 ^ 35
    → AllByRecursion (λ p. IsTrue (is_on_earth p)) ring → IsToldRing ring
ring-told ring is few all = (
  leb-true 2 (length ring) is,
  omega (arith, few),
  all-weaker (λ p. IsTrue (is_on_earth p)) IsPlaceOf32Bits ring place-32 all,
)

rings-told : (rings : Block) → list_all is_ring rings ≡ true → total length rings < 2 ^ 35
    → AllByRecursion (λ ring. AllByRecursion (λ p. IsTrue (is_on_earth p)) ring) rings → AllByRecursion IsToldRing rings
rings-told [] is few all = tt
rings-told (ring ∷ rings) is few all =
    let both = and_parts (is_ring ring) (list_all is_ring rings) is in
    (ring-told ring both.0 (omega (arith, few)) all.0, rings-told rings both.1 (omega (arith, few)) all.1)

block-told : (rings : Block) → is_block rings ≡ true → length rings < 2 ^ 35 → total length rings < 2 ^ 35
    → AllByRecursion (λ ring. AllByRecursion (λ p. IsTrue (is_on_earth p)) ring) rings → IsToldBlock rings
block-told [] is many few all = absurd (cc is)
block-told (ring ∷ rings) is many few all = (omega arith, omega (arith, many), rings-told (ring ∷ rings) is few all)

blocks-told : (found : List Block) → list_all is_block found ≡ true → total length found < 2 ^ 35
    → total (λ (rings : Block). total length rings) found < 2 ^ 35
    → AllByRecursion
    (λ (block : Block). AllByRecursion (λ ring. AllByRecursion (λ p. IsTrue (is_on_earth p)) ring) block) found
    → AllByRecursion IsToldBlock found
blocks-told [] is many few all = tt
blocks-told (block ∷ found) is many few all =
    let both = and_parts (is_block block) (list_all is_block found) is in (
      block-told block both.0 (omega (arith, many)) (omega (arith, few)) all.0,
      blocks-told found both.1 (omega (arith, many)) (omega (arith, few)) all.1,
    )

-- what a way is drawn from
record IsDrawn (s : Shape) : Type 0 where
  some : 1 ≤ length (blocks_of_shape s)
  few : length (blocks_of_shape s) < 2 ^ 35
  told : AllByRecursion IsToldBlock (blocks_of_shape s)

drawn-of : (s : Shape) → is_shape s ≡ true → is_drawn_as EntityKind.Way s ≡ true → ring_count s < 2 ^ 35
    → place_count s < 2 ^ 35 → AllPlaces (λ p. IsTrue (is_on_earth p)) s → IsDrawn s
drawn-of (Shape.point p) is drawn rings places all = absurd (cc drawn)
drawn-of (Shape.blocks []) is drawn rings places all = absurd (cc is)
drawn-of (Shape.blocks (block ∷ found)) is drawn rings places all =
    let r = count-rings (block ∷ found) in
    let p = count-places (block ∷ found) in
    let few = few-blocks (block ∷ found) is in
    record {
      some = omega arith;
      few = omega (arith, few, r, rings);
      told =
          blocks-told (block ∷ found) is (omega (arith, r, rings)) (omega (arith, p, places)) all;
    }

one-block : (n : ℕ) → 1 ≤ n → nat_lt 1 n ≡ false → n ≡ 1
one-block n some none =
    elim (cases_lt 1 n) [
      | inl more ↦ absurd (cc (lt-ltb 1 n more, none))
      | inr le ↦ omega (arith, some, le)
    ]

way-told : (mapping : Mapping) (tile : TilePlace) (f : Feature) → IsMapping mapping → IsWritten mapping f
    → is_poi f ≡ false → IsWay (tag_lists mapping).way (way_fields (tile_corner tile) (sub_tile_bits f tile) f)
unfolding way_fields
way-told mapping tile f m h way =
    let proper = h.proper in
    let few = proper.few in
    let weight = proper.weight in
    let light = h.light in
    let entries = subst (λ es. AllByRecursion (IsKept es) f.tags) (way-entries f.kind way) proper.kept in
    let drawn = drawn-of f.shape proper.shape (way-drawn f.kind way proper.drawn) (omega (arith, weight, light))
    (omega (arith, weight, light)) h.input.places in
    let many = drawn.few in
    record {
      bits = bits-small f tile;
      layer = proper.layer;
      few = omega (arith, few);
      kept = tags-told which.List.Way mapping.way f.tags m.way entries h.input.kept;
      other = omega arith;
      name = text-told f.name proper.name h.input.name;
      house = text-told f.house proper.house h.input.house;
      reference = text-told f.reference proper.reference h.input.reference;
      label = label-told f h.input.places;
      single = one-block (length (blocks_of_shape f.shape)) drawn.some;
      counted = (drawn.some, omega (arith, many));
      blocks = drawn.told;
    }
  where
    way-entries : (kind : EntityKind) → is_node_kind kind ≡ false → entries_for mapping kind ≡ mapping.way
    way-entries EntityKind.Node e = absurd (cc e)
    way-entries EntityKind.Way e = refl
    way-entries EntityKind.Relation e = refl

    way-drawn : (kind : EntityKind) → is_node_kind kind ≡ false → is_drawn_as kind f.shape ≡ true
        → is_drawn_as EntityKind.Way f.shape ≡ true
    way-drawn EntityKind.Node e drawn = absurd (cc e)
    way-drawn EntityKind.Way e drawn = drawn
    way-drawn EntityKind.Relation e drawn = relation-drawn f.shape drawn
      where
        relation-drawn : (s : Shape) → is_drawn_as EntityKind.Relation s ≡ true → is_drawn_as EntityKind.Way s ≡ true
        relation-drawn (Shape.point p) drawn = drawn
        relation-drawn (Shape.blocks found) drawn = drawn

-- ---- levels

level-told : (mapping : Mapping) (tile : TilePlace) (fs : List Feature) (zoom : ℕ) → IsMapping mapping
    → AllByRecursion (IsWritten mapping) fs → length fs < 2 ^ 63
    → IsLevel (tag_lists mapping) (written_level (tile_corner tile) tile fs zoom)
unfolding written_level
level-told mapping tile fs zoom m all few =
    let pois = filter is_poi fs in
    let ways = filter is_way fs in
    let at = λ (f : Feature). raised_zoom tile.interval f.zoom == zoom in
    let are_pois =
    all-both (IsWritten mapping) (λ f. is_poi f ≡ true) pois (all-filter (IsWritten mapping) is_poi fs all)
    (all-passes is_poi fs) in
    let are_ways =
    all-both (IsWritten mapping) (λ f. is_way f ≡ true) ways (all-filter (IsWritten mapping) is_way fs all)
    (all-passes is_way fs) in
    record {
      pois = all-map (IsPoi (tag_lists mapping).poi) poi_fields (of_zoom tile.interval zoom pois)
          (all-weaker (λ f. IsWritten mapping f × (is_poi f ≡ true))
          (λ f. IsPoi (tag_lists mapping).poi (poi_fields f)) (of_zoom tile.interval zoom pois)
          (λ f h. poi-told mapping f m h.0 h.1)
          (all-filter (λ f. IsWritten mapping f × (is_poi f ≡ true))
          (λ f. raised_zoom tile.interval f.zoom == zoom) pois are_pois));
      ways = all-map (IsWay (tag_lists mapping).way) (λ f. way_fields (tile_corner tile) (sub_tile_bits f tile) f)
          (of_zoom tile.interval zoom ways)
          (all-weaker (λ f. IsWritten mapping f × (is_way f ≡ true))
          (λ f. IsWay (tag_lists mapping).way (way_fields (tile_corner tile) (sub_tile_bits f tile) f))
          (of_zoom tile.interval zoom ways) (λ f h. way-told mapping tile f m h.0 (not-true (is_poi f) h.1))
          (all-filter (λ f. IsWritten mapping f × (is_way f ≡ true))
          (λ f. raised_zoom tile.interval f.zoom == zoom) ways are_ways));
      counts = (
        let a = length-map (of_zoom tile.interval zoom pois) poi_fields in let b =
            filter-le (λ f. raised_zoom tile.interval f.zoom == zoom) pois in let c = filter-le is_poi fs in
            omega (arith, few, a, b, c),
        let a = length-map (of_zoom tile.interval zoom ways)
            (λ f. way_fields (tile_corner tile) (sub_tile_bits f tile) f) in let b =
            filter-le (λ f. raised_zoom tile.interval f.zoom == zoom) ways in let c = filter-le is_way fs in
            omega (arith, few, a, b, c),
      );
    }

levels-of : (mapping : Mapping) (tile : TilePlace) (fs : List Feature) (some : List ℕ) → IsMapping mapping
    → AllByRecursion (IsWritten mapping) fs → length fs < 2 ^ 63
    → AllByRecursion (IsLevel (tag_lists mapping)) (map (written_level (tile_corner tile) tile fs) some)
levels-of mapping tile fs [] m all few = tt
levels-of mapping tile fs (zoom ∷ some) m all few =
    (level-told mapping tile fs zoom m all few, levels-of mapping tile fs some m all few)

pub levels-told : (mapping : Mapping) (tile : TilePlace) (fs : List Feature) → IsMapping mapping
    → AllByRecursion (IsWritten mapping) fs → length fs < 2 ^ 63
    → AllByRecursion (IsLevel (tag_lists mapping)) (written_levels tile fs)
unfolding written_levels
levels-told mapping tile fs m all few = levels-of mapping tile fs (zooms tile.interval) m all few

read-nothing : (names : TagLists) (tile : TilePlace) → read_tile names tile (tile_bytes tile []) ≡ Ok []
unfolding tile_bytes read_tile read_tile_from
read-nothing names tile = refl

-- The tile of features of an input is read again.
pub tile-read : (mapping : Mapping) (tile : TilePlace) (fs : List Feature) → IsMapping mapping
    → AllByRecursion (IsWritten mapping) fs → weight_of_tile fs ≤ rows_limit
    → tile.x < 2 ^ tile.interval.base → tile.interval.max ≤ 21 → fs ≡ in_tile_order tile.interval fs
    → read_tile (tag_lists mapping) tile (tile_bytes tile fs) ≡ Ok (map (listed (tag_lists mapping) tile) fs)
unfolding weights
tile-read mapping tile [] m all light below top ordered = read-nothing (tag_lists mapping) tile
tile-read mapping tile (f ∷ fs) m all light below top ordered =
    let writable = all-weaker (IsWritten mapping) IsWritable (f ∷ fs) (λ f h. writable-of mapping f m h) all in
    let room = tile-room tile (f ∷ fs) below top ordered writable light in
    let sum = sum-total (λ (f : Feature). f.weight) (f ∷ fs) in
    let many = few-features (f ∷ fs) writable in
    reads_written (tag_lists mapping) tile f fs below ordered
    (levels-told mapping tile (f ∷ fs) m all (omega (arith, light, sum, many))) (omega (arith, room, light))

pub ruleset writing_laws = (writable-of, levels-told, tile-read)
