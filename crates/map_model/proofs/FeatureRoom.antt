-- How many bytes a feature and a tile take: at most 16 for each row that is weighed. For the encoder of a tile, whose
-- output has room for it.
use Rattle.std.proofs.Common.{◌+◌, ◌*◌, ◌<◌, ◌≤◌, List, [], ◌∷◌, length}
use Rattle.std.proofs.Common.{refl, arith, length-append, Option, Some, None}
use Rattle.std.specs.Prelude.{ℤ, nat_abs, flat_map, IfSome}
use Rattle.std.specs.List.{AllByRecursion}
use Rattle.std.specs.Int.{w8, w16, w32, cast_unsigned}
use Rattle.mf_base.specs.declared.place.Place.{Place}
use Rattle.mf_base.specs.Texts.{Text}
use Rattle.mf_base.specs.Spelling.{vbe_unsigned, vbe_signed, string}
use Rattle.mf_base.proofs.ByteLaws.{length-big_endian}
use Rattle.feature_model.specs.Inside.{Ring}
use Rattle.feature_model.specs.Mapping.{KeptValue}
use Rattle.feature_model.specs.Choice.{Kept}
use Rattle.feature_model.specs.Descriptions.{kept_text, text_size, kept_size}
use Rattle.feature_model.specs.Features.{Feature, description_of}
use Rattle.feature_model.specs.Proper.{ring_count, place_count}
use Rattle.feature_model.proofs.Totals.{total, sum-total}
use Rattle.feature_model.proofs.TextSizes.{texts-by_parts}
use Rattle.map_model.specs.Rectangles.{places_of, first_place}
use Rattle.map_model.specs.Layout.{optional, value_bytes, tag_bytes, step}
use Rattle.map_model.specs.Layout.{poi_fields_bytes}
use Rattle.map_model.specs.TileBytes.{poi_fields, poi_bytes}
use Rattle.map_model.specs.TileReading.{IsPlaceOf32Bits}
use Rattle.map_model.specs.Room.{IsShort, IsKeptShort, IsWritable}
use Rattle.map_model.proofs.Widths.{length-two, length-signed, length-text, length-place}

-- ---- tags

length-value : (k : Kept) → IsKeptShort k → length (value_bytes k.value) ≤ 4 + text_size (kept_text k.value)
length-value k h = by_value k.value h.1
  where
    by_value : (v : KeptValue) → IfSome (kept_text v) IsShort → length (value_bytes v) ≤ 4 + text_size (kept_text v)
    by_value KeptValue.plain short = omega arith
    by_value (KeptValue.byte n) short = rw (length-big_endian 1 (cast_unsigned w8 n)) (omega arith)
    by_value (KeptValue.short n) short = rw (length-big_endian 2 (cast_unsigned w16 n)) (omega arith)
    by_value (KeptValue.int n) short = rw (length-big_endian 4 (cast_unsigned w32 n)) (omega arith)
    by_value (KeptValue.text t) short = let size = length-text t (omega (arith, short)) in omega (arith, size)

length-ids : (tags : List Kept) → AllByRecursion IsKeptShort tags
    → length (flat_map (λ (k : Kept). vbe_unsigned k.tag) tags) ≤ 2 * length tags
length-ids [] all = omega arith
length-ids (k ∷ tags) all =
    let id = all.0.0 in
    let here = length-two k.tag (omega (arith, id)) in
    let rest = length-ids tags all.1 in
    let whole = length-append (vbe_unsigned k.tag) (flat_map (λ (k : Kept). vbe_unsigned k.tag) tags) in
    omega (arith, here, rest, whole)

length-values : (tags : List Kept) → AllByRecursion IsKeptShort tags
    → length (flat_map (λ (k : Kept). value_bytes k.value) tags) ≤ 4 * length tags
    + total (λ (k : Kept). text_size (kept_text k.value)) tags
length-values [] all = omega arith
length-values (k ∷ tags) all =
    let here = length-value k all.0 in
    let rest = length-values tags all.1 in
    let whole = length-append (value_bytes k.value) (flat_map (λ (k : Kept). value_bytes k.value) tags) in
    omega (arith, here, rest, whole)

-- layer and tags take at most 91 bytes beside the texts
pub length-tags : (layer : ℤ) (tags : List Kept) → length tags ≤ 15 → AllByRecursion IsKeptShort tags
    → length (tag_bytes layer tags) ≤ 91 + kept_size tags
unfolding tag_bytes kept_size
length-tags layer tags few all =
    let ids = length-ids tags all in
    let values = length-values tags all in
    let sum = sum-total (λ (k : Kept). text_size (kept_text k.value)) tags in
    let whole = length-append (flat_map (λ (k : Kept). vbe_unsigned k.tag) tags)
    (flat_map (λ (k : Kept). value_bytes k.value) tags) in
    omega (arith, few, ids, values, sum, whole)

-- ---- texts

pub length-optional : (o : Option Text) → IfSome o IsShort → length (optional string o) ≤ 2 + text_size o
length-optional None short = omega arith
length-optional (Some t) short = let size = length-text t (omega (arith, short)) in omega (arith, size)

length-height : (o : Option ℤ) → IfSome o (λ z. nat_abs z < 100000) → length (optional vbe_signed o) ≤ 5
length-height None low = omega arith
length-height (Some z) low = length-signed z (omega (arith, low))

-- what 16 bytes for each row are
pub weight-room : (f : Feature) → IsWritable f
    → 160 + 16 * ring_count f.shape + 16 * place_count f.shape
    + (text_size f.name + text_size f.house + text_size f.reference + kept_size f.tags) ≤ 16 * f.weight
weight-room f h = let weight = h.weight in let texts = texts-by_parts (description_of f) in omega (arith, weight, texts)

-- ---- POIs

pub first-32 : (ps : Ring) → AllByRecursion IsPlaceOf32Bits ps → IsPlaceOf32Bits (first_place ps)
first-32 [] all = (refl, refl)
first-32 (p ∷ ps) all = all.0

-- beside its texts a POI takes at most 111 bytes
length-poi : (corner : Place) (f : Feature) → IsPlaceOf32Bits corner → IsWritable f
    → length (poi_bytes corner f) ≤ 111 + (text_size f.name + text_size f.house + kept_size f.tags)
unfolding poi_bytes poi_fields poi_fields_bytes
length-poi corner f at h =
    let place = length-place corner (first_place (places_of f)) at (first-32 (places_of f) h.places) in
    let tags = length-tags f.layer f.tags h.few h.kept in
    let name = length-optional f.name h.name in
    let house = length-optional f.house h.house in
    let height = length-height f.height h.height in
    simp (length-append)
    (omega (
      arith,
      place,
      tags,
      name,
      house,
      height,
      length-append (vbe_signed (step corner (first_place (places_of f))).lat)
          (vbe_signed (step corner (first_place (places_of f))).lon),
    ))

pub poi-room : (corner : Place) (f : Feature) → IsPlaceOf32Bits corner → IsWritable f
    → length (poi_bytes corner f) ≤ 16 * f.weight
poi-room corner f at h = let bytes = length-poi corner f at h in let room =
    weight-room f h in omega (arith, bytes, room)

pub ruleset feature_laws = (length-tags, poi-room)
