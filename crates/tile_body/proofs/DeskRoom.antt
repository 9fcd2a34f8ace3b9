-- The room that a tile takes: at most 16 bytes for each unit of a desk, and 246, so that its output holds it.
use Rattle.std.proofs.Common.{◌≡◌, ℕ, zero, suc, ◌+◌, ◌-◌, ◌*◌, ◌^◌, ◌≤◌, ◌<◌, List, [], ◌∷◌, ◌++◌, length, map}
use Rattle.std.proofs.Common.{subst}
use Rattle.std.proofs.Common.{refl, ap, arith, length-append, Option, Some, None, Bool, true, false}
use Rattle.std.specs.Prelude.{ℤ, cond, not, filter, flat_map, count_by, IfSome, IsTrue, ◌==◌}
use Rattle.std.specs.List.{AllByRecursion, range_with_len}
use Rattle.std.proofs.lemmas.List.{length-map}
use Rattle.mf_base.specs.declared.place.Place.{Place}
use Rattle.mf_base.specs.declared.tile.TilePlace.{TilePlace}
use Rattle.mf_base.specs.Ranges.{is_signed_32}
use Rattle.mf_base.specs.Spelling.{vbe_unsigned, vbe_signed}
use Rattle.feature_model.specs.Features.{Feature, description_of}
use Rattle.feature_model.proofs.TextSizes.{texts-by_parts}
use Rattle.feature_model.proofs.Totals.{total, count-total}
use Rattle.map_model.specs.Members.{is_poi, is_way, in_tile_order}
use Rattle.map_model.specs.Intervals.{raised_zoom}
use Rattle.map_model.specs.Bitmap.{sub_tile_bits}
use Rattle.map_model.specs.Rectangles.{places_of, first_place}
use Rattle.map_model.specs.Layout.{sized, step, optional, poi_fields_bytes}
use Rattle.map_model.specs.TileBytes.{poi_fields, poi_bytes, way_fields, way_bytes, tile_corner, tile_bytes, is_double}
use Rattle.map_model.specs.TileBytes.{coordinate_size}
use Rattle.map_model.specs.Labels.{label_place}
use Rattle.map_model.specs.TileReading.{IsPlaceOf32Bits}
use Rattle.map_model.specs.Room.{rows_limit, IsWritable}
use Rattle.map_model.proofs.CornerLemmas.{tile_corner-in_range}
use Rattle.map_model.proofs.LevelLemmas.{tile_bytes-flat}
use Rattle.map_model.proofs.Widths.{near-32, length-signed, length-place, length-four, length-five}
use Rattle.map_model.proofs.FeatureRoom.{length-tags, length-optional, weight-room, first-32}
use Rattle.map_model.proofs.WayRoom.{way-room}
use Rattle.map_model.proofs.TileRoom.{filter-le}
use Rattle.map_model.proofs.TileOrder.{stand-in_order}
use Rattle.mf_rows.specs.Desks.{Desktop, units_in, used}
use Rattle.mf_rows.specs.Records.{Record, candidate_told}
use Rattle.mf_rows.specs.RecordUnits.{unit_count}
use Rattle.mf_rows.specs.Shapes.{shape_told, feature_told}
use Rattle.tile_body.specs.Members.{IsTile, IsSpelled, IsMember, HoldsMembers}
use Rattle.tile_body.specs.Tiles.{features_told, count_at, counts_at, table_bytes, class_bytes, pois_bytes, way_in}
use Rattle.tile_body.specs.Tiles.{ways_bytes}
use Rattle.tile_body.specs.Tags.{tags_told}
use Rattle.tile_body.proofs.TagBytes.{count-told}
use Rattle.tile_body.proofs.TextRoom.{texts-within}
use Rattle.tile_body.proofs.ShapeRoom.{shape-count, shape-is, places-32}

-- ---- a record as a feature that weighs its units

-- what is drawn of a record, with its units as its weight; a height is looked at apart
abbrev bare : Record → Feature
bare r = record (feature_told r) { weight = unit_count r; height = None }

few-tags : (r : Record) → IsSpelled r → length (tags_told r) ≤ 15
few-tags r s = let same = count-told r.texts 0 r.head.tags.items in let few = s.few in omega (arith, same, few)

writable : (r : Record) → IsMember r → unit_count r ≤ rows_limit → IsWritable (bare r)
unfolding feature_told candidate_told
writable r m light =
    let s = m.spelled in
    let texts = texts-within r.texts r.head.tags.items in
    let parts = texts-by_parts (description_of (bare r)) in
    let drawn = shape-count r.head.kind r.spot r.parts m.feature in
    record {
      few = few-tags r s;
      kept = s.kept;
      name = s.name;
      house = s.house;
      reference = s.reference;
      height = tt;
      shape = shape-is r.head.kind r.spot r.parts m.feature;
      places = places-32 (shape_told r) m.places;
      weight = omega (arith, texts, parts, drawn);
      light = light;
    }

length-height : (o : Option ℤ) → IfSome o (λ z. IsTrue (is_signed_32 z)) → length (optional vbe_signed o) ≤ 5
length-height None fits = omega arith
length-height (Some z) fits =
    let near = near-32 (record { lat = z; lon = z }) (fits, fits) in
    let small = near.lat in
    length-signed z (omega (arith, small))

pub poi-room : (corner : Place) (r : Record) → IsPlaceOf32Bits corner → IsMember r → unit_count r ≤ rows_limit
    → length (poi_bytes corner (feature_told r)) ≤ 16 * unit_count r
unfolding poi_bytes poi_fields poi_fields_bytes feature_told candidate_told
poi-room corner r at m light =
    let s = m.spelled in
    let f = feature_told r in
    let place = length-place corner (first_place (places_of f)) at
    (first-32 (places_of f) (places-32 (shape_told r) m.places)) in
    let tags = length-tags f.layer f.tags (few-tags r s) s.kept in
    let name = length-optional f.name s.name in
    let house = length-optional f.house s.house in
    let height = length-height f.height s.height in
    let room = weight-room (bare r) (writable r m light) in
    simp (length-append)
    (omega (
      arith,
      place,
      tags,
      name,
      house,
      height,
      room,
      length-append (vbe_signed (step corner (first_place (places_of f))).lat)
          (vbe_signed (step corner (first_place (places_of f))).lon),
    ))

same-way : (corner : Place) (bits : ℕ) (r : Record)
    → way_bytes corner bits (bare r) ≡ way_bytes corner bits (feature_told r)
unfolding way_bytes way_fields is_double coordinate_size label_place
same-way corner bits r = refl

pub way-room-told : (corner : Place) (bits : ℕ) (r : Record) → IsPlaceOf32Bits corner → IsMember r
    → unit_count r ≤ rows_limit → length (way_bytes corner bits (feature_told r)) ≤ 16 * unit_count r
way-room-told corner bits r at m light =
    subst (λ bytes. length bytes ≤ 16 * unit_count r) (same-way corner bits r)
    (way-room corner bits (bare r) at (writable r m light))

-- ---- all of them

module _ (g : Feature → List ℕ) (p : Feature → Bool) where
  members-room : (records : List Record)
      → AllByRecursion (λ r. length (g (feature_told r)) ≤ 16 * unit_count r) records
      → length (flat_map g (filter p (map feature_told records)))
      ≤ 16 * total (λ (r : Record). cond (p (feature_told r)) (unit_count r) 0) records
  members-room [] all = omega arith
  members-room (r ∷ records) all = by_test (p (feature_told r)) (members-room records all.1)
    where
      by_test : (b : Bool)
          → length (flat_map g (filter p (map feature_told records)))
          ≤ 16 * total (λ (r : Record). cond (p (feature_told r)) (unit_count r) 0) records
          → length (flat_map g (cond b (feature_told r ∷ filter p (map feature_told records))
          (filter p (map feature_told records))))
          ≤ 16 * (cond b (unit_count r) 0
          + total (λ (r : Record). cond (p (feature_told r)) (unit_count r) 0) records)
      by_test true rest =
          let here = all.0 in
          let whole = length-append (g (feature_told r)) (flat_map g (filter p (map feature_told records))) in
          omega (arith, here, rest, whole)
      by_test false rest = omega (arith, rest)

both-classes : (records : List Record)
    → total (λ (r : Record). cond (is_poi (feature_told r)) (unit_count r) 0) records
    + total (λ (r : Record). cond (is_way (feature_told r)) (unit_count r) 0) records ≡ units_in records
both-classes [] = refl
both-classes (r ∷ records) = by_test (is_poi (feature_told r)) (both-classes records)
  where
    by_test : (b : Bool)
        → total (λ (r : Record). cond (is_poi (feature_told r)) (unit_count r) 0) records
        + total (λ (r : Record). cond (is_way (feature_told r)) (unit_count r) 0) records ≡ units_in records
        → cond b (unit_count r) 0 + total (λ (r : Record). cond (is_poi (feature_told r)) (unit_count r) 0) records
        + (cond (not b) (unit_count r) 0
        + total (λ (r : Record). cond (is_way (feature_told r)) (unit_count r) 0) records)
        ≡ unit_count r + units_in records
    by_test true rest = omega (arith, rest)
    by_test false rest = omega (arith, rest)

pub few-records : (records : List Record) → 10 * length records ≤ units_in records
few-records [] = omega arith
few-records (r ∷ records) = let rest = few-records records in omega (arith, rest)

-- ---- the zoom table

count-most : (p : Feature → Bool) (fs : List Feature) → total (λ (f : Feature). cond (p f) 1 0) fs ≤ length fs
count-most p [] = omega arith
count-most p (f ∷ fs) = by_test (p f) (count-most p fs)
  where
    by_test : (b : Bool) → total (λ (f : Feature). cond (p f) 1 0) fs ≤ length fs
        → cond b 1 0 + total (λ (f : Feature). cond (p f) 1 0) fs ≤ suc (length fs)
    by_test true rest = omega (arith, rest)
    by_test false rest = omega (arith, rest)

pub count-le : (p q : Feature → Bool) (fs : List Feature) → count_by p (filter q fs) ≤ length fs
count-le p q fs =
    let all = count-total p (filter q fs) in
    let most = count-most p (filter q fs) in
    let few = filter-le q fs in
    omega (arith, all, most, few)

table-room : (g : ℕ → List ℕ) (a n : ℕ) → ((z : ℕ) → length (g z) ≤ 8)
    → length (flat_map g (range_with_len a n)) ≤ 8 * n
table-room g a zero each = omega arith
table-room g a (suc n) each =
    let here = each a in
    let rest = table-room g (a + 1) n each in
    let whole = length-append (g a) (flat_map g (range_with_len (a + 1) n)) in
    omega (arith, here, rest, whole)

count-size : (p q : Feature → Bool) (fs : List Feature) → length fs < 2 ^ 28
    → length (vbe_unsigned (count_by p (filter q fs))) ≤ 4
count-size p q fs few = let le = count-le p q fs in length-four (count_by p (filter q fs)) (omega (arith, few, le))

table-length : (tile : TilePlace) (fs : List Feature) → tile.interval.max ≤ 21 → length fs < 2 ^ 28
    → length (table_bytes tile.interval fs) ≤ 176
unfolding table_bytes
table-length tile fs top few =
    let all = table-room (counts_at tile.interval fs) tile.interval.min (suc tile.interval.max - tile.interval.min) each
    in
    omega (arith, all, top)
  where
    each : (zoom : ℕ) → length (counts_at tile.interval fs zoom) ≤ 8
    each zoom =
        let a = count-size (λ g. raised_zoom tile.interval g.zoom == zoom) is_poi fs few in
        let b = count-size (λ g. raised_zoom tile.interval g.zoom == zoom) is_way fs few in
        let whole = length-append (vbe_unsigned (count_at is_poi tile.interval zoom fs))
        (vbe_unsigned (count_at is_way tile.interval zoom fs)) in
        omega (arith, a, b, whole)

-- ---- a tile

each-light : (records : List Record) (n : ℕ) → units_in records ≤ n → n ≤ rows_limit
    → AllByRecursion (λ r. unit_count r ≤ rows_limit) records
each-light [] n within low = tt
each-light (r ∷ records) n within low = (omega (arith, within, low), each-light records n (omega (arith, within)) low)

module _ (tile : TilePlace) (at : IsPlaceOf32Bits (tile_corner tile)) where
  each-poi : (records : List Record) → AllByRecursion IsMember records
      → AllByRecursion (λ r. unit_count r ≤ rows_limit) records
      → AllByRecursion (λ r. length (poi_bytes (tile_corner tile) (feature_told r)) ≤ 16 * unit_count r) records
  each-poi [] all light = tt
  each-poi (r ∷ records) all light =
      (poi-room (tile_corner tile) r at all.0 light.0, each-poi records all.1 light.1)

  each-way : (records : List Record) → AllByRecursion IsMember records
      → AllByRecursion (λ r. unit_count r ≤ rows_limit) records
      → AllByRecursion (λ r. length (way_in tile (feature_told r)) ≤ 16 * unit_count r) records
  each-way [] all light = tt
  each-way (r ∷ records) all light = (
    way-room-told (tile_corner tile) (sub_tile_bits (feature_told r) tile) r at all.0 light.0,
    each-way records all.1 light.1,
  )

flat-room : (tile : TilePlace) (records : List Record) → IsTile tile → AllByRecursion IsMember records
    → units_in records ≤ rows_limit
    → length (table_bytes tile.interval (features_told records) ++ sized
    (pois_bytes (tile_corner tile) (features_told records))
    ++ ways_bytes tile (features_told records)) ≤ 16 * units_in records + 246
unfolding sized class_bytes
flat-room tile records is all within =
    let fs = map feature_told records in
    let at = tile_corner-in_range tile is.column in
    let light = each-light records (units_in records) (omega arith) within in
    let pois = members-room (poi_bytes (tile_corner tile)) is_poi records (each-poi tile at records all light) in
    let ways = members-room (way_in tile) is_way records
    (each-way tile at records all light) in
    let both = both-classes records in
    let few = few-records records in
    let same = length-map records feature_told in
    let table = table-length tile fs is.top (omega (arith, few, within, same)) in
    let offset = length-five (length (pois_bytes (tile_corner tile) fs)) (omega (arith, pois, both, within)) in
    let a = length-append (vbe_unsigned (length (pois_bytes (tile_corner tile) fs)))
    (pois_bytes (tile_corner tile) fs) in
    let b = length-append (table_bytes tile.interval fs)
    (vbe_unsigned (length (pois_bytes (tile_corner tile) fs)) ++ pois_bytes (tile_corner tile) fs) in
    let c = length-append (table_bytes tile.interval
    fs ++ (vbe_unsigned (length (pois_bytes (tile_corner tile) fs)) ++ pois_bytes (tile_corner tile) fs))
    (ways_bytes tile fs) in
    omega (arith, pois, ways, both, table, offset, a, b, c)

pub in-order : (tile : TilePlace) (d : Desktop) → IsTile tile → HoldsMembers tile d
    → map feature_told d.records ≡ in_tile_order tile.interval (map feature_told d.records)
in-order tile d is h = stand-in_order tile.interval (map feature_told d.records) is.range h.order

records-room : (tile : TilePlace) (records : List Record) → IsTile tile → AllByRecursion IsMember records
    → map feature_told records ≡ in_tile_order tile.interval (map feature_told records)
    → units_in records ≤ rows_limit
    → length (tile_bytes tile (map feature_told records)) ≤ 16 * units_in records + 246
unfolding tile_bytes table_bytes class_bytes
records-room tile [] is all ordered within = omega arith
records-room tile (r ∷ records) is all ordered within =
    let flat = ap length (tile_bytes-flat tile (feature_told r) (map feature_told records) ordered) in
    let room = flat-room tile (r ∷ records) is all within in
    omega (arith, flat, room)

pub tile-most : (tile : TilePlace) (d : Desktop) → IsTile tile → HoldsMembers tile d → used d ≤ d.capacity
    → length (tile_bytes tile (map feature_told d.records)) ≤ 16 * units_in d.records + 246
tile-most tile d is h within =
    let most = h.room in
    records-room tile d.records is h.each (in-order tile d is h) (omega (arith, within, most))

-- the output of a desk has room for the tile, and for ten bytes more
pub tile-room : (tile : TilePlace) (d : Desktop) → IsTile tile → HoldsMembers tile d → used d ≤ d.capacity
    → length (tile_bytes tile (map feature_told d.records)) + 10 ≤ 16 * d.capacity + 256
tile-room tile d is h within = let room = tile-most tile d is h within in omega (arith, room, within)
