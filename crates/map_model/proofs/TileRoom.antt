-- How many bytes a tile takes: at most 16 for each row that its members weigh, and 256. For the encoder of a tile and
-- for layouts.
use Rattle.std.proofs.Common.{◌≡◌, ℕ, zero, suc, ◌+◌, ◌-◌, ◌*◌, ◌^◌, ◌<◌, ◌≤◌, List, [], ◌∷◌, ◌++◌, length, refl}
use Rattle.std.proofs.Common.{ap, arith, length-append, true, false}
use Rattle.std.specs.Prelude.{Bool, not, cond, flat_map, filter, count_by, ◌==◌}
use Rattle.std.specs.List.{range_with_len, AllByRecursion}
use Rattle.mf_base.specs.declared.tile.TilePlace.{TilePlace}
use Rattle.mf_base.specs.Spelling.{vbe_unsigned}
use Rattle.feature_model.specs.Features.{Feature}
use Rattle.feature_model.proofs.Totals.{total, count-total, sum-total}
use Rattle.map_model.specs.Intervals.{raised_zoom, zooms}
use Rattle.map_model.specs.Members.{is_poi, is_way, in_tile_order, weight_of_tile}
use Rattle.map_model.specs.Bitmap.{sub_tile_bits}
use Rattle.map_model.specs.Layout.{sized}
use Rattle.map_model.specs.TileBytes.{poi_bytes, way_bytes, tile_corner, tile_bytes}
use Rattle.map_model.specs.Room.{rows_limit, IsWritable}
use Rattle.map_model.proofs.Widths.{length-four, length-five}
use Rattle.map_model.proofs.FeatureRoom.{poi-room}
use Rattle.map_model.proofs.WayRoom.{way-room}
use Rattle.map_model.proofs.CornerLemmas.{tile_corner-in_range}
use Rattle.map_model.proofs.LevelLemmas.{tile_bytes-flat}

unfoldable pub weights : List Feature → ℕ
weights fs = total (λ (f : Feature). f.weight) fs

-- what is written of some features, each within its room
written-room : (p : Feature → Bool) (g : Feature → List ℕ) (fs : List Feature) → AllByRecursion IsWritable fs
    → ((f : Feature) → IsWritable f → length (g f) ≤ 16 * f.weight)
    → length (flat_map g (filter p fs)) ≤ 16 * total (λ (f : Feature). cond (p f) f.weight 0) fs
written-room p g [] all room = omega arith
written-room p g (f ∷ fs) all room = by_test (p f) (written-room p g fs all.1 room)
  where
    by_test : (b : Bool) → length (flat_map g (filter p fs)) ≤ 16 * total (λ (f : Feature). cond (p f) f.weight 0) fs
        → length (flat_map g (cond b (f ∷ filter p fs) (filter p fs)))
        ≤ 16 * (cond b f.weight 0 + total (λ (f : Feature). cond (p f) f.weight 0) fs)
    by_test true rest = let here = room f all.0 in let whole =
        length-append (g f) (flat_map g (filter p fs)) in omega (arith, here, rest, whole)
    by_test false rest = omega (arith, rest)

-- POIs and ways weigh as much as both
both-classes : (fs : List Feature)
    → total (λ (f : Feature). cond (is_poi f) f.weight 0) fs + total (λ (f : Feature). cond (is_way f) f.weight 0) fs
    ≡ weights fs
unfolding weights
both-classes [] = refl
both-classes (f ∷ fs) = by_test (is_poi f) (both-classes fs)
  where
    by_test : (b : Bool)
        → total (λ (f : Feature). cond (is_poi f) f.weight 0) fs + total (λ (f : Feature). cond (is_way f) f.weight 0)
        fs ≡ total (λ (f : Feature). f.weight) fs
        → cond b f.weight 0 + total (λ (f : Feature). cond (is_poi f) f.weight 0) fs
        + (cond (not b) f.weight 0 + total (λ (f : Feature). cond (is_way f) f.weight 0) fs) ≡ f.weight
        + total (λ (f : Feature). f.weight) fs
    by_test true rest = omega (arith, rest)
    by_test false rest = omega (arith, rest)

count-le : (p : Feature → Bool) (fs : List Feature) → total (λ (f : Feature). cond (p f) 1 0) fs ≤ length fs
count-le p [] = omega arith
count-le p (f ∷ fs) = by_test (p f) (count-le p fs)
  where
    by_test : (b : Bool) → total (λ (f : Feature). cond (p f) 1 0) fs ≤ length fs
        → cond b 1 0 + total (λ (f : Feature). cond (p f) 1 0) fs ≤ suc (length fs)
    by_test true rest = omega (arith, rest)
    by_test false rest = omega (arith, rest)

pub filter-le : (p : Feature → Bool) (fs : List Feature) → length (filter p fs) ≤ length fs
filter-le p [] = omega arith
filter-le p (f ∷ fs) = by_test (p f) (filter-le p fs)
  where
    by_test : (b : Bool) → length (filter p fs) ≤ length fs
        → length (cond b (f ∷ filter p fs) (filter p fs)) ≤ suc (length fs)
    by_test true rest = omega (arith, rest)
    by_test false rest = omega (arith, rest)

-- each feature weighs 10 at least
pub few-features : (fs : List Feature) → AllByRecursion IsWritable fs → 10 * length fs ≤ weights fs
unfolding weights
few-features [] all = omega arith
few-features (f ∷ fs) all = let here = all.0.weight in let rest = few-features fs all.1 in omega (arith, here, rest)

-- ---- the zoom table

-- a count among so many features
count-size : (p : Feature → Bool) (fs : List Feature) → length fs < 2 ^ 28 → length (vbe_unsigned (count_by p fs)) ≤ 4
count-size p fs few = let le = count-le p fs in let e =
    count-total p fs in length-four (count_by p fs) (omega (arith, few, le, e))

table-room : (g : ℕ → List ℕ) (a n : ℕ) → ((z : ℕ) → length (g z) ≤ 8)
    → length (flat_map g (range_with_len a n)) ≤ 8 * n
table-room g a zero each = omega arith
table-room g a (suc n) each =
    let here = each a in
    let rest = table-room g (a + 1) n each in
    let whole = length-append (g a) (flat_map g (range_with_len (a + 1) n)) in
    omega (arith, here, rest, whole)

-- ---- a tile

tile_bytes-none : (tile : TilePlace) → tile_bytes tile [] ≡ []
unfolding tile_bytes
tile_bytes-none tile = refl

-- how the bytes of a tile stand
table_of : TilePlace → List Feature → List ℕ
table_of tile fs =
    flat_map (λ zoom. vbe_unsigned (count_by (λ g. raised_zoom tile.interval g.zoom == zoom) (filter is_poi fs))
    ++ vbe_unsigned (count_by (λ g. raised_zoom tile.interval g.zoom == zoom) (filter is_way fs))) (zooms tile.interval)

pois_of : TilePlace → List Feature → List ℕ
pois_of tile fs = flat_map (poi_bytes (tile_corner tile)) (filter is_poi fs)

ways_of : TilePlace → List Feature → List ℕ
ways_of tile fs = flat_map (λ g. way_bytes (tile_corner tile) (sub_tile_bits g tile) g) (filter is_way fs)

table-length : (tile : TilePlace) (fs : List Feature) → tile.interval.max ≤ 21 → length fs < 2 ^ 28
    → length (table_of tile fs) ≤ 176
unfolding table_of
table-length tile fs top few =
    let each = λ (z : ℕ). let a =
    count-size (λ g. raised_zoom tile.interval g.zoom == z) (filter is_poi fs)
    (omega (arith, few, filter-le is_poi fs)) in
    let b = count-size (λ g. raised_zoom tile.interval g.zoom == z) (filter is_way fs)
    (omega (arith, few, filter-le is_way fs)) in
    size z a b in
    let all = table-room (counts) tile.interval.min (suc tile.interval.max - tile.interval.min) each in
    omega (arith, all, top)
  where
    counts : ℕ → List ℕ
    counts zoom = vbe_unsigned (count_by (λ g. raised_zoom tile.interval g.zoom == zoom) (filter is_poi fs))
        ++ vbe_unsigned (count_by (λ g. raised_zoom tile.interval g.zoom == zoom) (filter is_way fs))

    size : (z : ℕ) → length (vbe_unsigned (count_by (λ g. raised_zoom tile.interval g.zoom == z) (filter is_poi fs)))
        ≤ 4 → length (vbe_unsigned (count_by (λ g. raised_zoom tile.interval g.zoom == z) (filter is_way fs))) ≤ 4
        → length (counts z) ≤ 8
    size z a b = let whole =
        length-append (vbe_unsigned (count_by (λ g. raised_zoom tile.interval g.zoom == z) (filter is_poi fs)))
        (vbe_unsigned (count_by (λ g. raised_zoom tile.interval g.zoom == z) (filter is_way fs))) in
        omega (arith, a, b, whole)

flat-room : (tile : TilePlace) (fs : List Feature) → tile.x < 2 ^ tile.interval.base → tile.interval.max ≤ 21
    → AllByRecursion IsWritable fs → weights fs ≤ 16777216
    → length (table_of tile fs ++ sized (pois_of tile fs) ++ ways_of tile fs) ≤ 16 * weights fs + 256
unfolding sized pois_of ways_of
flat-room tile fs below top all light =
    let corner = tile_corner-in_range tile below in
    let pois = written-room is_poi (poi_bytes (tile_corner tile)) fs all (λ f h. poi-room (tile_corner tile) f corner h)
    in
    let ways = written-room is_way (λ g. way_bytes (tile_corner tile) (sub_tile_bits g tile) g) fs all
    (λ f h. way-room (tile_corner tile) (sub_tile_bits f tile) f corner h) in
    let both = both-classes fs in
    let few = few-features fs all in
    let table = table-length tile fs top (omega (arith, few, light)) in
    let offset = length-five (length (pois_of tile fs)) (omega (arith, pois, both, light)) in
    let a = length-append (vbe_unsigned (length (pois_of tile fs))) (pois_of tile fs) in
    let b = length-append (table_of tile fs) (vbe_unsigned (length (pois_of tile fs)) ++ pois_of tile fs) in
    let c = length-append (table_of tile fs ++ (vbe_unsigned (length (pois_of tile fs)) ++ pois_of tile fs))
    (ways_of tile fs) in
    omega (arith, pois, ways, both, table, offset, a, b, c)

pub tile-room : (tile : TilePlace) (fs : List Feature) → tile.x < 2 ^ tile.interval.base → tile.interval.max ≤ 21
    → fs ≡ in_tile_order tile.interval fs → AllByRecursion IsWritable fs → weight_of_tile fs ≤ rows_limit
    → length (tile_bytes tile fs) ≤ 16 * weight_of_tile fs + 256
unfolding table_of pois_of ways_of weights
tile-room tile [] below top ordered all light = let none = ap length (tile_bytes-none tile) in omega (arith, none)
tile-room tile (f ∷ fs) below top ordered all light =
    let sum = sum-total (λ (f : Feature). f.weight) (f ∷ fs) in
    let flat = ap length (tile_bytes-flat tile f fs ordered) in
    let room = flat-room tile (f ∷ fs) below top all (omega (arith, light, sum)) in
    omega (arith, sum, flat, room)

pub ruleset tile_laws = (tile-room)
