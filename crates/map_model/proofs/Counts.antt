-- Weights and counts over all tiles, by features and by contents: for the size of a job, for limits and for the report.
use Rattle.std.proofs.Common.{◌≡◌, ℕ, suc, ◌+◌, ◌*◌, ◌≤◌, List, [], ◌∷◌, ◌++◌, map, length, refl, sym, ap}
use Rattle.std.proofs.Common.{◌∙◌, arith, length-append, true, false, inl, inr}
use Rattle.std.specs.Prelude.{Bool, cond, ◌&&◌, leb, nat_lt, flat_map, sum_by, count_by, IsTrue}
use Rattle.std.specs.List.{enumerate_from, AllByRecursion}
use Rattle.std.proofs.lemmas.Bool.{cases_lt, lt-ltb}
use Rattle.mf_base.specs.declared.place.Rect.{Rect}
use Rattle.mf_base.specs.declared.tile.Interval.{Interval}
use Rattle.mf_base.specs.declared.tile.TilePlace.{TilePlace}
use Rattle.mf_base.specs.Spelling.{vbe_unsigned}
use Rattle.mf_base.proofs.OneSpelling.{vbe-small, vbe-more}
use Rattle.feature_model.specs.Features.{Feature}
use Rattle.feature_model.proofs.Totals.{total, total-map, total-flat_map, total-same, total-zero, total-swap, sum-total}
use Rattle.feature_model.proofs.Totals.{count-total}
use Rattle.feature_model.proofs.Rising.{all-imp}
use Rattle.map_model.specs.Rectangles.{rect_of}
use Rattle.map_model.specs.TileRects.{has_tile, tile_rect, tiles_of, meets}
use Rattle.map_model.specs.Intervals.{tile_place, interval_tiles, are_intervals}
use Rattle.map_model.specs.Members.{members, weight_of_tile}
use Rattle.map_model.specs.Layout.{sized, levels_bytes, level_count_bytes, poi_fields_bytes, way_fields_bytes}
use Rattle.map_model.specs.TileBytes.{tile_corner, tile_bytes, written_levels}
use Rattle.map_model.specs.SubFile.{TileContent, water, content_of, contents}
use Rattle.map_model.specs.Header.{HeadSettings}
use Rattle.map_model.specs.MapFile.{all_tiles, all_contents, tile_weight, shown_tiles, water_tiles}
use Rattle.map_model.specs.NumberedMembers.{is_in_tile, members_by, shared_tiles, spread_weight}
use Rattle.map_model.proofs.NumberedMembers.{members-shown, members-total}
use Rattle.map_model.proofs.AllTiles.{IsSound, shared-total, intervals-sound}

-- ---- weights

same-list : {X : Type 0} (xs : List X) → map (λ x. x) xs ≡ xs
same-list [] = refl
same-list (x ∷ xs) = ap (λ ys. x ∷ ys) (same-list xs)

-- the weight of a tile as a total over all features
weight-total : (features : List Feature) (tile : TilePlace) → tile.interval.min ≤ tile.interval.max
    → tile_weight features tile ≡ total (λ f. cond (is_in_tile tile f) f.weight 0) features
weight-total features tile range =
    ap weight_of_tile
    (sym (sym (same-list (members_by (λ f. f) features tile)) ∙ members-shown (λ f. f) (λ f. 0) features tile
    ∙ ap (λ fs. members fs tile) (same-list features)))
    ∙ sum-total (λ (f : Feature). f.weight) (members_by (λ f. f) features tile)
    ∙ members-total (λ f. f) (λ f. 0) (λ (f : Feature). f.weight) features tile range

pub weight-of_features : (features : List Feature) (tile : TilePlace) → tile.interval.min ≤ tile.interval.max
    → tile_weight features tile ≡ sum_by (λ (f : Feature). cond (is_in_tile tile f) f.weight 0) features
weight-of_features features tile range = weight-total features tile range
    ∙ sym (sum-total (λ (f : Feature). cond (is_in_tile tile f) f.weight 0) features)

same-weight : {X : Type 0} (w : ℕ) (xs : List X) → total (λ x. w) xs ≡ w * length xs
same-weight w [] = omega arith
same-weight w (x ∷ xs) = let rest = same-weight w xs in omega (arith, rest)

-- what a feature weighs in the tiles of an interval
feature-spread : (box : Rect) (index : ℕ) (interval : Interval) (f : Feature)
    → total (λ p. cond (is_in_tile (tile_place index interval p) f) f.weight 0)
    (tiles_of (tile_rect box interval.base)) ≡ spread_weight box interval f
unfolding shared_tiles meets
feature-spread box index interval f = by_test (leb f.zoom interval.max)
  where
    by_test : (b : Bool)
        → total (λ p. cond (b && has_tile (tile_rect (rect_of f) interval.base) p.0 p.1) f.weight 0)
        (tiles_of (tile_rect box interval.base)) ≡ cond b (f.weight * length (shared_tiles box interval f)) 0
    by_test true =
        sym (shared-total (λ p. f.weight) (tile_rect box interval.base) (tile_rect (rect_of f) interval.base))
        ∙ same-weight f.weight (shared_tiles box interval f)
    by_test false = total-zero (tiles_of (tile_rect box interval.base))

interval-spread : (box : Rect) (features : List Feature) (at : ℕ × Interval) → IsSound at
    → total (tile_weight features) (interval_tiles box at.0 at.1) ≡ sum_by (spread_weight box at.1) features
unfolding interval_tiles
interval-spread box features at sound =
    total-map (tile_weight features) (tile_place at.0 at.1) (tiles_of (tile_rect box at.1.base))
    ∙ total-same (λ p. tile_weight features (tile_place at.0 at.1 p))
    (λ p. total (λ f. cond (is_in_tile (tile_place at.0 at.1 p) f) f.weight 0) features)
    (λ p. weight-total features (tile_place at.0 at.1 p) sound.range) (tiles_of (tile_rect box at.1.base))
    ∙ total-swap (λ p f. cond (is_in_tile (tile_place at.0 at.1 p) f) f.weight 0)
    (tiles_of (tile_rect box at.1.base)) features
    ∙ total-same (λ f. total (λ p. cond (is_in_tile (tile_place at.0 at.1 p) f) f.weight 0)
    (tiles_of (tile_rect box at.1.base))) (spread_weight box at.1) (feature-spread box at.0 at.1) features
    ∙ sym (sum-total (spread_weight box at.1) features)

total-all : {X : Type 0} (f g : X → ℕ) (xs : List X) → AllByRecursion (λ x. f x ≡ g x) xs → total f xs ≡ total g xs
total-all f g [] e = refl
total-all f g (x ∷ xs) e = omega (arith, e.0, total-all f g xs e.1)

-- the weights of all tiles
pub weights-spread : (set : HeadSettings) (box : Rect) (features : List Feature) → IsTrue (are_intervals set.intervals)
    → sum_by (tile_weight features) (all_tiles set box)
    ≡ sum_by (λ (i : ℕ × Interval). sum_by (spread_weight box i.1) features) (enumerate_from 0 set.intervals)
unfolding all_tiles
weights-spread set box features intervals =
    sum-total (tile_weight features) (all_tiles set box)
    ∙ total-flat_map (tile_weight features) (λ at. interval_tiles box at.0 at.1) (enumerate_from 0 set.intervals)
    ∙ total-all (λ at. total (tile_weight features) (interval_tiles box at.0 at.1))
    (λ (i : ℕ × Interval). sum_by (spread_weight box i.1) features) (enumerate_from 0 set.intervals)
    (all-imp IsSound
    (λ at. total (tile_weight features) (interval_tiles box at.0 at.1) ≡ sum_by (spread_weight box at.1) features)
    (interval-spread box features) (enumerate_from 0 set.intervals) (intervals-sound set intervals))
    ∙ sym (sum-total (λ (i : ℕ × Interval). sum_by (spread_weight box i.1) features) (enumerate_from 0 set.intervals))

-- ---- tiles with members

some-byte : (n : ℕ) → 1 ≤ length (vbe_unsigned n)
some-byte n =
    elim (cases_lt n 128) [
      | inl small ↦ rw (vbe-small 128 0 n small) (omega arith)
      | inr large ↦ rw (vbe-more 128 0 n (omega arith) large) (omega arith)
    ]

-- a tile has bytes exactly where it has members
pub bytes-of_members : (tile : TilePlace) (fs : List Feature)
    → nat_lt 0 (length (tile_bytes tile fs)) ≡ nat_lt 0 (length fs)
unfolding tile_bytes levels_bytes sized
bytes-of_members tile [] = refl
bytes-of_members tile (f ∷ fs) =
    lt-ltb 0 (length (table ++ (vbe_unsigned (length pois) ++ pois) ++ ways))
    (omega (arith, a, b, c, some-byte (length pois))) ∙ sym (lt-ltb 0 (suc (length fs)) (omega arith))
  where
    table : List ℕ
    table = flat_map level_count_bytes (written_levels tile (f ∷ fs))

    pois : List ℕ
    pois = flat_map (λ level. flat_map (poi_fields_bytes (tile_corner tile)) level.pois) (written_levels tile (f ∷ fs))

    ways : List ℕ
    ways = flat_map (λ level. flat_map (way_fields_bytes (tile_corner tile)) level.ways) (written_levels tile (f ∷ fs))

    a : length (vbe_unsigned (length pois) ++ pois) ≡ length (vbe_unsigned (length pois)) + length pois
    a = length-append (vbe_unsigned (length pois)) pois

    b : length (table ++ (vbe_unsigned (length pois) ++ pois))
        ≡ length table + length (vbe_unsigned (length pois) ++ pois)
    b = length-append table (vbe_unsigned (length pois) ++ pois)

    c : length (table ++ (vbe_unsigned (length pois) ++ pois) ++ ways)
        ≡ length (table ++ (vbe_unsigned (length pois) ++ pois)) + length ways
    c = length-append (table ++ (vbe_unsigned (length pois) ++ pois)) ways

-- what is counted of the contents of all tiles
contents-total : (f : TileContent → ℕ) (set : HeadSettings) (box : Rect) (features : List Feature)
    → total f (flat_map (λ tiles. tiles) (all_contents set box features))
    ≡ total (λ tile. f (content_of tile (members features tile))) (all_tiles set box)
unfolding all_contents all_tiles contents
contents-total f set box features =
    total-flat_map f (λ tiles. tiles) (map (λ at. contents features box at.0 at.1) (enumerate_from 0 set.intervals))
    ∙ total-map (total f) (λ at. contents features box at.0 at.1) (enumerate_from 0 set.intervals)
    ∙ total-same (λ at. total f (contents features box at.0 at.1))
    (λ at. total (λ tile. f (content_of tile (members features tile))) (interval_tiles box at.0 at.1))
    (λ at. total-map f (λ tile. content_of tile (members features tile)) (interval_tiles box at.0 at.1))
    (enumerate_from 0 set.intervals)
    ∙ sym (total-flat_map (λ tile. f (content_of tile (members features tile))) (λ at. interval_tiles box at.0 at.1)
    (enumerate_from 0 set.intervals))

pub shown-counted : (set : HeadSettings) (box : Rect) (features : List Feature)
    → shown_tiles set box features
    ≡ count_by (λ (t : TileContent). nat_lt 0 (length t.bytes))
    (flat_map (λ tiles. tiles) (all_contents set box features))
unfolding shown_tiles content_of
shown-counted set box features =
    count-total (λ tile. nat_lt 0 (length (members features tile))) (all_tiles set box)
    ∙ total-same (λ tile. cond (nat_lt 0 (length (members features tile))) 1 0)
    (λ tile. cond (nat_lt 0 (length (tile_bytes tile (members features tile)))) 1 0)
    (λ tile. ap (λ (b : Bool). cond {A = ℕ} b 1 0) (sym (bytes-of_members tile (members features tile))))
    (all_tiles set box)
    ∙ sym (contents-total (λ (t : TileContent). cond (nat_lt 0 (length t.bytes)) 1 0) set box features)
    ∙ sym (count-total (λ (t : TileContent). nat_lt 0 (length t.bytes))
    (flat_map (λ tiles. tiles) (all_contents set box features)))

pub water-counted : (set : HeadSettings) (box : Rect) (features : List Feature)
    → water_tiles set box features
    ≡ count_by (λ (t : TileContent). t.water) (flat_map (λ tiles. tiles) (all_contents set box features))
unfolding water_tiles content_of
water-counted set box features =
    count-total (λ tile. water tile (members features tile)) (all_tiles set box)
    ∙ sym (contents-total (λ (t : TileContent). cond t.water 1 0) set box features)
    ∙ sym (count-total (λ (t : TileContent). t.water) (flat_map (λ tiles. tiles) (all_contents set box features)))

pub ruleset count_laws = (weight-of_features, weights-spread, bytes-of_members, shown-counted, water-counted)
