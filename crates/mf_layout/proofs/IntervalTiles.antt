-- The tiles of an interval: how many they are, and that each is a tile of its base zoom.
use Rattle.std.proofs.Common.{◌≡◌, ℕ, suc, ◌+◌, ◌-◌, ◌*◌, ◌^◌, ◌<◌, ◌≤◌, List, map, length, true}
use Rattle.std.proofs.Common.{sym, ap, ◌∙◌, arith}
use Rattle.std.specs.Prelude.{leb, ◌&&◌}
use Rattle.std.specs.List.{AllByRecursion}
use Rattle.std.proofs.lemmas.Bool.{leb-true, and_parts}
use Rattle.std.proofs.lemmas.List.{length-map}
use Rattle.std.proofs.Math.Nat.{mul-le-mul_right}
use Rattle.std.proofs.Math.Pow.{pow_mono}
use Rattle.mf_base.specs.declared.place.Rect.{Rect}
use Rattle.mf_base.specs.declared.tile.Interval.{Interval}
use Rattle.mf_base.specs.declared.tile.TileRect.{TileRect}
use Rattle.feature_model.proofs.Rising.{all-imp, all-map, all-flat_map, all-below}
use Rattle.map_model.specs.TileRects.{from_to, tiles_of, tile_rect, IsTileRect}
use Rattle.map_model.specs.Intervals.{tile_place, interval_tiles, is_zoom_range}
use Rattle.map_model.proofs.TileLaws.{tiles-length}
use Rattle.tile_body.specs.Members.{IsTile}

-- numbers from one to another are at most the last
at-most : (a b : ℕ) → a ≤ b → AllByRecursion (λ (n : ℕ). n ≤ b) (from_to a b)
at-most a b le =
    all-imp (λ (n : ℕ). n < a + (suc b - a)) (λ (n : ℕ). n ≤ b) (λ n less. omega (arith, less, le)) (from_to a b)
    (all-below a (suc b - a))

-- the tiles of a rectangle are tiles of its zoom
pub tiles-below : (t : TileRect) → IsTileRect t
    → AllByRecursion (λ (p : ℕ × ℕ). (p.0 < 2 ^ t.z) × (p.1 < 2 ^ t.z)) (tiles_of t)
unfolding tiles_of
tiles-below t is =
    all-flat_map (λ (p : ℕ × ℕ). (p.0 < 2 ^ t.z) × (p.1 < 2 ^ t.z)) (λ y. map (λ x. (x, y)) columns)
    (from_to t.first_y t.last_y)
    (all-imp (λ y. y ≤ t.last_y) (λ y. AllByRecursion (λ (p : ℕ × ℕ). (p.0 < 2 ^ t.z) × (p.1 < 2 ^ t.z))
    (map (λ x. (x, y)) columns)) line (from_to t.first_y t.last_y) (at-most t.first_y t.last_y is.rows))
  where
    columns : List ℕ
    columns = from_to t.first_x t.last_x

    line : (y : ℕ) → y ≤ t.last_y
        → AllByRecursion (λ (p : ℕ × ℕ). (p.0 < 2 ^ t.z) × (p.1 < 2 ^ t.z)) (map (λ x. (x, y)) columns)
    line y le =
        all-map (λ (p : ℕ × ℕ). (p.0 < 2 ^ t.z) × (p.1 < 2 ^ t.z)) (λ x. (x, y)) columns
        (all-imp (λ x. x ≤ t.last_x) (λ x. (x < 2 ^ t.z) × (y < 2 ^ t.z)) (λ x k. (
          omega (arith, k, is.east),
          omega (arith, le, is.south),
        )) columns (at-most t.first_x t.last_x is.columns))

-- a rectangle of zoom 16 or less has at most 2^32 tiles
few-tiles : (t : TileRect) → IsTileRect t → t.z ≤ 16 → length (tiles_of t) ≤ 2 ^ 32
few-tiles t is low =
    let side : 2 ^ t.z ≤ 2 ^ 16 = pow_mono low in
    let wide : suc t.last_x - t.first_x ≤ 2 ^ 16 = omega (arith, side, is.east) in
    let high : suc t.last_y - t.first_y ≤ 2 ^ 16 = omega (arith, side, is.south) in
    let rows : (suc t.last_x - t.first_x) * (suc t.last_y - t.first_y) ≤ 2 ^ 16 * (suc t.last_y - t.first_y) =
    mul-le-mul_right (suc t.last_y - t.first_y) wide in
    omega (arith, tiles-length t, rows, high)

-- the base of an interval is at most 16
base-low : (interval : Interval) → is_zoom_range interval ≡ true → interval.base ≤ 16
base-low interval range =
    let ends = and_parts (leb interval.min interval.base && leb interval.base interval.max && leb interval.base 16)
    (leb interval.max 21) range in
    leb-true interval.base 16 (and_parts (leb interval.min interval.base && leb interval.base interval.max)
    (leb interval.base 16) ends.0).1

-- the tiles of an interval are at most so many
pub few-in-interval : (box : Rect) (index : ℕ) (interval : Interval) → is_zoom_range interval ≡ true
    → IsTileRect (tile_rect box interval.base) → length (interval_tiles box index interval) ≤ 2 ^ 32
unfolding interval_tiles tile_rect
few-in-interval box index interval range is =
    let few = few-tiles (tile_rect box interval.base) is (base-low interval range) in
    omega (arith, few, length-map (tiles_of (tile_rect box interval.base)) (tile_place index interval))

-- they are those that a walk over the tiles of the box gives
pub tiles-walked : (box : Rect) (index : ℕ) (interval : Interval) (t : TileRect) (walk : List (ℕ × ℕ))
    → t ≡ tile_rect box interval.base → walk ≡ tiles_of t
    → interval_tiles box index interval ≡ map (tile_place index interval) walk
unfolding interval_tiles
tiles-walked box index interval t walk is walked =
    ap (map (tile_place index interval)) (ap tiles_of (sym is) ∙ sym walked)

-- each is a tile
pub interval-are-tiles : (box : Rect) (index : ℕ) (interval : Interval) → is_zoom_range interval ≡ true
    → IsTileRect (tile_rect box interval.base) → AllByRecursion IsTile (interval_tiles box index interval)
unfolding interval_tiles tile_rect
interval-are-tiles box index interval range is =
    let ends = and_parts (leb interval.min interval.base && leb interval.base interval.max && leb interval.base 16)
    (leb interval.max 21) range in
    let low = and_parts (leb interval.min interval.base && leb interval.base interval.max) (leb interval.base 16)
    ends.0 in
    let order = and_parts (leb interval.min interval.base) (leb interval.base interval.max) low.0 in
    let first : interval.min ≤ interval.base = leb-true interval.min interval.base order.0 in
    let last : interval.base ≤ interval.max = leb-true interval.base interval.max order.1 in
    all-map IsTile (tile_place index interval) (tiles_of (tile_rect box interval.base))
    (all-imp (λ (p : ℕ × ℕ). (p.0 < 2 ^ interval.base) × (p.1 < 2 ^ interval.base))
    (λ (p : ℕ × ℕ). IsTile (tile_place index interval p)) (λ p below. record {
      base = leb-true interval.base 16 low.1;
      range = omega (arith, first, last);
      top = leb-true interval.max 21 ends.1;
      column = below.0;
      row = below.1;
    }) (tiles_of (tile_rect box interval.base)) (tiles-below (tile_rect box interval.base) is))
