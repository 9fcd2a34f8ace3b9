-- The tiles of all intervals: those that two rectangles share, that they rise, and that their numbers are small. For
-- layouts and whatever goes over all tiles.
use Rattle.std.proofs.Common.{◌≡◌, ℕ, zero, suc, ◌+◌, ◌-◌, ◌^◌, ◌<◌, ◌≤◌, List, [], ◌∷◌, ◌++◌, map, length, refl, sym}
use Rattle.std.proofs.Common.{ap, ◌∙◌, subst, arith, true, false, inl, inr, Some, None}
use Rattle.std.specs.Prelude.{Bool, cond, ◌&&◌, ◌==◌, flat_map, leb, max, min, IsTrue, ℤ, int_le, zip, drop, slice_get}
use Rattle.std.specs.List.{range_with_len, enumerate_from, list_all, AllByRecursion}
use Rattle.std.proofs.lemmas.Bool.{leb-true, leb-false, and_parts, and_cases}
use Rattle.std.proofs.lemmas.List.{map-append}
use Rattle.std.proofs.Math.Nat.{div-le_self}
use Rattle.std.proofs.Math.Pow.{pow_mono}
use Rattle.mf_base.specs.declared.place.Rect.{Rect}
use Rattle.mf_base.specs.declared.tile.Interval.{Interval}
use Rattle.mf_base.specs.declared.tile.TilePlace.{TilePlace}
use Rattle.mf_base.specs.declared.tile.TileRect.{TileRect}
use Rattle.map_model.specs.Mercator.{edge_lat, fine_row, row, column}
use Rattle.map_model.specs.Header.{HeadSettings}
use Rattle.map_model.specs.MapFile.{all_tiles}
use Rattle.map_model.specs.TileRects.{has_tile, common, from_to, tiles_of, tile_rect}
use Rattle.map_model.specs.Intervals.{tile_place, interval_tiles, is_zoom_range, are_intervals}
use Rattle.map_model.specs.NumberedMembers.{KeyBelow, TileBelow, tiles_of_some}
use Rattle.mf_base.proofs.Pairs.{EachPair}
use Rattle.map_model.proofs.MercatorLemmas.{greatest-le}
use Rattle.feature_model.proofs.Totals.{total, total-map, total-flat_map, total-same, total-zero, total-cut}
use Rattle.feature_model.proofs.Rising.{all-flat_map, all-map, all-from, all-imp, rises-map, rises-flat_map, rises-imp}
use Rattle.feature_model.proofs.Rising.{rises-range, rises-enumerate}

-- ---- shared tiles

-- a test before a total
total-cond : {X : Type 0} (h : X → ℕ) (b : Bool) (xs : List X) → total (λ x. cond b (h x) 0) xs ≡ cond b (total h xs) 0
total-cond h true xs = refl
total-cond h false xs = total-zero xs

cut : (h : ℕ → ℕ) (a l c d : ℕ)
    → total (λ x. cond (leb c x && leb x d) (h x) 0) (from_to a l) ≡ total h (from_to (max a c) (min l d))
cut h a l c d = total-cut h a (suc l - a) c d ∙ ap (λ (n : ℕ). total h (range_with_len (max a c) n)) (omega arith)

tiles-total : (g : ℕ × ℕ → ℕ) (t : TileRect)
    → total g (tiles_of t) ≡ total (λ y. total (λ x. g (x, y)) (from_to t.first_x t.last_x))
    (from_to t.first_y t.last_y)
unfolding tiles_of
tiles-total g t =
    total-flat_map g (λ y. map (λ x. (x, y)) (from_to t.first_x t.last_x)) (from_to t.first_y t.last_y)
    ∙ total-same (λ y. total g (map (λ x. (x, y)) (from_to t.first_x t.last_x)))
    (λ y. total (λ x. g (x, y)) (from_to t.first_x t.last_x))
    (λ y. total-map g (λ x. (x, y)) (from_to t.first_x t.last_x)) (from_to t.first_y t.last_y)

abbrev both_of : TileRect → TileRect → TileRect
both_of a b = record {
  z = a.z;
  first_x = max a.first_x b.first_x;
  last_x = min a.last_x b.last_x;
  first_y = max a.first_y b.first_y;
  last_y = min a.last_y b.last_y;
}

four : (p q r s : Bool) (v : ℕ) → cond (p && q && r && s) v 0 ≡ cond (r && s) (cond (p && q) v 0) 0
four true true true true v = refl
four true true true false v = refl
four true true false true v = refl
four true true false false v = refl
four true false true true v = refl
four true false true false v = refl
four true false false true v = refl
four true false false false v = refl
four false q true true v = refl
four false q true false v = refl
four false q false true v = refl
four false q false false v = refl

-- the tiles of a that are in b
within-total : (g : ℕ × ℕ → ℕ) (a b : TileRect)
    → total (λ p. cond (has_tile b p.0 p.1) (g p) 0) (tiles_of a) ≡ total g (tiles_of (both_of a b))
within-total g a b =
    tiles-total (λ p. cond (has_tile b p.0 p.1) (g p) 0) a
    ∙ total-same (λ y. total (λ x. cond (has_tile b x y) (g (x, y)) 0) (from_to a.first_x a.last_x))
    (λ y. cond (leb b.first_y y && leb y b.last_y) (line y) 0) each (from_to a.first_y a.last_y)
    ∙ cut line a.first_y a.last_y b.first_y b.last_y
    ∙ sym (tiles-total g (both_of a b))
  where
    line : ℕ → ℕ
    line y = total (λ x. g (x, y)) (from_to (max a.first_x b.first_x) (min a.last_x b.last_x))

    each : (y : ℕ) → total (λ x. cond (has_tile b x y) (g (x, y)) 0) (from_to a.first_x a.last_x)
        ≡ cond (leb b.first_y y && leb y b.last_y) (line y) 0
    each y =
        total-same (λ x. cond (has_tile b x y) (g (x, y)) 0)
        (λ x. cond (leb b.first_y y && leb y b.last_y) (cond (leb b.first_x x && leb x b.last_x) (g (x, y)) 0) 0)
        (λ x. four (leb b.first_x x) (leb x b.last_x) (leb b.first_y y) (leb y b.last_y) (g (x, y)))
        (from_to a.first_x a.last_x)
        ∙ total-cond (λ x. cond (leb b.first_x x && leb x b.last_x) (g (x, y)) 0) (leb b.first_y y && leb y b.last_y)
        (from_to a.first_x a.last_x)
        ∙ ap (λ (n : ℕ). cond (leb b.first_y y && leb y b.last_y) n 0)
        (cut (λ x. g (x, y)) a.first_x a.last_x b.first_x b.last_x)

-- a rectangle whose sides cross has no tile
none-total : (g : ℕ × ℕ → ℕ) (t : TileRect) → (leb t.first_x t.last_x && leb t.first_y t.last_y) ≡ false
    → total g (tiles_of t) ≡ 0
none-total g t e =
    tiles-total g t
    ∙ elim (and_cases (leb t.first_x t.last_x) (leb t.first_y t.last_y) e) [
      | inl no_x ↦
          let none : suc t.last_x - t.first_x ≡ 0 = let h = leb-false t.first_x t.last_x no_x in omega (arith, h) in
          total-same (λ y. total (λ x. g (x, y)) (from_to t.first_x t.last_x)) (λ y. 0)
          (λ y. ap (λ (n : ℕ). total (λ x. g (x, y)) (range_with_len t.first_x n)) none)
          (from_to t.first_y t.last_y)
          ∙ total-zero (from_to t.first_y t.last_y)
      | inr no_y ↦
          let none : suc t.last_y - t.first_y ≡ 0 = let h = leb-false t.first_y t.last_y no_y in omega (arith, h) in
          ap (λ (n : ℕ). total (λ y. total (λ x. g (x, y)) (from_to t.first_x t.last_x)) (range_with_len t.first_y n))
          none
    ]

-- A total over the shared tiles of two rectangles is one over those of the first that are in the second.
pub shared-total : (g : ℕ × ℕ → ℕ) (a b : TileRect)
    → total g (tiles_of_some (common a b)) ≡ total (λ p. cond (has_tile b p.0 p.1) (g p) 0) (tiles_of a)
unfolding common
shared-total g a b = by_test (leb t.first_x t.last_x && leb t.first_y t.last_y) refl ∙ sym (within-total g a b)
  where
    t : TileRect
    t = both_of a b

    by_test : (some : Bool) → (leb t.first_x t.last_x && leb t.first_y t.last_y) ≡ some
        → total g (tiles_of_some (cond some (Some t) None)) ≡ total g (tiles_of t)
    by_test true e = refl
    by_test false e = sym (none-total g t e)

-- ---- their order

-- rows before columns
abbrev PlaceBelow : ℕ × ℕ → ℕ × ℕ → Type 0
PlaceBelow p q = KeyBelow (p.1 ∷ p.0 ∷ []) (q.1 ∷ q.0 ∷ [])

places-rise : (t : TileRect) → EachPair PlaceBelow (tiles_of t)
unfolding tiles_of
places-rise t =
    rises-flat_map (λ (y : ℕ) (p : ℕ × ℕ). p.1 ≡ y) (λ y y'. y < y') PlaceBelow (λ y. map (λ x. (x, y)) columns)
    (λ y y' p q lt h k. inl (omega (arith, lt, h, k)))
    (λ y. all-map (λ (p : ℕ × ℕ). p.1 ≡ y) (λ x. (x, y)) columns (all-from (λ x. y ≡ y) (λ x. refl) columns))
    (λ y. rises-map PlaceBelow (λ x. (x, y)) columns
    (rises-imp (λ x. Unit {0}) (λ x x'. x < x') (λ x x'. PlaceBelow (x, y) (x', y))
    (λ x x' _ _ lt. inr (refl, inl lt)) columns (all-from (λ x. Unit {0}) (λ x. tt) columns)
    (rises-range t.first_x (suc t.last_x - t.first_x))))
    (from_to t.first_y t.last_y) (rises-range t.first_y (suc t.last_y - t.first_y))
  where
    columns : List ℕ
    columns = from_to t.first_x t.last_x

-- So do those of one interval.
pub interval-rise : (box : Rect) (index : ℕ) (interval : Interval)
    → EachPair TileBelow (interval_tiles box index interval)
unfolding interval_tiles
interval-rise box index interval =
    rises-map TileBelow (tile_place index interval) (tiles_of (tile_rect box interval.base))
    (rises-imp (λ p. Unit {0}) PlaceBelow (λ p q. TileBelow (tile_place index interval p) (tile_place index interval q))
    (λ p q _ _ h. inr (refl, h)) (tiles_of (tile_rect box interval.base))
    (all-from (λ p. Unit {0}) (λ p. tt) (tiles_of (tile_rect box interval.base)))
    (places-rise (tile_rect box interval.base)))

-- Tiles rise by interval, then y, then x.
pub tiles-rise : (set : HeadSettings) (box : Rect) → EachPair TileBelow (all_tiles set box)
unfolding all_tiles interval_tiles
tiles-rise set box =
    rises-flat_map (λ (at : ℕ × Interval) (t : TilePlace). t.index ≡ at.0) (λ (a b : ℕ × Interval). a.0 < b.0) TileBelow
    (λ at. interval_tiles box at.0 at.1)
    (λ a b t u lt h k. inl (omega (arith, lt, h, k)))
    (λ at. all-map (λ (t : TilePlace). t.index ≡ at.0) (tile_place at.0 at.1) (tiles_of (tile_rect box at.1.base))
    (all-from (λ p. at.0 ≡ at.0) (λ p. refl) (tiles_of (tile_rect box at.1.base))))
    (λ at. interval-rise box at.0 at.1)
    (enumerate_from 0 set.intervals) (rises-enumerate 0 set.intervals)

-- ---- their numbers

-- what a row needs of the numbers of its tile
pub record HasRoom (t : TilePlace) : Type 0 where
  pub index : t.index < 256
  pub y : t.y < 2 ^ 32
  pub x : t.x < 2 ^ 32
  pub range : t.interval.min ≤ t.interval.max
  pub most : t.interval.max ≤ 21

row-lt : (z : ℕ) (lat : ℤ) → row z lat < 2 ^ 32
unfolding row fine_row
row-lt z lat = omega (
  arith,
  div-le_self (fine_row lat) (2 ^ (18 - z)),
  greatest-le (λ k. int_le lat (edge_lat k))
      262143,
)

column-lt : (z : ℕ) (lon : ℤ) → z ≤ 16 → column z lon < 2 ^ 32
unfolding column
column-lt z lon le = let top : 2 ^ z ≤ 2 ^ 16 = pow_mono le in omega (arith, top)

-- what holds of an interval of settings, by its place
pub record IsSound (at : ℕ × Interval) : Type 0 where
  pub index : at.0 < 8
  pub range : at.1.min ≤ at.1.max
  pub most : at.1.max ≤ 21
  pub base : at.1.base ≤ 16

sound_from : (intervals : List Interval) (n : ℕ) → n + length intervals ≤ 8 → IsTrue (list_all is_zoom_range intervals)
    → AllByRecursion IsSound (enumerate_from n intervals)
sound_from [] n le h = tt
sound_from (at ∷ intervals) n le h =
    let both = and_parts (is_zoom_range at) (list_all is_zoom_range intervals) h in
    let abc = and_parts (leb at.min at.base && leb at.base at.max && leb at.base 16) (leb at.max 21) both.0 in
    let ab = and_parts (leb at.min at.base && leb at.base at.max) (leb at.base 16) abc.0 in
    let a = and_parts (leb at.min at.base) (leb at.base at.max) ab.0 in
    let low = leb-true at.min at.base a.0 in
    let high = leb-true at.base at.max a.1 in (
      record {
        index = omega (arith, le);
        range = omega (arith, low, high);
        most = leb-true at.max 21 abc.1;
        base = leb-true at.base 16 ab.1;
      },
      sound_from intervals (n + 1) (omega (arith, le)) both.1,
    )

-- The intervals of settings are at most eight, and their zoom levels are in order and small.
pub intervals-sound : (set : HeadSettings) → IsTrue (are_intervals set.intervals)
    → AllByRecursion IsSound (enumerate_from 0 set.intervals)
intervals-sound set h =
    let abc = and_parts (leb 1 (length set.intervals) && leb (length set.intervals) 8
    && list_all is_zoom_range set.intervals)
    (list_all (λ at. at.1.min == suc at.0.max) (zip set.intervals (drop 1 set.intervals))) h in
    let ab = and_parts (leb 1 (length set.intervals) && leb (length set.intervals) 8)
    (list_all is_zoom_range set.intervals) abc.0 in
    let a = and_parts (leb 1 (length set.intervals)) (leb (length set.intervals) 8) ab.0 in
    let few = leb-true (length set.intervals) 8 a.1 in
    sound_from set.intervals 0 (omega (arith, few)) ab.1

all-top : (a n l : ℕ) → n ≤ suc l - a → AllByRecursion (λ m. m ≤ l) (range_with_len a n)
all-top a zero l le = tt
all-top a (suc n) l le = (omega (arith, le), all-top (a + 1) n l (omega (arith, le)))

within-rect : (t : TileRect) → AllByRecursion (λ (p : ℕ × ℕ). (p.0 ≤ t.last_x) × (p.1 ≤ t.last_y)) (tiles_of t)
unfolding tiles_of
within-rect t =
    all-flat_map (λ (p : ℕ × ℕ). (p.0 ≤ t.last_x) × (p.1 ≤ t.last_y)) (λ y. map (λ x. (x, y)) columns)
    (from_to t.first_y t.last_y)
    (all-imp (λ y. y ≤ t.last_y) (λ y. AllByRecursion (λ (p : ℕ × ℕ). (p.0 ≤ t.last_x) × (p.1 ≤ t.last_y))
    (map (λ x. (x, y)) columns)) line (from_to t.first_y t.last_y)
    (all-top t.first_y (suc t.last_y - t.first_y) t.last_y (omega arith)))
  where
    columns : List ℕ
    columns = from_to t.first_x t.last_x

    line : (y : ℕ) → y ≤ t.last_y
        → AllByRecursion (λ (p : ℕ × ℕ). (p.0 ≤ t.last_x) × (p.1 ≤ t.last_y)) (map (λ x. (x, y)) columns)
    line y h =
        all-map (λ (p : ℕ × ℕ). (p.0 ≤ t.last_x) × (p.1 ≤ t.last_y)) (λ x. (x, y)) columns
        (all-imp (λ x. x ≤ t.last_x) (λ x. (x ≤ t.last_x) × (y ≤ t.last_y)) (λ x k. (k, h)) columns
        (all-top t.first_x (suc t.last_x - t.first_x) t.last_x (omega arith)))

-- the tiles of a that are in b too lie in a
pub shared-within : (a b : TileRect)
    → AllByRecursion (λ (p : ℕ × ℕ). (p.0 ≤ a.last_x) × (p.1 ≤ a.last_y)) (tiles_of_some (common a b))
unfolding common
shared-within a b = by_test (leb t.first_x t.last_x && leb t.first_y t.last_y)
  where
    t : TileRect
    t = both_of a b

    by_test : (some : Bool)
        → AllByRecursion (λ (p : ℕ × ℕ). (p.0 ≤ a.last_x) × (p.1 ≤ a.last_y)) (tiles_of_some (cond some (Some t) None))
    by_test true =
        all-imp (λ (p : ℕ × ℕ). (p.0 ≤ t.last_x) × (p.1 ≤ t.last_y)) (λ (p : ℕ × ℕ). (p.0 ≤ a.last_x)
        × (p.1 ≤ a.last_y)) (λ p h. (omega (arith, h.0), omega (arith, h.1))) (tiles_of t) (within-rect t)
    by_test false = tt

-- a tile of the box has room in a row
place-room : (box : Rect) (at : ℕ × Interval) → IsSound at → (p : ℕ × ℕ)
    → (p.0 ≤ column at.1.base box.max_lon) × (p.1 ≤ row at.1.base box.min_lat) → HasRoom (tile_place at.0 at.1 p)
place-room box at s p k = record {
  index = let small = s.index in omega (arith, small);
  y = omega (arith, k.1, row-lt at.1.base box.min_lat);
  x = omega (arith, k.0, column-lt at.1.base box.max_lon s.base);
  range = s.range;
  most = s.most;
}

-- The tiles that the box shares with a rectangle have room in a row.
pub shared-room : (box rect : Rect) (at : ℕ × Interval) → IsSound at
    → AllByRecursion (λ p. HasRoom (tile_place at.0 at.1 p))
    (tiles_of_some (common (tile_rect box at.1.base) (tile_rect rect at.1.base)))
unfolding tile_rect
shared-room box rect at s =
    all-imp (λ (p : ℕ × ℕ). (p.0 ≤ column at.1.base box.max_lon) × (p.1 ≤ row at.1.base box.min_lat))
    (λ p. HasRoom (tile_place at.0 at.1 p)) (place-room box at s)
    (tiles_of_some (common (tile_rect box at.1.base) (tile_rect rect at.1.base)))
    (shared-within (tile_rect box at.1.base) (tile_rect rect at.1.base))

-- The tiles of an interval have room in a row.
pub interval-room : (box : Rect) (at : ℕ × Interval) → IsSound at
    → AllByRecursion HasRoom (interval_tiles box at.0 at.1)
unfolding interval_tiles tile_rect
interval-room box at s =
    all-map HasRoom (tile_place at.0 at.1) (tiles_of (tile_rect box at.1.base))
    (all-imp (λ (p : ℕ × ℕ). (p.0 ≤ column at.1.base box.max_lon) × (p.1 ≤ row at.1.base box.min_lat))
    (λ p. HasRoom (tile_place at.0 at.1 p)) (place-room box at s)
    (tiles_of (tile_rect box at.1.base)) (within-rect (tile_rect box at.1.base)))

-- So have all tiles.
pub tiles-room : (set : HeadSettings) (box : Rect) → IsTrue (are_intervals set.intervals)
    → AllByRecursion HasRoom (all_tiles set box)
unfolding all_tiles
tiles-room set box h =
    all-flat_map HasRoom (λ at. interval_tiles box at.0 at.1) (enumerate_from 0 set.intervals)
    (all-imp IsSound (λ at. AllByRecursion HasRoom (interval_tiles box at.0 at.1)) (interval-room box)
    (enumerate_from 0 set.intervals) (intervals-sound set h))

some-is : {X : Type 0} {x y : X} → Some x ≡ Some y → x ≡ y
some-is e = cc

found : (interval : Interval) (intervals : List Interval) (n i m : ℕ) → m ≡ n + i
    → AllByRecursion IsSound (enumerate_from n intervals) → slice_get intervals i ≡ Some interval
    → IsSound (m, interval)
found interval [] n i m at all e = absurd (cc e)
found interval (first ∷ intervals) n zero m at all e = subst IsSound (λ j. (place j, some-is e j)) all.0
  where
    place : n ≡ m
    place = omega (arith, at)
found interval (first ∷ intervals) n (suc i) m at all e =
    found interval intervals (n + 1) i m (omega (arith, at)) all.1 e

-- An interval by its place is one of them.
pub interval-sound : (set : HeadSettings) (index : ℕ) (interval : Interval) → IsTrue (are_intervals set.intervals)
    → slice_get set.intervals index ≡ Some interval → IsSound (index, interval)
interval-sound set index interval h at =
    found interval set.intervals 0 index index (omega arith) (intervals-sound set h) at

line-grid : (index : ℕ) (interval : Interval) (y : ℕ) (xs : List ℕ)
    → map (tile_place index interval) (map (λ x. (x, y)) xs) ≡ map (λ x. tile_place index interval (x, y)) xs
line-grid index interval y [] = refl
line-grid index interval y (x ∷ xs) =
    ap (λ more. tile_place index interval (x, y) ∷ more) (line-grid index interval y xs)

lines-grid : (index : ℕ) (interval : Interval) (xs ys : List ℕ)
    → map (tile_place index interval) (flat_map (λ y. map (λ x. (x, y)) xs) ys)
    ≡ flat_map (λ y. map (λ x. tile_place index interval (x, y)) xs) ys
lines-grid index interval xs [] = refl
lines-grid index interval xs (y ∷ ys) =
    map-append (tile_place index interval) (map (λ x. (x, y)) xs) (flat_map (λ y. map (λ x. (x, y)) xs) ys)
    ∙ (λ i. line-grid index interval y xs i ++ lines-grid index interval xs ys i)

-- The tiles of an interval, row by row.
pub interval-grid : (box : Rect) (index : ℕ) (interval : Interval) → interval_tiles box index interval
    ≡ flat_map (λ y. map (λ x. tile_place index interval (x, y))
    (from_to (tile_rect box interval.base).first_x (tile_rect box interval.base).last_x))
    (from_to (tile_rect box interval.base).first_y (tile_rect box interval.base).last_y)
unfolding interval_tiles tiles_of
interval-grid box index interval =
    lines-grid index interval (from_to (tile_rect box interval.base).first_x (tile_rect box interval.base).last_x)
    (from_to (tile_rect box interval.base).first_y (tile_rect box interval.base).last_y)
