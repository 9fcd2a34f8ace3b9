-- What is put, step by step: feature after feature, interval after interval, and row after row of tiles.
use Rattle.std.proofs.Common.{◌≡◌, ℕ, ◌<◌, ◌≤◌, List, [], ◌∷◌, ◌++◌, map, refl, ap, ◌∙◌, Option, Some, None}
use Rattle.std.specs.Prelude.{flat_map}
use Rattle.std.proofs.lemmas.Grind.{flat_map-append}
use Rattle.std.proofs.lemmas.List.{append-nil}
use Rattle.std.proofs.lemmas.Bool.{le-leb, lt-leb}
use Rattle.mf_base.specs.declared.place.Rect.{Rect}
use Rattle.mf_base.specs.declared.tile.Interval.{Interval}
use Rattle.mf_base.specs.declared.tile.TileRect.{TileRect}
use Rattle.map_model.specs.Header.{HeadSettings}
use Rattle.map_model.specs.Rectangles.{rect_of}
use Rattle.map_model.specs.TileRects.{common, tile_rect, tiles_of, from_to}
use Rattle.map_model.specs.Intervals.{tile_place}
use Rattle.map_model.specs.NumberedMembers.{tiles_of_some, shared_tiles}
use Rattle.spill_parts.specs.Shaped.{Spelled}
use Rattle.tile_rows.specs.TileRows.{shown, member_rows, interval_rows, feature_rows, put_rows}

flat-line : {Y : Type 0} (g : ℕ × ℕ → List Y) (y : ℕ) (xs : List ℕ)
    → flat_map g (map (λ x. (x, y)) xs) ≡ flat_map (λ x. g (x, y)) xs
flat-line g y [] = refl
flat-line g y (x ∷ xs) = ap (λ more. g (x, y) ++ more) (flat-line g y xs)

flat-grid : {Y : Type 0} (g : ℕ × ℕ → List Y) (xs ys : List ℕ)
    → flat_map g (flat_map (λ y. map (λ x. (x, y)) xs) ys) ≡ flat_map (λ y. flat_map (λ x. g (x, y)) xs) ys
flat-grid g xs [] = refl
flat-grid g xs (y ∷ ys) =
    flat_map-append g (map (λ x. (x, y)) xs) (flat_map (λ y. map (λ x. (x, y)) xs) ys)
    ∙ (λ i. flat-line g y xs i ++ flat-grid g xs ys i)

pub one-more : (set : HeadSettings) (box : Rect) (list : List Spelled) (s : Spelled)
    → put_rows set box (list ++ s ∷ []) ≡ put_rows set box list ++ feature_rows set box s
unfolding put_rows
one-more set box list s = flat_map-append (feature_rows set box) list (s ∷ [])
    ∙ ap (λ more. flat_map (feature_rows set box) list ++ more) (append-nil (feature_rows set box s))

-- a feature above an interval puts nothing there
pub put-above : (box : Rect) (index : ℕ) (interval : Interval) (s : Spelled) → interval.max < (shown s).zoom
    → interval_rows box index interval s ≡ []
unfolding interval_rows
put-above box index interval s above = rw (lt-leb (shown s).zoom interval.max above) refl

-- any other puts what its tiles take
within-zoom : (box : Rect) (index : ℕ) (interval : Interval) (s : Spelled) → (shown s).zoom ≤ interval.max
    → (both : Option TileRect)
    → common (tile_rect box interval.base) (tile_rect (rect_of (shown s)) interval.base) ≡ both
    → interval_rows box index interval s
    ≡ flat_map (λ xy. member_rows (tile_place index interval xy) s) (tiles_of_some both)
unfolding interval_rows shared_tiles
within-zoom box index interval s le both e =
    rw (le-leb (shown s).zoom interval.max le)
    (ap (λ tiles. flat_map (λ xy. member_rows (tile_place index interval xy) s) (tiles_of_some tiles)) e)

pub put-none : (box : Rect) (index : ℕ) (interval : Interval) (s : Spelled) → (shown s).zoom ≤ interval.max
    → common (tile_rect box interval.base) (tile_rect (rect_of (shown s)) interval.base) ≡ None
    → interval_rows box index interval s ≡ []
put-none box index interval s le e = within-zoom box index interval s le None e

pub put-shared : (box : Rect) (index : ℕ) (interval : Interval) (s : Spelled) (t : TileRect)
    → (shown s).zoom ≤ interval.max
    → common (tile_rect box interval.base) (tile_rect (rect_of (shown s)) interval.base) ≡ Some t
    → interval_rows box index interval s
    ≡ flat_map (λ y. flat_map (λ x. member_rows (tile_place index interval (x, y)) s)
    (from_to t.first_x t.last_x)) (from_to t.first_y t.last_y)
unfolding tiles_of
put-shared box index interval s t le e = within-zoom box index interval s le (Some t) e
    ∙ flat-grid (λ xy. member_rows (tile_place index interval xy) s) (from_to t.first_x t.last_x)
    (from_to t.first_y t.last_y)
