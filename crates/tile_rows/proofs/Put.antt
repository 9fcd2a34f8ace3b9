-- Each row of the tiles is put once, and no other.
use Rattle.std.proofs.Common.{◌≡◌, ℕ, ◌≤◌, List, [], ◌∷◌, refl, sym, ◌∙◌, arith, true, false}
use Rattle.std.specs.Prelude.{Bool, cond, ◌&&◌, leb, flat_map, IsTrue}
use Rattle.std.specs.List.{enumerate_from, AllByRecursion}
use Rattle.mf_base.specs.declared.place.Rect.{Rect}
use Rattle.mf_base.specs.declared.tile.Interval.{Interval}
use Rattle.mf_base.specs.declared.tile.TilePlace.{TilePlace}
use Rattle.feature_model.proofs.Totals.{total, total-map, total-flat_map, total-same, total-zero, total-swap}
use Rattle.feature_model.proofs.Rising.{all-imp}
use Rattle.map_model.specs.Header.{HeadSettings}
use Rattle.map_model.specs.MapFile.{all_tiles}
use Rattle.map_model.specs.Rectangles.{rect_of}
use Rattle.map_model.specs.TileRects.{has_tile, tile_rect, tiles_of, meets}
use Rattle.map_model.specs.Intervals.{tile_place, interval_tiles, are_intervals}
use Rattle.map_model.specs.NumberedMembers.{is_in_tile, shared_tiles, members_by}
use Rattle.map_model.proofs.NumberedMembers.{members-total}
use Rattle.map_model.proofs.AllTiles.{IsSound, shared-total, intervals-sound}
use Rattle.mf_rows.specs.declared.kinds.TileRow.{TileRow}
use Rattle.spill_parts.specs.Shaped.{Spelled}
use Rattle.tile_rows.specs.TileRows.{shown, member_rows, interval_rows, feature_rows, put_rows, tile_rows}
use Rattle.tile_rows.specs.TileRows.{rows_of_tiles, all_tile_rows}

-- a tile's rows, by feature
tile-total : (f : TileRow → ℕ) (list : List Spelled) (tile : TilePlace) → tile.interval.min ≤ tile.interval.max
    → total f (tile_rows list tile)
    ≡ total (λ s. cond (is_in_tile tile (shown s)) (total f (member_rows tile s)) 0) list
unfolding tile_rows
tile-total f list tile range =
    total-flat_map f (member_rows tile) (members_by shown list tile)
    ∙ members-total shown (λ s. s.told.head.number) (λ s. total f (member_rows tile s)) list tile range

-- what a feature puts in an interval is what the interval's tiles have of it
feature-total : (f : TileRow → ℕ) (box : Rect) (index : ℕ) (interval : Interval) (s : Spelled)
    → total f (interval_rows box index interval s)
    ≡ total (λ p. cond (is_in_tile (tile_place index interval p) (shown s))
    (total f (member_rows (tile_place index interval p) s)) 0) (tiles_of (tile_rect box interval.base))
unfolding interval_rows shared_tiles meets
feature-total f box index interval s = by_test (leb (shown s).zoom interval.max)
  where
    units : ℕ × ℕ → ℕ
    units p = total f (member_rows (tile_place index interval p) s)

    by_test : (b : Bool)
        → total f (cond b (flat_map (λ p. member_rows (tile_place index interval p) s)
        (shared_tiles box interval (shown s))) [])
        ≡ total (λ p. cond (b && has_tile (tile_rect (rect_of (shown s)) interval.base) p.0 p.1) (units p) 0)
        (tiles_of (tile_rect box interval.base))
    by_test true =
        total-flat_map f (λ p. member_rows (tile_place index interval p) s) (shared_tiles box interval (shown s))
        ∙ shared-total units (tile_rect box interval.base) (tile_rect (rect_of (shown s)) interval.base)
    by_test false = sym (total-zero (tiles_of (tile_rect box interval.base)))

-- an interval's rows, by feature or by tile
interval-total : (f : TileRow → ℕ) (box : Rect) (list : List Spelled) (at : ℕ × Interval) → IsSound at
    → total (λ s. total f (interval_rows box at.0 at.1 s)) list
    ≡ total (λ t. total f (tile_rows list t)) (interval_tiles box at.0 at.1)
unfolding interval_tiles
interval-total f box list at sound =
    total-same (λ s. total f (interval_rows box at.0 at.1 s)) (λ s. total (λ p. part s p) places)
    (feature-total f box at.0 at.1) list
    ∙ total-swap part list places
    ∙ sym (total-same (λ p. total f (tile_rows list (tile_place at.0 at.1 p))) (λ p. total (λ s. part s p) list)
    (λ p. tile-total f list (tile_place at.0 at.1 p) sound.range) places)
    ∙ sym (total-map (λ t. total f (tile_rows list t)) (tile_place at.0 at.1) places)
  where
    places : List (ℕ × ℕ)
    places = tiles_of (tile_rect box at.1.base)

    part : Spelled → ℕ × ℕ → ℕ
    part s p = cond (is_in_tile (tile_place at.0 at.1 p) (shown s))
        (total f (member_rows (tile_place at.0 at.1 p) s)) 0

total-all : {X : Type 0} (f g : X → ℕ) (xs : List X) → AllByRecursion (λ x. f x ≡ g x) xs → total f xs ≡ total g xs
total-all f g [] e = refl
total-all f g (x ∷ xs) e = omega (arith, e.0, total-all f g xs e.1)

-- all that is put, by interval
put-total : (f : TileRow → ℕ) (set : HeadSettings) (box : Rect) (list : List Spelled)
    → total f (put_rows set box list)
    ≡ total (λ (at : ℕ × Interval). total (λ s. total f (interval_rows box at.0 at.1 s)) list)
    (enumerate_from 0 set.intervals)
unfolding put_rows feature_rows
put-total f set box list =
    total-flat_map f (feature_rows set box) list
    ∙ total-same (λ s. total f (feature_rows set box s)) (λ s. total (λ at. part s at) intervals)
    (λ s. total-flat_map f (λ at. interval_rows box at.0 at.1 s) intervals) list
    ∙ total-swap part list intervals
  where
    intervals : List (ℕ × Interval)
    intervals = enumerate_from 0 set.intervals

    part : Spelled → ℕ × Interval → ℕ
    part s at = total f (interval_rows box at.0 at.1 s)

-- The rows that are put are those that the tiles have, each as often.
pub rows-total : (f : TileRow → ℕ) (set : HeadSettings) (box : Rect) (list : List Spelled)
    → IsTrue (are_intervals set.intervals) → total f (put_rows set box list) ≡ total f (all_tile_rows set box list)
unfolding rows_of_tiles all_tiles
rows-total f set box list intervals =
    put-total f set box list
    ∙ total-all (λ (at : ℕ × Interval). total (λ s. total f (interval_rows box at.0 at.1 s)) list)
    (λ at. total (λ t. total f (tile_rows list t)) (interval_tiles box at.0 at.1)) (enumerate_from 0 set.intervals)
    (all-imp IsSound (λ at. total (λ s. total f (interval_rows box at.0 at.1 s)) list
    ≡ total (λ t. total f (tile_rows list t)) (interval_tiles box at.0 at.1))
    (interval-total f box list) (enumerate_from 0 set.intervals) (intervals-sound set intervals))
    ∙ sym (total-flat_map (λ t. total f (tile_rows list t)) (λ at. interval_tiles box at.0 at.1)
    (enumerate_from 0 set.intervals))
    ∙ sym (total-flat_map f (tile_rows list) (all_tiles set box))
