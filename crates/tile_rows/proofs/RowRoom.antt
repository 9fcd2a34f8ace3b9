-- The rows that are put, and those of the tiles, are rows of their kind.
use Rattle.std.proofs.Common.{◌≡◌, ℕ, ◌<◌, ◌≤◌, List, [], arith, refl, true, false}
use Rattle.std.specs.Prelude.{Bool, max, cond, leb, flat_map, IsTrue}
use Rattle.std.specs.List.{enumerate_from, AllByRecursion}
use Rattle.std.proofs.lemmas.Bool.{leb-true, and_parts}
use Rattle.mf_base.specs.declared.place.Rect.{Rect}
use Rattle.mf_base.specs.declared.tile.Interval.{Interval}
use Rattle.mf_base.specs.declared.tile.TilePlace.{TilePlace}
use Rattle.feature_model.proofs.Rising.{all-flat_map, all-map, all-unmap, all-imp}
use Rattle.map_model.specs.Header.{HeadSettings}
use Rattle.map_model.specs.Rectangles.{rect_of}
use Rattle.map_model.specs.TileRects.{meets}
use Rattle.map_model.specs.Intervals.{tile_place, are_intervals}
use Rattle.map_model.specs.Members.{is_poi}
use Rattle.map_model.specs.NumberedMembers.{is_in_tile, shared_tiles, members_by}
use Rattle.map_model.proofs.NumberedMembers.{members-all}
use Rattle.map_model.proofs.AllTiles.{IsSound, HasRoom, intervals-sound, shared-room}
use Rattle.mf_rows.specs.Units.{Unit16}
use Rattle.mf_rows.specs.RowKinds.{IsOf}
use Rattle.mf_rows.specs.Kinds.{shape_kind, tile_kind}
use Rattle.mf_rows.specs.declared.kinds.TileRow.{TileRow}
use Rattle.spill_parts.specs.Shaped.{Spelled, shape_row_of}
use Rattle.tile_rows.specs.TileRows.{shown, unit_row, member_rows, interval_rows, feature_rows, put_rows, tile_rows}
use Rattle.tile_rows.specs.TileRows.{rows_of_tiles, HasRows}

abbrev IsTileRow : TileRow → Type 0
IsTileRow row = IsOf tile_kind row

class-small : (poi : Bool) → cond poi 0 1 ≤ 1
class-small true = omega arith
class-small false = omega arith

-- the row of a unit in a tile, where its row among the features is one
unit-room : (tile : TilePlace) → HasRoom tile → (s : Spelled) → (shown s).zoom ≤ tile.interval.max → (at : ℕ × Unit16)
    → IsOf shape_kind (shape_row_of s.told.head.number at) → IsTileRow (unit_row tile s at.0 at.1)
unit-room tile room s zoom at h =
    let low = room.range in let most = room.most in let index = room.index in let y = room.y in let x = room.x in
    let class = class-small (is_poi (shown s)) in
    let in_zoom : max (shown s).zoom tile.interval.min < 256 = omega (arith, zoom, low, most) in
    (omega (arith, index), (omega (arith, y), (omega (arith, x), (omega (arith, class), (in_zoom, h)))))

member-room : (tile : TilePlace) → HasRoom tile → (s : Spelled) → HasRows s → (shown s).zoom ≤ tile.interval.max
    → AllByRecursion IsTileRow (member_rows tile s)
unfolding member_rows
member-room tile room s rows zoom =
    all-map IsTileRow (λ (at : ℕ × Unit16). unit_row tile s at.0 at.1) (enumerate_from 0 s.units)
    (all-imp (λ at. IsOf shape_kind (shape_row_of s.told.head.number at)) (λ at. IsTileRow (unit_row tile s at.0 at.1))
    (unit-room tile room s zoom) (enumerate_from 0 s.units)
    (all-unmap (IsOf shape_kind) (shape_row_of s.told.head.number) (enumerate_from 0 s.units) rows))

-- the zoom of a feature in a tile
zoom-within : (tile : TilePlace) (s : Spelled) → is_in_tile tile (shown s) ≡ true → (shown s).zoom ≤ tile.interval.max
zoom-within tile s h = leb-true (shown s).zoom tile.interval.max
    (and_parts (leb (shown s).zoom tile.interval.max) (meets (rect_of (shown s)) tile.interval.base tile.x tile.y) h).0

tile-room : (list : List Spelled) → AllByRecursion HasRows list → (tile : TilePlace) → HasRoom tile
    → AllByRecursion IsTileRow (tile_rows list tile)
unfolding tile_rows
tile-room list all tile room =
    all-flat_map IsTileRow (member_rows tile) (members_by shown list tile)
    (all-imp (λ s. HasRows s × (is_in_tile tile (shown s) ≡ true)) (λ s. AllByRecursion IsTileRow (member_rows tile s))
    (λ s h. member-room tile room s h.0 (zoom-within tile s h.1))
    (members_by shown list tile) (members-all shown (λ s. s.told.head.number) HasRows list tile all))

-- The rows of tiles with room are rows of the kind.
pub tiles-rows-room : (list : List Spelled) → AllByRecursion HasRows list → (tiles : List TilePlace)
    → AllByRecursion HasRoom tiles → AllByRecursion IsTileRow (rows_of_tiles list tiles)
unfolding rows_of_tiles
tiles-rows-room list all tiles room =
    all-flat_map IsTileRow (tile_rows list) tiles
    (all-imp HasRoom (λ t. AllByRecursion IsTileRow (tile_rows list t)) (tile-room list all) tiles room)

-- what a feature puts in an interval
interval-rows-room : (box : Rect) (s : Spelled) → HasRows s → (at : ℕ × Interval) → IsSound at
    → AllByRecursion IsTileRow (interval_rows box at.0 at.1 s)
unfolding interval_rows shared_tiles
interval-rows-room box s rows at sound = by_test (leb (shown s).zoom at.1.max) refl
  where
    by_test : (b : Bool) → leb (shown s).zoom at.1.max ≡ b
        → AllByRecursion IsTileRow (cond b (flat_map (λ p. member_rows (tile_place at.0 at.1 p) s)
        (shared_tiles box at.1 (shown s))) [])
    by_test true e =
        all-flat_map IsTileRow (λ p. member_rows (tile_place at.0 at.1 p) s) (shared_tiles box at.1 (shown s))
        (all-imp (λ p. HasRoom (tile_place at.0 at.1 p))
        (λ p. AllByRecursion IsTileRow (member_rows (tile_place at.0 at.1 p) s))
        (λ p room. member-room (tile_place at.0 at.1 p) room s rows (leb-true (shown s).zoom at.1.max e))
        (shared_tiles box at.1 (shown s)) (shared-room box (rect_of (shown s)) at sound))
    by_test false e = tt

-- what a feature puts in all intervals
feature-rows-room : (set : HeadSettings) (box : Rect) → IsTrue (are_intervals set.intervals) → (s : Spelled)
    → HasRows s → AllByRecursion IsTileRow (feature_rows set box s)
unfolding feature_rows
feature-rows-room set box intervals s rows =
    all-flat_map IsTileRow (λ at. interval_rows box at.0 at.1 s) (enumerate_from 0 set.intervals)
    (all-imp IsSound (λ at. AllByRecursion IsTileRow (interval_rows box at.0 at.1 s)) (interval-rows-room box s rows)
    (enumerate_from 0 set.intervals) (intervals-sound set intervals))

-- All rows that are put are rows of the kind.
pub put-room : (set : HeadSettings) (box : Rect) (list : List Spelled) → IsTrue (are_intervals set.intervals)
    → AllByRecursion HasRows list → AllByRecursion IsTileRow (put_rows set box list)
unfolding put_rows
put-room set box list intervals all =
    all-flat_map IsTileRow (feature_rows set box) list
    (all-imp HasRows (λ s. AllByRecursion IsTileRow (feature_rows set box s)) (feature-rows-room set box intervals)
    list all)
