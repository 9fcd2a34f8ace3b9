-- The rows of a layout: each unit of a member of a tile is a row, and the rows are read again tile after tile. This
-- project's own.
use Rattle.std.specs.Prelude.{ℕ, ◌<◌, nat_le, if◌then◌else◌, List, [], flat_map, AllPairs}
use Rattle.std.specs.List.{enumerate_from, AllByRecursion}
use Rattle.mf_base.specs.declared.place.Rect.{Rect}
use Rattle.mf_base.specs.declared.tile.Interval.{Interval}
use Rattle.mf_base.specs.declared.tile.TilePlace.{TilePlace}
use Rattle.feature_model.specs.Features.{Feature}
use Rattle.map_model.specs.Header.{HeadSettings}
use Rattle.map_model.specs.MapFile.{all_tiles}
use Rattle.map_model.specs.Intervals.{raised_zoom, tile_place}
use Rattle.map_model.specs.Members.{class_of}
use Rattle.map_model.specs.NumberedMembers.{shared_tiles, members_by}
use Rattle.mf_rows.specs.Units.{Unit16}
use Rattle.mf_rows.specs.Kinds.{shape_kind}
use Rattle.mf_rows.specs.RowKinds.{IsOf}
use Rattle.mf_rows.specs.Shapes.{feature_told}
use Rattle.mf_rows.specs.declared.kinds.TileRow.{TileRow}
use Rattle.spill_parts.specs.Shaped.{Spelled, shape_rows}
use Rattle.unit_rows.specs.Runs.{rows_of}

-- ---- the rows that are put

-- the feature that a record is
abbrev pub shown : Spelled → Feature
shown s = feature_told s.told

-- a unit of a feature in a tile, with its place in the record
abbrev pub unit_row : TilePlace → Spelled → ℕ → Unit16 → TileRow
unit_row tile s place unit = record {
  interval = tile.index;
  y = tile.y;
  x = tile.x;
  class = class_of (shown s);
  zoom = raised_zoom tile.interval (shown s).zoom;
  number = s.told.head.number;
  place = place;
  unit = unit;
}

-- the units of a feature in a tile
unfoldable pub member_rows : TilePlace → Spelled → List TileRow
member_rows tile s = rows_of (unit_row tile s) s.units

-- what a feature puts in an interval: its units for each tile that the box and its rectangle have in common, where its
-- zoom is at most the interval's maximum
unfoldable pub interval_rows : Rect → ℕ → Interval → Spelled → List TileRow
interval_rows box index interval s =
    if nat_le (shown s).zoom interval.max then flat_map (λ xy. member_rows (tile_place index interval xy) s)
    (shared_tiles box interval (shown s)) else []

-- what a feature puts in all intervals
unfoldable pub feature_rows : HeadSettings → Rect → Spelled → List TileRow
feature_rows set box s = flat_map (λ at. interval_rows box at.0 at.1 s) (enumerate_from 0 set.intervals)

-- all rows that are put, feature after feature
unfoldable pub put_rows : HeadSettings → Rect → List Spelled → List TileRow
put_rows set box list = flat_map (feature_rows set box) list

-- ---- the rows that are read again

-- the rows of a tile: the units of its members in order
unfoldable pub tile_rows : List Spelled → TilePlace → List TileRow
tile_rows list tile = flat_map (member_rows tile) (members_by shown list tile)

-- the rows of some tiles, one tile after another, and nothing for a tile without members
unfoldable pub rows_of_tiles : List Spelled → List TilePlace → List TileRow
rows_of_tiles list tiles = flat_map (tile_rows list) tiles

-- the rows of all tiles, by interval, then y, then x
abbrev pub all_tile_rows : HeadSettings → Rect → List Spelled → List TileRow
all_tile_rows set box list = rows_of_tiles list (all_tiles set box)

-- ---- what a layout is over

-- a feature before another by its number
abbrev pub NumberBelow : Spelled → Spelled → Type 0
NumberBelow s t = s.told.head.number < t.told.head.number

-- the number of a feature and the places of its units have room in rows, and each of its units is one
abbrev pub HasRows : Spelled → Type 0
HasRows s = AllByRecursion (IsOf shape_kind) (shape_rows s)

-- The numbers of features rise, and each feature has rows.
pub record AreNumbered (list : List Spelled) : Type 0 where
  pub rise : AllPairs NumberBelow list
  pub rows : AllByRecursion HasRows list
