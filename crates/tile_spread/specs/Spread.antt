-- The units of a feature in tiles, as rows that are all like one. This project's own.
use Rattle.std.specs.Prelude.{ℕ, ◌<◌, ◌^◌, nat_le, if◌then◌else◌, List, [], flat_map, Option, Some, None}
use Rattle.mf_base.specs.declared.place.Rect.{Rect}
use Rattle.mf_base.specs.declared.tile.Interval.{Interval}
use Rattle.mf_base.specs.declared.tile.TileRect.{TileRect}
use Rattle.map_model.specs.Intervals.{raised_zoom}
use Rattle.map_model.specs.Members.{is_node_kind}
use Rattle.map_model.specs.TileRects.{from_to, tile_rect, common}
use Rattle.mf_rows.specs.declared.head.Head.{Head}
use Rattle.mf_rows.specs.Units.{Unit16}
use Rattle.mf_rows.specs.declared.kinds.TileRow.{TileRow}
use Rattle.unit_rows.specs.Runs.{rows_of}

-- the row in another tile, by its column and row
abbrev pub at_tile : TileRow → ℕ × ℕ → TileRow
at_tile like xy = record like { x = xy.0; y = xy.1 }

-- the row with another place and unit
abbrev pub with_place : TileRow → ℕ → Unit16 → TileRow
with_place like place unit = record like { place = place; unit = unit }

-- the units as rows like this one
abbrev pub rows_like : TileRow → List Unit16 → List TileRow
rows_like like units = rows_of (with_place like) units

-- the same in each column from the first to the last, in one row
abbrev pub column_rows : TileRow → List Unit16 → (y first last : ℕ) → List TileRow
column_rows like units y first last = flat_map (λ x. rows_like (at_tile like (x, y)) units) (from_to first last)

-- the same in each row from the first to the last
abbrev pub rect_rows : TileRow → List Unit16 → (first_x last_x first_y last_y : ℕ) → List TileRow
rect_rows like units first_x last_x first_y last_y =
    flat_map (λ y. column_rows like units y first_x last_x) (from_to first_y last_y)

-- the same for each tile of a rectangle of tiles, and nothing where there is none
abbrev pub some_rows : TileRow → List Unit16 → Option TileRect → List TileRow
some_rows like units None = []
some_rows like units (Some t) = rect_rows like units t.first_x t.last_x t.first_y t.last_y

-- the row of a feature's head in an interval, with any unit
abbrev pub head_row : ℕ → Interval → Head → Unit16 → TileRow
head_row index interval head unit = record {
  interval = index;
  y = 0;
  x = 0;
  class = if is_node_kind head.kind then 0 else 1;
  zoom = raised_zoom interval head.zoom;
  number = head.number;
  place = 0;
  unit = unit;
}

-- the tiles that a box and a rectangle have in common
abbrev pub both_tiles : Rect → Rect → ℕ → Option TileRect
both_tiles box rect z = common (tile_rect box z) (tile_rect rect z)

-- what a feature of this head and rectangle puts in an interval, of these units
abbrev pub head_rows : (box rect : Rect) → ℕ → Interval → Head → List Unit16 → List TileRow
head_rows box rect index interval head units = if nat_le head.zoom interval.max
    then some_rows (head_row index interval head []) units (both_tiles box rect interval.base) else []

-- The last column and row of a rectangle of tiles are so small that there are numbers behind them.
pub record IsSmall (t : TileRect) : Type 0 where
  pub east : t.last_x < 2 ^ 31
  pub south : t.last_y < 2 ^ 31
