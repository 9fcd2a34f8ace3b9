-- Rectangles of tiles, and which tiles a rectangle meets: Mapsforge Specification, Binary Map File Format, version 5,
-- on tiles; the rest is this project's profile.
use Rattle.std.specs.Prelude.{ℕ, suc, ◌+◌, ◌-◌, ◌*◌, ◌^◌, ◌<◌, ◌≤◌, max, min, nat_le, if◌then◌else◌, Bool, ◌&&◌, List}
use Rattle.std.specs.Prelude.{map, flat_map, Option, Some, None}
use Rattle.std.specs.List.{range_with_len}
use Rattle.mf_base.specs.declared.place.Rect.{Rect}
use Rattle.mf_base.specs.declared.tile.TileRect.{TileRect}
use Rattle.map_model.specs.Mercator.{row, column}

-- the tiles at zoom z that a rectangle meets
unfoldable pub tile_rect : Rect → ℕ → TileRect
tile_rect rect z =
    record {
      z = z;
      first_x = column z rect.min_lon;
      last_x = column z rect.max_lon;
      first_y = row z rect.max_lat;
      last_y = row z rect.min_lat;
    }

-- a rectangle of tiles: each first is at most its last, and each last is below 2^z
pub record IsTileRect (t : TileRect) : Type 0 where
  pub columns : t.first_x ≤ t.last_x
  pub rows : t.first_y ≤ t.last_y
  pub east : t.last_x < 2 ^ t.z
  pub south : t.last_y < 2 ^ t.z

-- column x and row y lie in a rectangle of tiles
abbrev pub has_tile : TileRect → ℕ → ℕ → Bool
has_tile t x y = nat_le t.first_x x && nat_le x t.last_x && nat_le t.first_y y && nat_le y t.last_y

-- the tiles that are in both of two rectangles of one zoom, or None where no tile is
unfoldable pub common : TileRect → TileRect → Option TileRect
common a b =
    let both : TileRect = record {
      z = a.z;
      first_x = max a.first_x b.first_x;
      last_x = min a.last_x b.last_x;
      first_y = max a.first_y b.first_y;
      last_y = min a.last_y b.last_y;
    } in
    if nat_le both.first_x both.last_x && nat_le both.first_y both.last_y then Some both else None

-- a rectangle meets tile (z, x, y)
unfoldable pub meets : Rect → ℕ → ℕ → ℕ → Bool
meets rect z x y = has_tile (tile_rect rect z) x y

-- the numbers from a to b, both counted in
abbrev pub from_to : ℕ → ℕ → List ℕ
from_to a b = range_with_len a (suc b - a)

-- the tiles of a rectangle, row by row from the north and west to east, as pairs of x and y
unfoldable pub tiles_of : TileRect → List (ℕ × ℕ)
tiles_of t = flat_map (λ y. map (λ x. (x, y)) (from_to t.first_x t.last_x)) (from_to t.first_y t.last_y)

-- the place of tile (x, y) among them, from 0
abbrev pub entry_place : TileRect → ℕ → ℕ → ℕ
entry_place t x y = (y - t.first_y) * (suc t.last_x - t.first_x) + (x - t.first_x)

-- how many tiles there are
abbrev pub tile_count : TileRect → ℕ
tile_count t = (suc t.last_x - t.first_x) * (suc t.last_y - t.first_y)
