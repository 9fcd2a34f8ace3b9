-- The sub-tile bitmap: Mapsforge Specification, Binary Map File Format, version 5, on ways.
use Rattle.std.specs.Prelude.{ℕ, ◌+◌, ◌-◌, ◌*◌, ◌/◌, ◌%◌, ◌^◌, if◌then◌else◌, sum_by}
use Rattle.std.specs.List.{range_with_len}
use Rattle.mf_base.specs.declared.place.Rect.{Rect}
use Rattle.mf_base.specs.declared.tile.TilePlace.{TilePlace}
use Rattle.feature_model.specs.Features.{Feature}
use Rattle.map_model.specs.Rectangles.{rect_of}
use Rattle.map_model.specs.TileRects.{meets}

-- The sixteen bits of a rectangle in tile (z, x, y), the highest first: one for each sub-tile two zoom levels below,
-- row by row from the north and west to east, set where the rectangle meets it.
unfoldable pub rect_bits : Rect → ℕ → ℕ → ℕ → ℕ
rect_bits rect z x y =
    sum_by (λ n. if meets rect (z + 2) (4 * x + n % 4) (4 * y + n / 4) then 2 ^ (15 - n) else 0) (range_with_len 0 16)

-- the bitmap of a feature; with the coast mark all sixteen bits are set
unfoldable pub sub_tile_bits : Feature → TilePlace → ℕ
sub_tile_bits f tile = if f.coast then 65535 else rect_bits (rect_of f) tile.interval.base tile.x tile.y
