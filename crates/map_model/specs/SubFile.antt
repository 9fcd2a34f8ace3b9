-- The tile index and the tiles of a zoom interval: Mapsforge Specification, Binary Map File Format, version 5, on
-- sub-files; the water test is this project's profile.
use Rattle.std.specs.Prelude.{ℕ, ◌+◌, ◌*◌, ◌^◌, if◌then◌else◌, Bool, not, ◌&&◌, List, [], ◌∷◌, ◌++◌, map, flat_map}
use Rattle.std.specs.Prelude.{length, take, sum_by}
use Rattle.std.specs.List.{enumerate_from, list_any, list_all}
use Rattle.mf_base.specs.Spelling.{big_endian}
use Rattle.mf_base.specs.declared.place.Place.{Place}
use Rattle.mf_base.specs.declared.place.Rect.{Rect}
use Rattle.mf_base.specs.declared.tile.Interval.{Interval}
use Rattle.mf_base.specs.declared.tile.TilePlace.{TilePlace}
use Rattle.feature_model.specs.Features.{Feature}
use Rattle.feature_model.specs.Inside.{edges, inside}
use Rattle.map_model.specs.Rectangles.{rings_of, rect_of_places}
use Rattle.map_model.specs.TileRects.{meets}
use Rattle.map_model.specs.Labels.{is_closed}
use Rattle.map_model.specs.Intervals.{interval_tiles}
use Rattle.map_model.specs.Members.{members}
use Rattle.map_model.specs.TileBytes.{tile_corner, tile_bytes}

-- an edge whose rectangle meets the tile
abbrev pub edge_meets : TilePlace → Place × Place → Bool
edge_meets tile edge = meets (rect_of_places (edge.0 ∷ edge.1 ∷ [])) tile.interval.base tile.x tile.y

-- A feature covers a tile: it has the water mark and only closed rings, no edge meets the tile, and the tile's corner
-- is inside its rings.
unfoldable pub covers : TilePlace → Feature → Bool
covers tile f =
    f.water && list_all is_closed (rings_of f)
    && not (list_any (edge_meets tile) (flat_map edges (rings_of f)))
    && inside (rings_of f) (tile_corner tile)

-- the water bit: some member covers the tile
unfoldable pub water : TilePlace → List Feature → Bool
water tile members = list_any (covers tile) members

-- what a sub-file has of a tile: its water bit and its bytes
pub record TileContent : Type 0 where
  pub water : Bool
  pub bytes : List ℕ

-- the content of a tile with these members
unfoldable pub content_of : TilePlace → List Feature → TileContent
content_of tile members = record { water = water tile members; bytes = tile_bytes tile members }

-- the contents of an interval's tiles, row by row from the north and west to east
unfoldable pub contents : List Feature → Rect → ℕ → Interval → List TileContent
contents features box index interval =
    map (λ tile. content_of tile (members features tile)) (interval_tiles box index interval)

-- five bytes, the highest first: the top bit is the water bit, and the other 39 are the offset
abbrev pub entry_bytes : Bool → ℕ → List ℕ
entry_bytes water offset = big_endian 5 ((if water then 2 ^ 39 else 0) + offset)

-- The offset of tile j from the start of the sub-file, in bytes: five for each entry of the index, and the tiles before
-- it.
abbrev pub offset_of : List TileContent → ℕ → ℕ
offset_of tiles j = 5 * length tiles + sum_by (λ t. length t.bytes) (take j tiles)

-- the tile index: one entry for each tile
unfoldable pub index_bytes : List TileContent → List ℕ
index_bytes tiles = flat_map (λ at. entry_bytes at.1.water (offset_of tiles at.0)) (enumerate_from 0 tiles)

-- the index, then the tiles
unfoldable pub sub_file_of : List TileContent → List ℕ
sub_file_of tiles = index_bytes tiles ++ flat_map (λ t. t.bytes) tiles

-- the size of a sub-file, in bytes: the offset at which a further tile would stand
abbrev pub sub_file_size : List TileContent → ℕ
sub_file_size tiles = offset_of tiles (length tiles)

-- the sub-file of an interval
unfoldable pub sub_file : List Feature → Rect → ℕ → Interval → List ℕ
sub_file features box index interval = sub_file_of (contents features box index interval)

-- the entries of tiles with these water bits and sizes in bytes, the first at this offset and each at the end of the
-- one before
unfoldable pub entries_from : ℕ → List (Bool × ℕ) → List ℕ
entries_from offset [] = []
entries_from offset (tile ∷ tiles) = entry_bytes tile.0 offset ++ entries_from (offset + tile.1) tiles

-- the water bit and the size of a tile
abbrev pub entry_of : TileContent → Bool × ℕ
entry_of t = (t.water, length t.bytes)
