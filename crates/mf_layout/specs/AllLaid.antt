-- The tiles of intervals are laid out, a sub-file for each interval. This project's own.
use Rattle.std.specs.Prelude.{◌≡◌, ℕ, ◌+◌, ◌^◌, ◌<◌, max, true, List, [], ◌++◌, map, flat_map, fold, length, count_by}
use Rattle.std.specs.Prelude.{None}
use Rattle.std.specs.List.{enumerate_from, AllByRecursion}
use Rattle.mf_base.specs.declared.place.Rect.{Rect}
use Rattle.mf_base.specs.declared.tile.Interval.{Interval}
use Rattle.mf_base.specs.declared.tile.TilePlace.{TilePlace}
use Rattle.mf_edge.specs.Spill.{SpillState}
use Rattle.map_model.specs.Intervals.{interval_tiles}
use Rattle.map_model.specs.SubFile.{sub_file_size}
use Rattle.mf_rows.specs.declared.kinds.TileRow.{TileRow}
use Rattle.spill_parts.specs.Shaped.{Spelled}
use Rattle.tile_rows.specs.TileRows.{shown}
use Rattle.mf_layout.specs.Laid.{Tile, content, is_shown, is_water, index_row_of, bytes_of}
use Rattle.mf_layout.specs.Laying.{tile_of, tiles_fault, AreToLay}
use Rattle.mf_layout.specs.SubFiles.{size_of}
use Rattle.mf_layout.specs.declared.laid.Laid.{Laid}
use Rattle.mf_layout.specs.declared.sub_files.SubFileSize.{SubFileSize}

-- the tiles of intervals, the first of which has this index
abbrev pub tiles_from : Rect → ℕ → List Interval → List TilePlace
tiles_from box index intervals = flat_map (λ at. interval_tiles box at.0 at.1) (enumerate_from index intervals)

-- the tiles of all sub-files, one sub-file after another
abbrev pub flat : List (List Tile) → List Tile
flat all = flat_map (λ tiles. tiles) all

-- the size of the sub-file of tiles
abbrev pub size_of_tiles : List Tile → SubFileSize
size_of_tiles tiles = size_of (map content tiles)

-- a sub-file stays below 2^39 bytes
abbrev pub IsShort : List Tile → Type 0
IsShort tiles = sub_file_size (map content tiles) < 2 ^ 39

-- Nothing is laid out yet, and this is the greatest weight so far.
pub record IsBegun (largest : ℕ) (laid : Laid) : Type 0 where
  pub rows_are : laid.index.rows ≡ []
  pub size_is : laid.tiles.size ≡ 0
  pub shown_is : laid.shown ≡ 0
  pub water_is : laid.water ≡ 0
  pub largest_is : laid.largest ≡ largest

-- The tiles of sub-files were laid out behind others. All are counted. Where each sub-file stays below 2^39 bytes, the
-- rows and the bytes of all tiles were put.
pub record AreAllLaid (all : List (List Tile)) (laid laid_now : Laid) (before after : SpillState) : Type 0 where
  pub shown_are : laid_now.shown ≡ laid.shown + count_by is_shown (flat all)
  pub water_are : laid_now.water ≡ laid.water + count_by is_water (flat all)
  pub largest_is : laid_now.largest ≡ fold max laid.largest (map (λ (t : Tile). t.weight) (flat all))
  pub rows_are : AllByRecursion IsShort all → laid_now.index.rows ≡ laid.index.rows ++ map index_row_of (flat all)
  pub put_size : AllByRecursion IsShort all
      → laid_now.tiles.size ≡ laid.tiles.size + length (bytes_of (map content (flat all)))
  pub put_are : AllByRecursion IsShort all → after.tells ≡ true
      → after.bytes laid.tiles.part ≡ before.bytes laid.tiles.part ++ bytes_of (map content (flat all))

-- The tiles of these intervals were laid out: each with its members, and none is over the limit. The rows of the later
-- tiles are left.
pub record AreAllDone (limit : ℕ) (box : Rect) (index : ℕ) (intervals : List Interval) (list : List Spelled)
    (later : List TilePlace) (left : List TileRow) (all : List (List Tile)) : Type 0 where
  pub tiles_are : all ≡ map (λ at. map (tile_of (map shown list)) (interval_tiles box at.0 at.1))
      (enumerate_from index intervals)
  pub no_fault : tiles_fault limit (map shown list) (tiles_from box index intervals) ≡ None
  pub to_lay : AreToLay limit list later left

-- Intervals were laid out of the rows that were left before, and other rows are left now. Each has a sub-file of its
-- tiles, whose size stands behind those before. Over a store that tells its bytes they are the tiles of the features
-- whose rows were left.
pub record LayAll (limit : ℕ) (box : Rect) (index : ℕ) (intervals : List Interval) (left left_now : List TileRow)
    (sizes sizes_now : List SubFileSize) (laid laid_now : Laid) (before after : SpillState) : Type 0 where
  pub all : List (List Tile)
  pub places_are : map (map (λ (t : Tile). t.place)) all
      ≡ map (λ at. interval_tiles box at.0 at.1) (enumerate_from index intervals)
  pub sizes_are : sizes_now ≡ sizes ++ map size_of_tiles all
  pub laid_are : AreAllLaid all laid laid_now before after
  pub told : before.tells ≡ true → (list : List Spelled) (later : List TilePlace)
      → AreToLay limit list (tiles_from box index intervals ++ later) left
      → AreAllDone limit box index intervals list later left_now all
