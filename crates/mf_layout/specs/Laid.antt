-- Tiles that are laid out one behind another for the sub-file of an interval: a row for each, and its bytes. This
-- project's own.
use Rattle.std.specs.Prelude.{◌≡◌, ◌≢◌, ℕ, ◌+◌, ◌^◌, ◌<◌, ◌≤◌, nat_lt, min, max, Bool, true, if◌then◌else◌, List, [], ◌∷◌}
use Rattle.std.specs.Prelude.{◌++◌, map, flat_map, fold, length, count_by}
use Rattle.mf_base.specs.declared.tile.TilePlace.{TilePlace}
use Rattle.mf_edge.specs.Spill.{SpillState, SameStore}
use Rattle.feature_model.specs.Features.{Feature}
use Rattle.map_model.specs.SubFile.{TileContent, content_of, water, sub_file_size}
use Rattle.mf_rows.specs.Kinds.{index_kind}
use Rattle.mf_rows.specs.declared.kinds.IndexRow.{IndexRow}
use Rattle.spill_parts.specs.Parts.{Part, BytePart, IsHeld, HasItsSize}
use Rattle.mf_layout.specs.declared.laid.Laid.{Laid}
use Rattle.mf_layout.specs.declared.sub_files.SubFileSize.{SubFileSize}

-- ---- tiles

-- a tile that is laid out: its place, its weight in rows, and its members
pub record Tile : Type 0 where
  pub place : TilePlace
  pub weight : ℕ
  pub members : List Feature

-- what the sub-file has of a tile
abbrev pub content : Tile → TileContent
content t = content_of t.place t.members

-- a tile has members
abbrev pub is_shown : Tile → Bool
is_shown t = nat_lt 0 (length t.members)

-- a tile has the water bit
abbrev pub is_water : Tile → Bool
is_water t = water t.place t.members

-- the row of a tile in the index: its water bit, and its size in bytes
abbrev pub index_row_of : Tile → IndexRow
index_row_of t = record {
  interval = t.place.index;
  y = t.place.y;
  x = t.place.x;
  water = if is_water t then 1 else 0;
  size = length (content t).bytes;
}

-- the bytes of tiles, one tile after another
abbrev pub bytes_of : List TileContent → List ℕ
bytes_of tiles = flat_map (λ (t : TileContent). t.bytes) tiles

-- ---- the two parts

-- The parts of rows and of bytes are there, under two numbers.
pub record AreThere (index : Part IndexRow) (tiles : BytePart) (s : SpillState) : Type 0 where
  pub rows : IsHeld index_kind index s
  pub bytes : HasItsSize tiles s
  pub apart : index.part ≢ tiles.part

-- Every part but these two is as before, and so is all else but the count of faults.
pub record TouchesTwo (p q : ℕ) (before after : SpillState) : Type 0 where
  pub same : SameStore before after
  pub count : after.count ≡ before.count
  pub overrun : after.is_overrun ≡ before.is_overrun
  pub sizes : (n : ℕ) → n ≢ p → n ≢ q → after.size n ≡ before.size n
  pub bytes : (n : ℕ) → n ≢ p → n ≢ q → after.bytes n ≡ before.bytes n

-- The parts are so small that they have room for a tile behind so many more rows and bytes, and the counts for it.
pub record HasRoom (more : ℕ) (laid : Laid) : Type 0 where
  pub rows : length laid.index.rows + more ≤ 2 ^ 57
  pub bytes : laid.tiles.size + more ≤ 2 ^ 61
  pub shown : laid.shown + more ≤ 2 ^ 63
  pub water : laid.water + more ≤ 2 ^ 63

-- A row and bytes were put behind those that stood.
pub record ArePut (row : IndexRow) (bytes : List ℕ) (index index_now : Part IndexRow) (tiles tiles_now : BytePart)
    (before after : SpillState) : Type 0 where
  pub rows_are : index_now.rows ≡ index.rows ++ row ∷ []
  pub size_is : tiles_now.size ≡ tiles.size + length bytes
  pub bytes_are : after.tells ≡ true → after.bytes tiles.part ≡ before.bytes tiles.part ++ bytes

-- ---- what is laid out

-- Tiles were laid out behind others, those of their sub-file among them. All are counted. Where the sub-file stays below
-- 2^39 bytes, their rows and bytes were put; and else no more was put than the first 2^39 bytes.
pub record AreLaid (done : List Tile) (size size_now : SubFileSize) (laid laid_now : Laid) (before after : SpillState)
    : Type 0 where
  pub tiles_are : size_now.tiles ≡ size.tiles + length done
  pub bytes_are : size_now.bytes ≡ size.bytes + sub_file_size (map content done)
  pub shown_are : laid_now.shown ≡ laid.shown + count_by is_shown done
  pub water_are : laid_now.water ≡ laid.water + count_by is_water done
  pub largest_is : laid_now.largest ≡ fold max laid.largest (map (λ (t : Tile). t.weight) done)
  pub rows_are : size_now.bytes < 2 ^ 39 → laid_now.index.rows ≡ laid.index.rows ++ map index_row_of done
  pub put_size : size_now.bytes < 2 ^ 39
      → laid_now.tiles.size ≡ laid.tiles.size + length (bytes_of (map content done))
  pub put_are : size_now.bytes < 2 ^ 39 → after.tells ≡ true
      → after.bytes laid.tiles.part ≡ before.bytes laid.tiles.part ++ bytes_of (map content done)
  pub most_rows : length laid_now.index.rows + min size.bytes (2 ^ 39)
      ≤ length laid.index.rows + min size_now.bytes (2 ^ 39)
  pub most_bytes : laid_now.tiles.size + min size.bytes (2 ^ 39) ≤ laid.tiles.size + min size_now.bytes (2 ^ 39)
