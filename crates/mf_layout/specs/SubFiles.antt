-- The sub-files of a map, as parts of a store. This project's own.
use Rattle.std.specs.Prelude.{◌≡◌, ℕ, ◌+◌, ◌-◌, ◌*◌, ◌^◌, ◌<◌, ◌≤◌, nat_eq, Bool, List, [], ◌∷◌, ◌++◌, ⊤, map}
use Rattle.std.specs.Prelude.{flat_map, take, drop, length, sum_by, ◌≢◌, None}
use Rattle.std.specs.List.{AllByRecursion}
use Rattle.mf_edge.specs.Spill.{SpillState}
use Rattle.map_model.specs.SubFile.{TileContent, entry_of, entries_from, sub_file_size}
use Rattle.mf_rows.specs.declared.kinds.IndexRow.{IndexRow}
use Rattle.mf_layout.specs.declared.sub_files.SubFileSize.{SubFileSize}
use Rattle.mf_layout.specs.declared.sub_files.SubFiles.{SubFiles}

-- what a row tells of a tile: its water bit, and its size in bytes
abbrev pub entry_told : IndexRow → Bool × ℕ
entry_told row = (nat_eq row.water 1, row.size)

-- the index entries of tiles that rows tell, the first at an offset
abbrev pub entries_told : ℕ → List IndexRow → List ℕ
entries_told offset rows = entries_from offset (map entry_told rows)

-- the bytes of the tiles that rows tell
abbrev pub tiles_size : List IndexRow → ℕ
tiles_size rows = sum_by (λ (row : IndexRow). row.size) rows

-- how many tiles there are, and the size of their sub-file
abbrev pub size_of : List TileContent → SubFileSize
size_of tiles = record { tiles = length tiles; bytes = sub_file_size tiles }

-- The parts hold the sub-files of these tiles, a list of them for each interval.
pub record HoldTiles (all : List (List TileContent)) (subs : SubFiles) (s : SpillState) : Type 0 where
  pub sizes : subs.sizes.items ≡ map size_of all
  pub entries : map entry_told subs.index.rows ≡ flat_map (map entry_of) all
  pub tiles : s.bytes subs.tiles.part ≡ flat_map (flat_map (λ t. t.bytes)) all

-- a sub-file has room for its index, and the last of its bytes can be told in 39 bits
abbrev pub IsSubFile : SubFileSize → Type 0
IsSubFile size = (5 * size.tiles ≤ size.bytes) × (size.bytes < 2 ^ 39)

-- how many tiles sub-files have
abbrev pub tiles_in : List SubFileSize → ℕ
tiles_in [] = 0
tiles_in (size ∷ sizes) = size.tiles + tiles_in sizes

-- how many bytes they have
abbrev pub bytes_in : List SubFileSize → ℕ
bytes_in [] = 0
bytes_in (size ∷ sizes) = size.bytes + bytes_in sizes

-- The sizes are those of so many sub-files, which have all rows and all bytes of their parts.
pub record AreSubFiles (intervals : ℕ) (subs : SubFiles) : Type 0 where
  pub many : length subs.sizes.items ≡ intervals
  pub each : AllByRecursion IsSubFile subs.sizes.items
  pub rows : tiles_in subs.sizes.items ≡ length subs.index.rows
  pub bytes : bytes_in subs.sizes.items ≡ 5 * length subs.index.rows + subs.tiles.size

-- Their parts are gone, and every other part is as before.
pub record AreGone (subs : SubFiles) (before after : SpillState) : Type 0 where
  pub index : after.size subs.index.part ≡ None
  pub tiles : after.size subs.tiles.part ≡ None
  pub count : after.count + 2 ≡ before.count
  pub sizes : (q : ℕ) → q ≢ subs.index.part → q ≢ subs.tiles.part → after.size q ≡ before.size q
  pub bytes : (q : ℕ) → q ≢ subs.index.part → q ≢ subs.tiles.part → after.bytes q ≡ before.bytes q

-- ---- as they are written

-- the bytes of sub-files of these sizes, of the rows of their indexes and of the bytes of their tiles
abbrev pub sub_files_told : List SubFileSize → List IndexRow → List ℕ → List ℕ
sub_files_told [] rows tiles = []
sub_files_told (size ∷ sizes) rows tiles =
    entries_told (5 * size.tiles) (take size.tiles rows) ++ take (size.bytes - 5 * size.tiles) tiles
    ++ sub_files_told sizes (drop size.tiles rows) (drop (size.bytes - 5 * size.tiles) tiles)

-- the tiles of each sub-file have no more bytes than are left for them
abbrev pub Fit : List SubFileSize → List IndexRow → Type 0
Fit [] rows = ⊤
Fit (size ∷ sizes) rows =
    (5 * size.tiles + tiles_size (take size.tiles rows) ≤ size.bytes) × Fit sizes (drop size.tiles rows)
