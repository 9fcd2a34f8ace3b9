-- The header and the sub-files that are written are the map of the tiles that they hold.
use Rattle.std.proofs.Common.{◌≡◌, ℕ, ◌≤◌, List, [], ◌++◌, map, sym, ap, subst, ◌∙◌, arith, length, Option}
use Rattle.mf_base.specs.Buffer.{Buffer, AppendsTo}
use Rattle.mf_base.specs.declared.place.Rect.{Rect}
use Rattle.mf_edge.specs.Device.{Gains, GainsFront}
use Rattle.mf_edge.specs.Spill.{SpillState}
use Rattle.mf_edge.proofs.Putting.{Gains-then, GainsFront-then, GainsFront-longer}
use Rattle.map_model.specs.Header.{HeadSettings, header_size, header_bytes, sub_files}
use Rattle.map_model.specs.TagLists.{TagLists}
use Rattle.map_model.specs.SubFile.{TileContent}
use Rattle.map_model.specs.MapFile.{map_of_contents}
use Rattle.mf_layout.specs.declared.sub_files.SubFileSize.{SubFileSize}
use Rattle.mf_layout.specs.declared.sub_files.SubFiles.{SubFiles}
use Rattle.mf_layout.specs.SubFiles.{HoldTiles, AreSubFiles, sub_files_told, tiles_in, bytes_in, Fit}
use Rattle.mf_layout.proofs.Contents.{told-all, fit-all, sizes-bytes, tiles-length}

-- the header of sub-files of these sizes
abbrev pub head_of : HeadSettings → TagLists → Rect → List SubFileSize → List ℕ
head_of set names box sizes =
    header_bytes set box names (sub_files (header_size set names) (map (λ (s : SubFileSize). s.bytes) sizes))

-- the header was put into a buffer that was cleared
pub head-bytes : (set : HeadSettings) (names : TagLists) (box : Rect) (cleared put : Buffer)
    (sizes items : List SubFileSize) → cleared.bytes ≡ [] → AppendsTo cleared put (head_of set names box sizes)
    → sizes ≡ items → put.bytes ≡ head_of set names box items
head-bytes set names box cleared put sizes items clear appends same =
    ap (λ (b : Buffer). b.bytes) appends ∙ (λ i. clear i ++ head_of set names box (same i))

-- the map is the header and what the parts tell
map-told : (set : HeadSettings) (names : TagLists) (box : Rect) (all : List (List TileContent)) (subs : SubFiles)
    (s : SpillState) → HoldTiles all subs s
    → head_of set names box subs.sizes.items
    ++ sub_files_told subs.sizes.items subs.index.rows (s.bytes subs.tiles.part) ≡ map_of_contents set names box all
unfolding map_of_contents
map-told set names box all subs s holds =
    let bytes = ap (map (λ (s : SubFileSize). s.bytes)) holds.sizes ∙ sizes-bytes all in
    let rest = ap (λ (ss : List SubFileSize). sub_files_told ss subs.index.rows (s.bytes subs.tiles.part)) holds.sizes
    ∙ told-all all subs.index.rows (s.bytes subs.tiles.part) holds.entries holds.tiles in
    λ i. header_bytes set box names (sub_files (header_size set names) (bytes i)) ++ rest i

pub map-put : (before mid now : Option (List ℕ)) (set : HeadSettings) (names : TagLists) (box : Rect)
    (all : List (List TileContent)) (subs : SubFiles) (s : SpillState) → HoldTiles all subs s
    → Gains before (head_of set names box subs.sizes.items) mid
    → Gains mid (sub_files_told subs.sizes.items subs.index.rows (s.bytes subs.tiles.part)) now
    → Gains before (map_of_contents set names box all) now
map-put before mid now set names box all subs s holds head rest =
    subst (λ bs. Gains before bs now) (map-told set names box all subs s holds)
    (Gains-then before mid now (head_of set names box subs.sizes.items)
    (sub_files_told subs.sizes.items subs.index.rows (s.bytes subs.tiles.part)) head rest)

pub map-front : (before mid now : Option (List ℕ)) (set : HeadSettings) (names : TagLists) (box : Rect)
    (all : List (List TileContent)) (subs : SubFiles) (s : SpillState) → HoldTiles all subs s
    → Gains before (head_of set names box subs.sizes.items) mid
    → GainsFront mid (sub_files_told subs.sizes.items subs.index.rows (s.bytes subs.tiles.part)) now
    → GainsFront before (map_of_contents set names box all) now
map-front before mid now set names box all subs s holds head rest =
    subst (λ bs. GainsFront before bs now) (map-told set names box all subs s holds)
    (GainsFront-then before mid now (head_of set names box subs.sizes.items)
    (sub_files_told subs.sizes.items subs.index.rows (s.bytes subs.tiles.part)) head rest)

-- some first bytes of the header were put
pub head-front : (before now : Option (List ℕ)) (set : HeadSettings) (names : TagLists) (box : Rect)
    (all : List (List TileContent)) (subs : SubFiles) (s : SpillState) → HoldTiles all subs s
    → GainsFront before (head_of set names box subs.sizes.items) now
    → GainsFront before (map_of_contents set names box all) now
head-front before now set names box all subs s holds head =
    subst (λ bs. GainsFront before bs now) (map-told set names box all subs s holds)
    (GainsFront-longer before now (head_of set names box subs.sizes.items)
    (sub_files_told subs.sizes.items subs.index.rows (s.bytes subs.tiles.part)) head)

-- the part of tiles has as many bytes as its size tells
pub whole-part : (intervals : ℕ) (all : List (List TileContent)) (subs : SubFiles) (s : SpillState)
    → AreSubFiles intervals subs → HoldTiles all subs s → length (s.bytes subs.tiles.part) ≡ subs.tiles.size
whole-part intervals all subs s are holds =
    let tiles = tiles-length all in
    let bytes = ap bytes_in holds.sizes in
    let count = ap tiles_in holds.sizes in
    let there = ap length holds.tiles in
    omega (arith, tiles, bytes, count, there, are.rows, are.bytes)

-- the tiles of each sub-file fit
pub fit-told : (all : List (List TileContent)) (subs : SubFiles) (s : SpillState) → HoldTiles all subs s
    → Fit subs.sizes.items subs.index.rows
fit-told all subs s holds =
    subst (λ (ss : List SubFileSize). Fit ss subs.index.rows) (sym holds.sizes)
    (fit-all all subs.index.rows holds.entries)

-- a header has room for an entry
pub five-bytes : (set : HeadSettings) (names : TagLists) → 5 ≤ header_size set names
unfolding header_size
five-bytes set names = omega arith
