-- What a layout is asked and tells. This project's own.
use Rattle.std.specs.Prelude.{◌≡◌, ℕ, ◌+◌, max, List, [], ◌∷◌, map, length, sum_by, None}
use Rattle.std.specs.List.{AllByRecursion}
use Rattle.mf_base.specs.declared.place.Rect.{Rect}
use Rattle.mf_edge.specs.Spill.{SpillState}
use Rattle.feature_model.specs.Mapping.{Mapping}
use Rattle.feature_model.specs.Entries.{IsMapping}
use Rattle.feature_model.specs.Features.{Feature}
use Rattle.map_model.specs.Header.{HeadSettings}
use Rattle.map_model.specs.MapFile.{all_contents, all_tiles, tile_weight, layout_fault, shown_tiles, water_tiles}
use Rattle.map_model.specs.MapFile.{largest_tile}
use Rattle.mf_rows.specs.Kinds.{index_kind}
use Rattle.mf_rows.specs.declared.kinds.ShapeRow.{ShapeRow}
use Rattle.spill_parts.specs.Parts.{BytePart, Piece, piece_of}
use Rattle.mf_rows.specs.declared.kinds.TileRow.{TileRow}
use Rattle.spill_parts.specs.Shaped.{Spelled, IsLight, AreShapes, IsShown}
use Rattle.tile_rows.specs.TileRows.{all_tile_rows, AreNumbered}
use Rattle.mf_layout.specs.SubFiles.{HoldTiles}
use Rattle.mf_layout.specs.declared.sub_files.SubFiles.{SubFiles}

-- The rows spell these features of a mapping, each of an accepted input.
pub record AreFeatures (limit : ℕ) (mapping : Mapping) (list : List Feature) (rows : List ShapeRow) : Type 0 where
  pub mapping_is : IsMapping mapping
  pub shapes : AreShapes limit list rows
  pub shown : AllByRecursion (IsShown mapping) list

-- The rows of all tiles of these records, of units that spell them.
pub record AreInOrder (limit : ℕ) (set : HeadSettings) (box : Rect) (list : List Spelled) (rows : List TileRow)
    : Type 0 where
  pub made : List Spelled
  pub told : map (λ (s : Spelled). s.told) made ≡ map (λ (s : Spelled). s.told) list
  pub light : AllByRecursion (IsLight limit) made
  pub numbered : AreNumbered made
  pub rows_are : rows ≡ all_tile_rows set box made

-- Nothing passes its limit, and the parts hold the sub-files of these features.
pub record IsLayoutOf (limit : ℕ) (set : HeadSettings) (box : Rect) (list : List Feature) (largest : ℕ)
    (found : SubFiles) (s : SpillState) : Type 0 where
  pub no_limit : layout_fault limit set box list ≡ None
  pub holds : HoldTiles (all_contents set box list) found s
  pub shown_count : found.shown ≡ shown_tiles set box list
  pub water_count : found.water ≡ water_tiles set box list
  pub greatest : found.largest ≡ max largest (largest_tile set box list)

-- a part of plain bytes as the bytes that a store tells of it
abbrev pub piece_in : SpillState → BytePart → Piece
piece_in s p = record { part = p.part; size = p.size; bytes = s.bytes p.part }

-- the parts of sub-files
abbrev pub sub_pieces : SpillState → SubFiles → List Piece
sub_pieces s found = piece_of index_kind found.index ∷ piece_in s found.tiles ∷ []

-- the weights of features, the tiles, and over each member of each tile its weight
unfoldable pub layout_size : HeadSettings → Rect → List Feature → ℕ
layout_size set box list =
    sum_by (λ (f : Feature). f.weight) list + length (all_tiles set box) + sum_by (tile_weight list) (all_tiles set box)
