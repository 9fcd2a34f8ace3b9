-- Tiles are laid out of ordered rows: what is left before and behind them, and what they are. This project's own.
use Rattle.std.specs.Prelude.{◌≡◌, ℕ, nat_lt, true, List, ◌++◌, map, find, Option, None, option_map}
use Rattle.std.specs.List.{AllByRecursion}
use Rattle.mf_base.specs.declared.tile.TilePlace.{TilePlace}
use Rattle.mf_edge.specs.Spill.{SpillState}
use Rattle.feature_model.specs.Mapping.{Mapping}
use Rattle.feature_model.specs.Entries.{IsMapping}
use Rattle.feature_model.specs.Features.{Feature}
use Rattle.feature_model.specs.declared.fault.LimitFault.{LimitFault}
use Rattle.map_model.specs.Members.{members}
use Rattle.map_model.specs.MapFile.{tile_weight}
use Rattle.mf_rows.specs.declared.kinds.TileRow.{TileRow}
use Rattle.spill_parts.specs.Shaped.{Spelled, IsShown}
use Rattle.tile_rows.specs.TileRows.{shown}
use Rattle.tile_load.specs.Loading.{AreLeft}
use Rattle.mf_layout.specs.Laid.{Tile, AreLaid}
use Rattle.mf_layout.specs.declared.laid.Laid.{Laid}
use Rattle.mf_layout.specs.declared.sub_files.SubFileSize.{SubFileSize}

-- a tile of some features, as it is laid out
abbrev pub tile_of : List Feature → TilePlace → Tile
tile_of features place =
    record { place = place; weight = tile_weight features place; members = members features place }

-- a tile over the limit, as a fault
abbrev pub tile_over : List Feature → TilePlace → LimitFault
tile_over features t = LimitFault.Tile t.index t.x t.y (tile_weight features t)

-- the fault of the first of these tiles that weighs more than the limit
abbrev pub tiles_fault : ℕ → List Feature → List TilePlace → Option LimitFault
tiles_fault limit features tiles =
    option_map (tile_over features) (find (λ (t : TilePlace). nat_lt limit (tile_weight features t)) tiles)

-- The rows that are left are those of these tiles, of these features, which a map of some mapping may show.
pub record AreToLay (limit : ℕ) (list : List Spelled) (tiles : List TilePlace) (rows : List TileRow) : Type 0 where
  pub left : AreLeft limit list tiles rows
  pub mapping : Mapping
  pub is_mapping : IsMapping mapping
  pub may_show : AllByRecursion (IsShown mapping) (map shown list)

-- These tiles were laid out: each with its members, and none is over the limit. The rows of the later tiles are left.
pub record AreDone (limit : ℕ) (list : List Spelled) (tiles later : List TilePlace) (left : List TileRow)
    (done : List Tile) : Type 0 where
  pub done_are : done ≡ map (tile_of (map shown list)) tiles
  pub no_fault : tiles_fault limit (map shown list) tiles ≡ None
  pub to_lay : AreToLay limit list later left

-- Tiles of these places were laid out of the rows that were left before, and other rows are left now. Over a store that
-- tells its bytes they are the tiles of the features whose rows were left.
pub record LaysOut (limit : ℕ) (places : List TilePlace) (left left_now : List TileRow) (size size_now : SubFileSize)
    (laid laid_now : Laid) (before after : SpillState) : Type 0 where
  pub done : List Tile
  pub places_are : map (λ (t : Tile). t.place) done ≡ places
  pub laid_are : AreLaid done size size_now laid laid_now before after
  pub told : before.tells ≡ true → (list : List Spelled) (later : List TilePlace)
      → AreToLay limit list (places ++ later) left → AreDone limit list places later left_now done
