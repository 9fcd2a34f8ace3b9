-- The members of a tile, read from the ordered rows: what is left before and behind a tile, and between two members.
-- This project's own.
use Rattle.std.specs.Prelude.{◌≡◌, ℕ, ◌≤◌, ◌<◌, ◌^◌, Bool, false, List, ◌∷◌, ◌++◌, map, sum_by, AllPairs, Option, Some}
use Rattle.std.specs.Prelude.{None}
use Rattle.std.specs.List.{AllByRecursion}
use Rattle.mf_base.specs.declared.tile.TilePlace.{TilePlace}
use Rattle.map_model.specs.MapFile.{tile_weight}
use Rattle.map_model.specs.NumberedMembers.{TileBelow, members_by}
use Rattle.mf_rows.specs.Desks.{Desktop, units_in}
use Rattle.mf_rows.specs.Records.{Record}
use Rattle.mf_rows.specs.declared.kinds.TileRow.{TileRow}
use Rattle.spill_parts.specs.Shaped.{Spelled, IsLight}
use Rattle.tile_rows.specs.TileRows.{shown, rows_of_tiles}
use Rattle.tile_rows.specs.Reading.{is_row_of, rows_from}
use Rattle.tile_load.specs.declared.load.LoadedTile.{LoadedTile}

-- what the heads of records weigh together
abbrev pub weight_of : List Spelled → ℕ
weight_of list = sum_by (λ (s : Spelled). s.told.head.weight) list

-- the records that units spell
abbrev pub told_of : List Spelled → List Record
told_of list = map (λ (s : Spelled). s.told) list

-- The rows that are left are those of these tiles, of these features, each of which is light; together the features
-- weigh less than 2^63.
pub record AreLeft (limit : ℕ) (list : List Spelled) (tiles : List TilePlace) (rows : List TileRow) : Type 0 where
  pub light : AllByRecursion (IsLight limit) list
  pub few : weight_of list < 2 ^ 63
  pub order : AllPairs TileBelow tiles
  pub rows_are : rows ≡ rows_of_tiles list tiles

-- A tile was read: the rows of the later tiles are left, the weight is that of its members, and where there is room for
-- it the records are its members.
pub record IsLoaded (list : List Spelled) (tile : TilePlace) (later : List TilePlace) (l : LoadedTile)
    (left : List TileRow) (d : Desktop) : Type 0 where
  pub left_are : left ≡ rows_of_tiles list later
  pub weight_is : l.weight ≡ tile_weight (map shown list) tile
  pub members_are : l.weight ≤ d.capacity → d.records ≡ told_of (members_by shown list tile)

-- whether a row is held that is of this tile
abbrev pub holds_row_of : TilePlace → Option TileRow → Bool
holds_row_of tile None = false
holds_row_of tile (Some row) = is_row_of tile row

-- The first members of a tile were read: the rows of the others are left, and of the later tiles, the weight is theirs,
-- and where there is room for it the records are these members, which have no more units.
pub record AreRead (limit : ℕ) (list : List Spelled) (tile : TilePlace) (later : List TilePlace) (weight : ℕ)
    (left : List TileRow) (records : List Record) : Type 0 where
  pub light : AllByRecursion (IsLight limit) list
  pub few : weight_of list < 2 ^ 63
  pub order : AllPairs TileBelow (tile ∷ later)
  pub done : List Spelled
  pub more : List Spelled
  pub members_are : members_by shown list tile ≡ done ++ more
  pub rows_are : left ≡ rows_from list tile more later
  pub weight_is : weight ≡ weight_of done
  pub records_are : weight ≤ limit → records ≡ told_of done
  pub units_are : weight ≤ limit → units_in records ≤ weight
