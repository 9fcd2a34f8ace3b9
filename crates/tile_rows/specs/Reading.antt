-- Where a reader stands among the rows of features, and among the ordered rows: in which tile, and before which of its
-- members. This project's own.
use Rattle.std.specs.Prelude.{◌≡◌, ◌==◌, ◌&&◌, Bool, List, ◌∷◌, ◌++◌, map, flat_map}
use Rattle.mf_base.specs.declared.tile.TilePlace.{TilePlace}
use Rattle.mf_rows.specs.declared.kinds.ShapeRow.{ShapeRow}
use Rattle.mf_rows.specs.declared.kinds.TileRow.{TileRow}
use Rattle.spill_parts.specs.Shaped.{Spelled, shape_rows}
use Rattle.unit_rows.specs.Runs.{going_on, next_on}
use Rattle.tile_rows.specs.TileRows.{member_rows, rows_of_tiles}

-- whether a row is of this tile
abbrev pub is_row_of : TilePlace → TileRow → Bool
is_row_of tile r = r.interval == tile.index && r.y == tile.y && r.x == tile.x

-- the rows of these members of a tile, and then those of the later tiles
abbrev pub rows_from : List Spelled → TilePlace → List Spelled → List TilePlace → List TileRow
rows_from list tile rest later = flat_map (member_rows tile) rest ++ rows_of_tiles list later

-- A row begins the first of these members of a tile: its units are those of this row and of the rows that go on with
-- it, and behind these stand the rows of the other members, and of the later tiles.
pub record BeginsMember (list : List Spelled) (tile : TilePlace) (rest : List Spelled) (later : List TilePlace)
    (row : TileRow) (left : List TileRow) : Type 0 where
  pub member : Spelled
  pub more : List Spelled
  pub rest_are : rest ≡ member ∷ more
  pub units_are : map (λ (r : TileRow). r.unit) (row ∷ going_on (λ (r : TileRow). r.place) left) ≡ member.units
  pub left_are : next_on (λ (r : TileRow). r.place) left ≡ rows_from list tile more later

-- A row begins the first of these features: its units are those of this row and of the rows that go on with it, and
-- behind these stand the rows of the other features.
pub record BeginsFeature (list : List Spelled) (row : ShapeRow) (left : List ShapeRow) : Type 0 where
  pub feature : Spelled
  pub more : List Spelled
  pub list_is : list ≡ feature ∷ more
  pub units_are : map (λ (r : ShapeRow). r.unit) (row ∷ going_on (λ (r : ShapeRow). r.place) left) ≡ feature.units
  pub left_are : next_on (λ (r : ShapeRow). r.place) left ≡ flat_map shape_rows more
