-- A tile is read: how it begins and how it ends.
use Rattle.std.proofs.Common.{◌≡◌, ℕ, Bool, true, false, List, [], ◌∷◌, ◌++◌, Option, Some, None}
use Rattle.std.proofs.Common.{refl, sym, ap, ◌∙◌, arith}
use Rattle.std.specs.Prelude.{IsSome}
use Rattle.std.proofs.lemmas.List.{append-nil}
use Rattle.mf_base.specs.declared.tile.TilePlace.{TilePlace}
use Rattle.map_model.specs.NumberedMembers.{members_by}
use Rattle.mf_rows.specs.Desks.{Desktop, units_in}
use Rattle.mf_rows.specs.Records.{Record}
use Rattle.mf_rows.specs.declared.kinds.TileRow.{TileRow}
use Rattle.spill_parts.specs.Join.{rest_of}
use Rattle.spill_parts.specs.Shaped.{Spelled}
use Rattle.tile_rows.specs.TileRows.{shown}
use Rattle.tile_rows.specs.Reading.{rows_from}
use Rattle.tile_rows.proofs.RowCount.{weight-told}
use Rattle.tile_rows.proofs.RowReading.{at_tile, past_tile, tile-ends, rows-end}
use Rattle.tile_load.specs.declared.load.LoadedTile.{LoadedTile}
use Rattle.tile_load.specs.Loading.{AreLeft, AreRead, IsLoaded, holds_row_of, weight_of, told_of}

-- before the first member
pub none-read : (limit : ℕ) (list : List Spelled) (tile : TilePlace) (later : List TilePlace) (rows : List TileRow)
    (records : List Record) → records ≡ [] → AreLeft limit list (tile ∷ later) rows
    → AreRead limit list tile later 0 rows records
none-read limit list tile later rows records none left = record {
  light = left.light;
  few = left.few;
  order = left.order;
  done = [];
  more = members_by shown list tile;
  members_are = refl;
  rows_are = left.rows_are ∙ at_tile list tile later;
  weight_is = refl;
  records_are = λ within. none;
  units_are = λ within. let empty : units_in records ≡ 0 = ap units_in none in omega (arith, empty);
}

-- no row of the tile is left
none-more : (list : List Spelled) (tile : TilePlace) (later : List TilePlace) (more : List Spelled)
    (held : Option TileRow) (left : List TileRow) → holds_row_of tile held ≡ false
    → rest_of held left ≡ rows_from list tile more later → more ≡ []
none-more list tile later more None left off is = rows-end list tile more later is
none-more list tile later more (Some row) left off is = tile-ends list tile more later row left is off

-- behind the last member
pub all-read : (limit : ℕ) (list : List Spelled) (tile : TilePlace) (later : List TilePlace) (l : LoadedTile)
    (left : List TileRow) (d : Desktop) → d.capacity ≡ limit → holds_row_of tile l.next ≡ false
    → AreRead limit list tile later l.weight (rest_of l.next left) d.records
    → IsLoaded list tile later l (rest_of l.next left) d
all-read limit list tile later l left d room off read =
    let none : read.more ≡ [] = none-more list tile later read.more l.next left off read.rows_are in
    let all : read.done ≡ members_by shown list tile =
    sym (read.members_are ∙ ap (λ ms. read.done ++ ms) none ∙ append-nil read.done) in
    record {
      left_are = read.rows_are ∙ ap (λ ms. rows_from list tile ms later) none ∙ past_tile list tile later;
      weight_is = read.weight_is ∙ ap weight_of all ∙ sym (weight-told list tile);
      members_are = λ within. read.records_are (omega (arith, within, room)) ∙ ap told_of all;
    }

-- a row that is of a tile is held
pub is-held : (tile : TilePlace) (held : Option TileRow) → holds_row_of tile held ≡ true → IsSome held
is-held tile None of = absurd (cc of)
is-held tile (Some row) of = refl

-- the store does not tell
pub untold : (tells : Bool) → (tells ≡ true → ⊥) → tells ≡ false
untold true not = absurd (not refl)
untold false not = refl
