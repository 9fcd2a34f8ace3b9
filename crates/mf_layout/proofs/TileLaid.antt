-- A tile that was loaded is laid out.
use Rattle.std.proofs.Common.{◌≡◌, ℕ, ◌≤◌, List, [], ◌∷◌, map}
use Rattle.std.proofs.Common.{arith}
use Rattle.mf_base.specs.declared.tile.TilePlace.{TilePlace}
use Rattle.mf_base.proofs.Pairs.{each_pair, all_pairs}
use Rattle.map_model.specs.NumberedMembers.{TileBelow}
use Rattle.map_model.specs.Room.{rows_limit}
use Rattle.mf_rows.specs.Desks.{Desktop}
use Rattle.mf_rows.specs.declared.kinds.TileRow.{TileRow}
use Rattle.spill_parts.specs.Shaped.{Spelled}
use Rattle.tile_body.specs.Members.{HoldsMembers}
use Rattle.tile_body.specs.Tiles.{features_told}
use Rattle.tile_rows.specs.TileRows.{shown}
use Rattle.tile_load.specs.Loading.{IsLoaded}
use Rattle.tile_load.specs.declared.load.LoadedTile.{LoadedTile}
use Rattle.mf_layout.specs.Laying.{AreToLay, AreDone}
use Rattle.mf_layout.proofs.LaidOut.{one-within}
use Rattle.mf_layout.proofs.Shown.{features-are, holds-members}

module _ (limit : ℕ) (list : List Spelled) (tile : TilePlace) (later : List TilePlace) (rows left : List TileRow)
    (l : LoadedTile) (d : Desktop) (room : d.capacity ≡ limit) (to_lay : AreToLay limit list (tile ∷ later) rows)
    (loaded : IsLoaded list tile later l left d) where
  -- it is the tile of the features, and the rows of the later tiles are left
  pub tile-done : l.weight ≤ limit → AreDone limit list (tile ∷ []) later left
      (record { place = tile; weight = l.weight; members = features_told d.records } ∷ [])
  tile-done fits =
      let weight = loaded.weight_is in
      let members = features-are list tile d.records (loaded.members_are (omega (arith, fits, room))) in
      record {
        done_are = λ i. record { place = tile; weight = weight i; members = members i } ∷ [];
        no_fault = one-within limit (map shown list) tile (omega (arith, fits, weight));
        to_lay = record {
          left = record {
            light = to_lay.left.light;
            few = to_lay.left.few;
            order = all_pairs TileBelow later (each_pair TileBelow (tile ∷ later) to_lay.left.order).1;
            rows_are = loaded.left_are;
          };
          mapping = to_lay.mapping;
          is_mapping = to_lay.is_mapping;
          may_show = to_lay.may_show;
        };
      }

  -- its records are what it is encoded from
  pub tile-holds : limit ≤ rows_limit → l.weight ≤ limit → HoldsMembers tile d
  tile-holds few fits =
      holds-members limit to_lay.mapping to_lay.is_mapping few list tile d to_lay.left.light to_lay.may_show room
      (loaded.members_are (omega (arith, fits, room)))
