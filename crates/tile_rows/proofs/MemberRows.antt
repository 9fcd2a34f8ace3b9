-- Whose rows a tile has.
use Rattle.std.proofs.Common.{◌≡◌, List, map, refl}
use Rattle.mf_base.specs.declared.tile.TilePlace.{TilePlace}
use Rattle.map_model.specs.Members.{members}
use Rattle.map_model.specs.NumberedMembers.{members_by}
use Rattle.map_model.proofs.NumberedMembers.{members-shown}
use Rattle.mf_rows.specs.declared.kinds.TileRow.{TileRow}
use Rattle.spill_parts.specs.Shaped.{Spelled}
use Rattle.unit_rows.proofs.RunsOf.{rows-units}
use Rattle.tile_rows.specs.TileRows.{shown, unit_row, member_rows}

pub members-are : (list : List Spelled) (tile : TilePlace)
    → map shown (members_by shown list tile) ≡ members (map shown list) tile
members-are list tile = members-shown shown (λ s. s.told.head.number) list tile

pub units-are : (tile : TilePlace) (s : Spelled) → map (λ (r : TileRow). r.unit) (member_rows tile s) ≡ s.units
unfolding member_rows
units-are tile s = rows-units (unit_row tile s) (λ r. r.unit) (λ n u. refl) s.units
