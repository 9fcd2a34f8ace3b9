-- What a desk holds when a tile is encoded from it: this project's profile.
use Rattle.std.specs.Prelude.{◌^◌, ◌-◌, ◌<◌, ◌≤◌, List, map, length, slice_get, Option, IsTrue, IfSome}
use Rattle.std.specs.List.{AllByRecursion}
use Rattle.mf_base.specs.Ranges.{is_on_earth, is_signed_32}
use Rattle.mf_base.specs.declared.tile.Interval.{Interval}
use Rattle.mf_base.specs.declared.tile.TilePlace.{TilePlace}
use Rattle.feature_model.specs.Proper.{IsLayer, AllPlaces}
use Rattle.map_model.specs.Room.{rows_limit, IsShort, IsKeptShort}
use Rattle.map_model.specs.Members.{StandsBefore, StandInOrder}
use Rattle.mf_rows.specs.Desks.{Desktop}
use Rattle.mf_rows.specs.Records.{Record, text_in}
use Rattle.mf_rows.specs.Shapes.{shape_told, feature_told, IsFeature}
use Rattle.mf_rows.specs.declared.head.TextSlot.TheVariants.{Name, House, Reference}
use Rattle.tile_body.specs.Tags.{tags_told}

-- A tile that may be encoded: a base of at most 16, a minimum of at most the maximum, a maximum of at most 21, and a
-- column and a row of the base.
pub record IsTile (tile : TilePlace) : Type 0 where
  pub base : tile.interval.base ≤ 16
  pub range : tile.interval.min ≤ tile.interval.max
  pub top : tile.interval.max ≤ 21
  pub column : tile.x < 2 ^ tile.interval.base
  pub row : tile.y < 2 ^ tile.interval.base

-- A record whose head and texts may be spelled: a layer in -5..5, a height of 32 bits, at most fifteen tags with ids
-- below 4,096, and texts of at most 1,020 bytes.
pub record IsSpelled (r : Record) : Type 0 where
  pub layer : IsLayer r.head.layer
  pub height : IfSome r.head.height (λ z. IsTrue (is_signed_32 z))
  pub few : length r.head.tags.items ≤ 15
  pub kept : AllByRecursion IsKeptShort (tags_told r)
  pub name : IfSome (text_in r.texts Name) IsShort
  pub house : IfSome (text_in r.texts House) IsShort
  pub reference : IfSome (text_in r.texts Reference) IsShort

-- A record that may be a member of a tile: a feature on the earth, whose head and texts may be spelled.
pub record IsMember (r : Record) : Type 0 where
  pub feature : IsFeature r
  pub places : AllPlaces (λ p. IsTrue (is_on_earth p)) (shape_told r)
  pub spelled : IsSpelled r

-- A desk holds the members of a tile in order: each zoom level is at most the maximum, POIs stand before ways, and each
-- of the two goes by effective zoom. It has at most as many rows as any desk.
pub record HoldsMembers (tile : TilePlace) (d : Desktop) : Type 0 where
  pub room : d.capacity ≤ rows_limit
  pub each : AllByRecursion IsMember d.records
  pub order : StandInOrder tile.interval (map feature_told d.records)

-- the last of some records, where there is one
abbrev pub last_of : List Record → Option Record
last_of records = slice_get records (length records - 1)

-- A record may be the next member of a tile behind others: its zoom level is at most the maximum, and the last of the
-- others, where there is one, stands before it.
pub record IsNext (interval : Interval) (others : List Record) (r : Record) : Type 0 where
  pub member : IsMember r
  pub low : r.head.zoom ≤ interval.max
  pub behind : IfSome (last_of others) (λ (q : Record). StandsBefore interval (feature_told q) (feature_told r))
