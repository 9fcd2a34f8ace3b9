-- Reading a tile, with its first fault: Mapsforge Specification, Binary Map File Format, version 5, on tile header,
-- POIs and ways; the faults are this project's profile.
use Rattle.std.specs.Prelude.{◌≡◌, ℕ, zero, suc, ◌+◌, ◌-◌, ◌/◌, ◌%◌, ◌^◌, ◌<◌, ◌≤◌, nat_lt, nat_le, ◌==◌, if◌then◌else◌}
use Rattle.std.specs.Prelude.{Bool, true, false, IsTrue, ℤ, pos, negsuc, ◌+ℤ◌, ◌-ℤ◌, List, [], ◌∷◌, map, zip, length}
use Rattle.std.specs.Prelude.{take, drop, Option, IfSome, Result, Ok}
use Rattle.std.specs.List.{AllByRecursion}
use Rattle.std.specs.Str.{is_utf8}
use Rattle.std.specs.Int.{w8, w16, w32, cast_signed}
use Rattle.mf_base.specs.declared.place.Place.{Place}
use Rattle.mf_base.specs.declared.tile.Interval.{Interval}
use Rattle.mf_base.specs.declared.tile.TilePlace.{TilePlace}
use Rattle.mf_base.specs.NumberReading.{unsigned_front, signed_front}
use Rattle.feature_model.specs.Mapping.{IsOfKind, KeptValue, ValueKind}
use Rattle.feature_model.specs.Choice.{Kept}
use Rattle.mf_base.specs.Ranges.{is_signed_32, lies_within}
use Rattle.mf_base.specs.Steps.{fault_of, ◌>>=◌}
use Rattle.feature_model.specs.Features.{Block}
use Rattle.feature_model.specs.Inside.{Ring}
use Rattle.map_model.specs.declared.fault.TileKind.{TileKind}
use Rattle.map_model.specs.declared.fault.TileFault.{TileFault}
use Rattle.map_model.specs.Rectangles.{origin}
use Rattle.map_model.specs.Intervals.{zooms}
use Rattle.map_model.specs.Layout.{PoiFields, WayFields, Level, step, levels_bytes}
use Rattle.map_model.specs.TileBytes.{tile_corner}
use Rattle.map_model.specs.Listed.{Listed, shown_levels}
use Rattle.map_model.specs.TagLists.{TagLists, tag_kind, tag_at}
use Rattle.map_model.specs.Reader.{Stop, with_place, Read, want, or_stop, with_rest, fixed_number, times, read_each}
use Rattle.map_model.specs.Reader.{where_set}

-- a kind of fault at a place of a tile
abbrev pub tile_fault_at : ℕ → TileKind → TileFault
tile_fault_at at kind = record { at = at; kind = kind }

-- ---- Numbers, texts, places

-- an unsigned VBE number
unfoldable pub number : List ℕ → Read TileKind ℕ
number bytes = or_stop TileKind.Vbe bytes (with_rest bytes (unsigned_front bytes))

-- a signed VBE number
unfoldable pub signed : List ℕ → Read TileKind ℤ
signed bytes = or_stop TileKind.Vbe bytes (with_rest bytes (signed_front bytes))

-- a count of at least so many things
unfoldable pub count_from : ℕ → List ℕ → Read TileKind ℕ
count_from few bytes = do
  n ← number bytes
  enough ← want (nat_le few n.0) TileKind.Points bytes
  Ok n

-- a text: its length, and bytes that are UTF-8
unfoldable pub tile_text_at : List ℕ → Read TileKind (List ℕ)
tile_text_at bytes = do
  n ← number bytes
  whole ← want (nat_le n.0 (length n.1)) TileKind.Text bytes
  good ← want (is_utf8 (take n.0 n.1)) TileKind.Text bytes
  Ok (take n.0 n.1, drop n.0 n.1)

-- a number that with the base lies in 32 bits
unfoldable pub ranged : ℤ → List ℕ → Read TileKind ℤ
ranged base bytes = do
  d ← signed bytes
  fits ← want (is_signed_32 (base +ℤ d.0)) TileKind.Range bytes
  Ok (base +ℤ d.0, d.1)

-- a place, told by how far it is from another
unfoldable pub place_from : Place → List ℕ → Read TileKind Place
place_from base bytes = do
  lat ← ranged base.lat bytes
  lon ← ranged base.lon lat.1
  Ok (record { lat = lat.0; lon = lon.0 }, lon.1)

-- ---- tags

-- the layer, and the number of tags
unfoldable pub layer_at : List ℕ → Read TileKind (ℤ × ℕ)
layer_at bytes = do
  b ← fixed_number TileKind.Short 1 bytes
  fits ← want (nat_le (b.0 / 16) 10) TileKind.Range bytes
  Ok ((pos (b.0 / 16) -ℤ pos 5, b.0 % 16), b.1)

-- a tag id, which is below the list's count
unfoldable pub id_at : List (List ℕ) → List ℕ → Read TileKind ℕ
id_at tags bytes = do
  id ← number bytes
  known ← want (nat_lt id.0 (length tags)) TileKind.Tag bytes
  Ok id

-- the value of a tag of this kind
abbrev pub value_at : ValueKind → List ℕ → Read TileKind KeptValue
value_at ValueKind.plain bytes = Ok (KeptValue.plain, bytes)
value_at ValueKind.byte bytes = do
  n ← fixed_number TileKind.Short 1 bytes
  Ok (KeptValue.byte (cast_signed w8 n.0), n.1)
value_at ValueKind.short bytes = do
  n ← fixed_number TileKind.Short 2 bytes
  Ok (KeptValue.short (cast_signed w16 n.0), n.1)
value_at ValueKind.int bytes = do
  n ← fixed_number TileKind.Short 4 bytes
  Ok (KeptValue.int (cast_signed w32 n.0), n.1)
value_at ValueKind.text bytes = do
  t ← tile_text_at bytes
  Ok (KeptValue.text t.0, t.1)

-- the tag with this id, and its value
abbrev pub kept_at : List (List ℕ) → ℕ → List ℕ → Read TileKind Kept
kept_at tags id bytes = do
  value ← value_at (tag_kind (tag_at tags id)) bytes
  Ok (record { tag = id; value = value.0 }, value.1)

-- so many tags: all ids, then the values in their order
unfoldable pub tags_at : List (List ℕ) → ℕ → List ℕ → Read TileKind (List Kept)
tags_at tags count bytes = do
  ids ← times count (id_at tags) bytes
  read_each (kept_at tags) ids.0 ids.1

-- the flag with this bit is set
abbrev pub has_flag : ℕ → ℕ → Bool
has_flag flags bit = flags / bit % 2 == 1

-- ---- POI

-- a POI in a tile of this corner, with tags of this list
unfoldable pub poi_at : List (List ℕ) → Place → List ℕ → Read TileKind PoiFields
poi_at tags corner bytes = do
  place ← place_from corner bytes
  layer ← layer_at place.1
  kept ← tags_at tags layer.0.1 layer.1
  flags ← fixed_number TileKind.Short 1 kept.1
  name ← where_set (has_flag flags.0 0x80) tile_text_at flags.1
  house ← where_set (has_flag flags.0 0x40) tile_text_at name.1
  height ← where_set (has_flag flags.0 0x20) (ranged (pos 0)) house.1
  Ok (
    record {
      place = place.0;
      layer = layer.0.0;
      tags = kept.0;
      other = flags.0 % 32;
      name = name.0;
      house = house.0;
      height = height.0;
    },
    height.1,
  )

-- ---- way

-- a place, moved by a step
abbrev pub moved : Place → Place → Place
moved a s = record { lat = a.lat +ℤ s.lat; lon = a.lon +ℤ s.lon }

-- the places after one, the last step before it being known
unfoldable pub places_after : Bool → ℕ → Place → Place → List ℕ → Read TileKind (Ring)
places_after double zero before last bytes = Ok ([], bytes)
places_after double (suc n) before last bytes = do
  p ← place_from (if double then moved before last else before) bytes
  others ← places_after double n p.0 (step before p.0) p.1
  Ok (p.0 ∷ others.0, others.1)

-- a ring: two places at least, the first told by how far it is from the corner
unfoldable pub ring_at : Place → Bool → List ℕ → Read TileKind (Ring)
ring_at corner double bytes = do
  n ← count_from 2 bytes
  first ← place_from corner n.1
  others ← places_after double (n.0 - 1) first.0 origin first.1
  Ok (first.0 ∷ others.0, others.1)

-- a data block: one ring at least
unfoldable pub block_at : Place → Bool → List ℕ → Read TileKind (Block)
block_at corner double bytes = do
  n ← count_from 1 bytes
  times n.0 (ring_at corner double) n.1

-- the number of data blocks, which is 1 where it is not told
abbrev pub block_count_at : Bool → List ℕ → Read TileKind ℕ
block_count_at true bytes = count_from 1 bytes
block_count_at false bytes = Ok (1, bytes)

-- the data blocks of a way: one at least
unfoldable pub blocks_at : Place → Bool → Bool → List ℕ → Read TileKind (List Block)
blocks_at corner counted double bytes = do
  n ← block_count_at counted bytes
  times n.0 (block_at corner double) n.1

-- the first place of the first ring, which needs every field before it
unfoldable pub first_place_at : Place → Bool → List ℕ → Read TileKind Place
first_place_at corner counted bytes = do
  blocks ← block_count_at counted bytes
  rings ← count_from 1 blocks.1
  places ← count_from 2 rings.1
  place_from corner places.1

-- two signed numbers
unfoldable pub two_signed : List ℕ → Read TileKind (ℤ × ℤ)
two_signed bytes = do
  lat ← signed bytes
  lon ← signed lat.1
  Ok ((lat.0, lon.0), lon.1)

-- The label's numbers are read in their place; whether its place is in range is known with the first place of the first
-- ring,
-- and then it comes before what stands behind that place.
unfoldable pub label_and_blocks_at : Place → ℕ → List ℕ → Read TileKind (Option Place × List Block)
label_and_blocks_at corner flags bytes = do
  numbers ← where_set (has_flag flags 0x10) two_signed bytes
  first ← first_place_at corner (has_flag flags 0x08) numbers.1
  label ← where_set (has_flag flags 0x10) (place_from first.0) bytes
  blocks ← blocks_at corner (has_flag flags 0x08) (has_flag flags 0x04) numbers.1
  Ok ((label.0, blocks.0), blocks.1)

-- the fields of a way behind its data size
unfoldable pub way_body_at : List (List ℕ) → Place → List ℕ → Read TileKind WayFields
way_body_at tags corner bytes = do
  bits ← fixed_number TileKind.Short 2 bytes
  layer ← layer_at bits.1
  kept ← tags_at tags layer.0.1 layer.1
  flags ← fixed_number TileKind.Short 1 kept.1
  name ← where_set (has_flag flags.0 0x80) tile_text_at flags.1
  house ← where_set (has_flag flags.0 0x40) tile_text_at name.1
  reference ← where_set (has_flag flags.0 0x20) tile_text_at house.1
  rest ← label_and_blocks_at corner flags.0 reference.1
  Ok (
    record {
      bits = bits.0;
      layer = layer.0.0;
      tags = kept.0;
      other = flags.0 % 4;
      name = name.0;
      house = house.0;
      reference = reference.0;
      label = rest.0.0;
      counted = has_flag flags.0 0x08;
      double = has_flag flags.0 0x04;
      blocks = rest.0.1;
    },
    rest.1,
  )

-- a way, whose fields take the data size that stands before them
unfoldable pub way_at : List (List ℕ) → Place → List ℕ → Read TileKind WayFields
way_at tags corner bytes = do
  told ← number bytes
  way ← way_body_at tags corner told.1
  fits ← want (told.0 + length way.1 == length told.1) TileKind.Size bytes
  Ok way

-- ---- tile

-- the numbers of POIs and of ways of one zoom level
unfoldable pub counts_at : List ℕ → Read TileKind (ℕ × ℕ)
counts_at bytes = do
  pois ← number bytes
  ways ← number pois.1
  Ok ((pois.0, ways.0), ways.1)

-- the POIs and the ways of one zoom level
abbrev pub level_of : List PoiFields × List WayFields → Level
level_of parts = record { pois = parts.0; ways = parts.1 }

-- a tile: the zoom table, the first-way offset, the POIs, the ways, and nothing after them
unfoldable pub levels_at : TagLists → Interval → Place → List ℕ → Result (List Level) (Stop TileKind)
levels_at names interval corner bytes = do
  counts ← times (length (zooms interval)) counts_at bytes
  told ← number counts.1
  pois ← read_each (λ c. times c.0 (poi_at names.poi corner)) counts.0 told.1
  fits ← want (told.0 + length pois.1 == length told.1) TileKind.Offset counts.1
  ways ← read_each (λ c. times c.1 (way_at names.way corner)) counts.0 pois.1
  nothing ← want (length ways.1 == 0) TileKind.Left ways.1
  Ok (map level_of (zip pois.0 ways.0))

-- the records of a tile; empty bytes are a tile without members
abbrev pub shown_at : TagLists → Interval → Place → List ℕ → Result (List Listed) (Stop TileKind)
shown_at names interval corner [] = Ok []
shown_at names interval corner (b ∷ bytes) = do
  levels ← levels_at names interval corner (b ∷ bytes)
  Ok (shown_levels names interval levels)

-- the records of a tile with this corner, or the first field without a spelling
unfoldable pub read_tile_from : Place → TagLists → Interval → List ℕ → Result (List Listed) TileFault
read_tile_from corner names interval bytes =
    with_place tile_fault_at (length bytes) (shown_at names interval corner bytes)

-- the records of a tile in order, or the first field without a spelling
unfoldable pub read_tile : TagLists → TilePlace → List ℕ → Result (List Listed) TileFault
read_tile names tile bytes = read_tile_from (tile_corner tile) names tile.interval bytes

-- the first field without a spelling
unfoldable pub tile_fault : TagLists → TilePlace → List ℕ → Option TileFault
tile_fault names tile bytes = fault_of (read_tile names tile bytes)

-- ---- the grammar

-- a text: UTF-8, and a length that has a spelling
abbrev pub IsText : List ℕ → Type 0
IsText bytes = (length bytes < 2 ^ 63) × IsTrue (is_utf8 bytes)

-- a place whose latitude and longitude are numbers of 32 bits
abbrev pub IsPlaceOf32Bits : Place → Type 0
IsPlaceOf32Bits p = IsTrue (is_signed_32 p.lat) × IsTrue (is_signed_32 p.lon)

-- a tag of the list, with a value of its kind
abbrev pub IsKeptOf : List (List ℕ) → Kept → Type 0
IsKeptOf tags k = (k.tag < length tags) × (k.tag < 2 ^ 63) × IsOfKind IsText (tag_kind (tag_at tags k.tag)) k.value

-- what a POI can tell: tags in any order, and unnamed flag bits
pub record IsPoi (tags : List (List ℕ)) (p : PoiFields) : Type 0 where
  pub place : IsPlaceOf32Bits p.place
  pub layer : IsTrue (lies_within (negsuc 4) (pos 5) p.layer)
  pub few : length p.tags < 16
  pub kept : AllByRecursion (IsKeptOf tags) p.tags
  pub other : p.other < 32
  pub name : IfSome p.name IsText
  pub house : IfSome p.house IsText
  pub height : IfSome p.height (λ n. IsTrue (is_signed_32 n))

-- a ring has two places at least
abbrev pub IsToldRing : Ring → Type 0
IsToldRing ring = (2 ≤ length ring) × (length ring < 2 ^ 63) × AllByRecursion IsPlaceOf32Bits ring

-- a data block has one ring at least
abbrev pub IsToldBlock : Block → Type 0
IsToldBlock rings = (1 ≤ length rings) × (length rings < 2 ^ 63) × AllByRecursion IsToldRing rings

-- what a way can tell: besides, any bitmap, either delta kind, and any number of data blocks from 1 where it is told
pub record IsWay (tags : List (List ℕ)) (w : WayFields) : Type 0 where
  pub bits : w.bits < 2 ^ 16
  pub layer : IsTrue (lies_within (negsuc 4) (pos 5) w.layer)
  pub few : length w.tags < 16
  pub kept : AllByRecursion (IsKeptOf tags) w.tags
  pub other : w.other < 4
  pub name : IfSome w.name IsText
  pub house : IfSome w.house IsText
  pub reference : IfSome w.reference IsText
  pub label : IfSome w.label IsPlaceOf32Bits
  pub single : w.counted ≡ false → length w.blocks ≡ 1
  pub counted : (1 ≤ length w.blocks) × (length w.blocks < 2 ^ 63)
  pub blocks : AllByRecursion IsToldBlock w.blocks

-- what one zoom level can tell
pub record IsLevel (names : TagLists) (level : Level) : Type 0 where
  pub pois : AllByRecursion (IsPoi names.poi) level.pois
  pub ways : AllByRecursion (IsWay names.way) level.ways
  pub counts : (length level.pois < 2 ^ 63) × (length level.ways < 2 ^ 63)

-- the bytes are a tile that tells these levels, one for read_each zoom level of the interval
pub record SpellsLevels (names : TagLists) (interval : Interval) (corner : Place) (bytes : List ℕ)
    (levels : List Level) : Type 0 where
  pub each : AllByRecursion (IsLevel names) levels
  pub all : length levels ≡ length (zooms interval)
  pub spelt : bytes ≡ levels_bytes corner levels
  pub small : length bytes < 2 ^ 63

-- the bytes spell these records
abbrev pub ReadsTile : TagLists → TilePlace → List ℕ → List Listed → Type 0
ReadsTile names tile [] shown = shown ≡ []
ReadsTile names tile (b ∷ bytes) shown =
    (levels : List Level) × SpellsLevels names tile.interval (tile_corner tile) (b ∷ bytes) levels
    × (shown ≡ shown_levels names tile.interval levels)
