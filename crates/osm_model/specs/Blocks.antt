-- Header blocks, string tables and places: the OpenStreetMap wiki, "PBF Format", on HeaderBlock and PrimitiveBlock.
-- What a box has to be, the limit on strings, that strings are UTF-8, and the order in which faults are looked for, is
-- this project's profile.
use Rattle.std.specs.Prelude.{ℕ, Bool, not, ◌&&◌, ◌||◌, nat_le, List, length, Option, Some, None, option_map, ok_or}
use Rattle.std.specs.Prelude.{unwrap_or, position, Result, Ok, ℤ, pos, ◌+ℤ◌, ◌*ℤ◌, int_le, int_div, nat_abs, codes}
use Rattle.std.specs.Prelude.{bytes_eq}
use Rattle.std.specs.List.{list_all}
use Rattle.std.specs.Str.{is_utf8}
use Rattle.mf_base.specs.declared.place.Place.{Place}
use Rattle.mf_base.specs.declared.place.Rect.{Rect}
use Rattle.mf_base.specs.Steps.{◌>>=◌, require, refuse, told_as}
use Rattle.mf_base.specs.Spelling.{unzigzag_of}
use Rattle.osm_model.specs.declared.numbers.TheConstants.{HEADER_BLOCK_BBOX, HEADER_BLOCK_REQUIRED_FEATURES, BBOX_LEFT}
use Rattle.osm_model.specs.declared.numbers.TheConstants.{BBOX_RIGHT, BBOX_TOP, BBOX_BOTTOM, BLOCK_STRINGTABLE}
use Rattle.osm_model.specs.declared.numbers.TheConstants.{BLOCK_PRIMITIVEGROUP, BLOCK_GRANULARITY, BLOCK_LAT_OFFSET}
use Rattle.osm_model.specs.declared.numbers.TheConstants.{BLOCK_LON_OFFSET, STRINGTABLE_S}
use Rattle.osm_model.specs.declared.limits.TheConstants.{STRINGS_LIMIT, LATITUDE_LIMIT, LONGITUDE_LIMIT}
use Rattle.osm_model.specs.declared.tables.TheConstants.{HEADER_BLOCK, HEADER_BBOX, PRIMITIVE_BLOCK, STRING_TABLE}
use Rattle.osm_model.specs.declared.faults.BlockFault.{BlockFault}
use Rattle.osm_model.specs.declared.faults.BlockFault.TheVariants.{BadBox, Wire, RequiredFeature, TooManyStrings}
use Rattle.osm_model.specs.declared.faults.BlockFault.TheVariants.{NotText, NoStrings}
use Rattle.osm_model.specs.Wire.{Field, int64}
use Rattle.osm_model.specs.Tables.{message, once_of, bytes_of, number_of}

-- ---- places

-- the nanodegrees lie within the limit on both sides of 0
abbrev pub keeps_limit : ℕ → ℤ → Bool
keeps_limit limit nano = nat_le (nat_abs nano) limit

-- the microdegrees of nanodegrees, rounded towards zero
abbrev pub micro : ℤ → ℤ
micro nano = int_div nano (pos 1000)

-- What a PrimitiveBlock says of its coordinates, in nanodegrees.
pub record BlockHead : Type 0 where
  pub granularity : ℤ
  pub lat_offset : ℤ
  pub lon_offset : ℤ

-- the nanodegrees of a stored number: the offset, and granularity times the number
abbrev pub nano : ℤ → ℤ → ℤ → ℤ
nano offset granularity stored = offset +ℤ granularity *ℤ stored

-- the nanodegrees of a stored latitude
abbrev pub lat_nano : BlockHead → ℤ → ℤ
lat_nano head lat = nano head.lat_offset head.granularity lat

-- the nanodegrees of a stored longitude
abbrev pub lon_nano : BlockHead → ℤ → ℤ
lon_nano head lon = nano head.lon_offset head.granularity lon

-- the stored latitude and longitude lie on the earth
abbrev pub is_coordinate : BlockHead → ℤ → ℤ → Bool
is_coordinate head lat lon =
    keeps_limit LATITUDE_LIMIT (lat_nano head lat) && keeps_limit LONGITUDE_LIMIT (lon_nano head lon)

-- The place of a stored latitude and longitude, in microdegrees.
unfoldable pub place_of : BlockHead → ℤ → ℤ → Place
place_of head lat lon = record { lat = micro (lat_nano head lat); lon = micro (lon_nano head lon) }

-- ---- the HeaderBlock

-- the sides of a box, left, right, top and bottom in nanodegrees, are on the earth, left not above right and bottom not
-- above top
abbrev pub are_sides : ℤ → ℤ → ℤ → ℤ → Bool
are_sides left right top bottom =
    keeps_limit LONGITUDE_LIMIT left && keeps_limit LONGITUDE_LIMIT right && keeps_limit LATITUDE_LIMIT top
    && keeps_limit LATITUDE_LIMIT bottom
    && int_le left right && int_le bottom top

-- the side of a HeaderBBox in the field with this number, in nanodegrees
abbrev pub side : ℕ → List Field → Result ℤ BlockFault
side k sides = ok_or (option_map unzigzag_of (number_of k sides)) BadBox

-- the box of a HeaderBBox, in microdegrees, or its first fault
unfoldable pub box_in : List ℕ → Result Rect BlockFault
box_in bytes = do
  sides ← told_as Wire (message HEADER_BBOX bytes)
  left ← side BBOX_LEFT sides
  right ← side BBOX_RIGHT sides
  top ← side BBOX_TOP sides
  bottom ← side BBOX_BOTTOM sides
  _ ← require (are_sides left right top bottom) BadBox
  Ok (record { min_lat = micro bottom; min_lon = micro left; max_lat = micro top; max_lon = micro right })

-- the box of a bbox, where there is one, or its first fault
abbrev pub box_where : Option (List ℕ) → Result (Option Rect) BlockFault
box_where None = Ok None
box_where (Some bytes) = do
  box ← box_in bytes
  Ok (Some box)

-- this project knows the required feature
abbrev pub is_known_feature : List ℕ → Bool
is_known_feature feature = bytes_eq feature (codes "OsmSchema-V0.6") || bytes_eq feature (codes "DenseNodes")

-- The box of a HeaderBlock, where it has one, or its first fault.
unfoldable pub header_box : List ℕ → Result (Option Rect) BlockFault
header_box raw = do
  fs ← told_as Wire (message HEADER_BLOCK raw)
  box ← box_where (once_of HEADER_BLOCK_BBOX fs)
  _ ← require (list_all is_known_feature (bytes_of HEADER_BLOCK_REQUIRED_FEATURES fs)) RequiredFeature
  Ok box

-- ---- the head and the strings of a PrimitiveBlock

-- the entries of a StringTable, or its first fault
unfoldable pub strings_in : List ℕ → Result (List (List ℕ)) BlockFault
strings_in table = do
  fs ← told_as Wire (message STRING_TABLE table)
  let strings = bytes_of STRINGTABLE_S fs
  _ ← require (nat_le (length strings) STRINGS_LIMIT) TooManyStrings
  _ ← refuse (option_map NotText (position (λ entry. not (is_utf8 entry)) strings))
  Ok strings

-- the strings of a PrimitiveBlock with these fields, or the first fault up to them
abbrev pub strings_of : List Field → Result (List (List ℕ)) BlockFault
strings_of fs = ok_or (once_of BLOCK_STRINGTABLE fs) NoStrings >>= strings_in

-- the granularity and the offsets of a PrimitiveBlock with these fields: where they are absent 100, 0 and 0 nanodegrees
abbrev pub block_head_of : List Field → BlockHead
block_head_of fs = record {
  granularity = int64 (unwrap_or (number_of BLOCK_GRANULARITY fs) 100);
  lat_offset = int64 (unwrap_or (number_of BLOCK_LAT_OFFSET fs) 0);
  lon_offset = int64 (unwrap_or (number_of BLOCK_LON_OFFSET fs) 0);
}

-- What a PrimitiveBlock has besides its objects.
pub record PrimitiveBlock : Type 0 where
  pub head : BlockHead
  pub strings : List (List ℕ)
  pub groups : List (List ℕ)

-- A PrimitiveBlock, or its first fault before its groups.
unfoldable pub block : List ℕ → Result PrimitiveBlock BlockFault
block raw = do
  fs ← told_as Wire (message PRIMITIVE_BLOCK raw)
  strings ← strings_of fs
  Ok (record { head = block_head_of fs; strings = strings; groups = bytes_of BLOCK_PRIMITIVEGROUP fs })

-- The head of a PrimitiveBlock, or the first fault of its message.
unfoldable pub block_head : List ℕ → Result BlockHead BlockFault
block_head raw = told_as Wire (message PRIMITIVE_BLOCK raw) >>= λ fs. Ok (block_head_of fs)

-- The strings of a PrimitiveBlock, or the first fault up to them.
unfoldable pub block_strings : List ℕ → Result (List (List ℕ)) BlockFault
block_strings raw = told_as Wire (message PRIMITIVE_BLOCK raw) >>= strings_of
