-- The bytes of a POI, a way and a tile: Mapsforge Specification, Binary Map File Format, version 5, on tile header,
-- POIs and ways; variable values are this project's profile. Places are in microdegrees.
use Rattle.std.specs.Prelude.{ℕ, map, zip, ◌+◌, ◌*◌, if◌then◌else◌, Bool, ℤ, pos, ◌+ℤ◌, ◌-ℤ◌, List, [], ◌∷◌, ◌++◌}
use Rattle.std.specs.Prelude.{flat_map, length, Option, Some, None, is_some}
use Rattle.std.specs.Int.{w8, w16, w32, cast_unsigned}
use Rattle.mf_base.specs.Spelling.{vbe_unsigned, vbe_signed, string, big_endian}
use Rattle.mf_base.specs.declared.place.Place.{Place}
use Rattle.feature_model.specs.Features.{Block}
use Rattle.feature_model.specs.Inside.{Ring}
use Rattle.feature_model.specs.Mapping.{KeptValue}
use Rattle.feature_model.specs.Choice.{Kept}
use Rattle.map_model.specs.Numbers.{above_zero}
use Rattle.map_model.specs.Rectangles.{origin, first_place}

-- What the bytes of a POI tell, in the order of their fields. `other` are the flag bits that have no name.
pub record PoiFields : Type 0 where
  pub place : Place
  pub layer : ℤ
  pub tags : List Kept
  pub other : ℕ
  pub name : Option (List ℕ)
  pub house : Option (List ℕ)
  pub height : Option ℤ

-- What the bytes of a way tell. `counted` says that the number of data blocks stands there, `double` that the places
-- are under double delta.
pub record WayFields : Type 0 where
  pub bits : ℕ
  pub layer : ℤ
  pub tags : List Kept
  pub other : ℕ
  pub name : Option (List ℕ)
  pub house : Option (List ℕ)
  pub reference : Option (List ℕ)
  pub label : Option Place
  pub counted : Bool
  pub double : Bool
  pub blocks : List Block

-- what a tile tells of one zoom level
pub record Level : Type 0 where
  pub pois : List PoiFields
  pub ways : List WayFields

-- ---- parts of both

-- a field that stands only where it is there
abbrev pub optional : {X : Type 0} → (X → List ℕ) → Option X → List ℕ
optional bytes None = []
optional bytes (Some x) = bytes x

-- the length of a part in bytes, then the part
unfoldable pub sized : List ℕ → List ℕ
sized part = vbe_unsigned (length part) ++ part

-- a bit, where it is set
abbrev pub flag : Bool → ℕ → ℕ
flag set bit = if set then bit else 0

-- one byte: layer + 5 in the high half, the number of tags in the low half
abbrev pub layer_byte : ℤ → ℕ → ℕ
layer_byte layer tags = 16 * above_zero (layer +ℤ pos 5) + tags

-- a variable value: a number of one, two or four bytes in two's complement, the highest first, or a string; a plain tag
-- has none
abbrev pub value_bytes : KeptValue → List ℕ
value_bytes KeptValue.plain = []
value_bytes (KeptValue.byte n) = big_endian 1 (cast_unsigned w8 n)
value_bytes (KeptValue.short n) = big_endian 2 (cast_unsigned w16 n)
value_bytes (KeptValue.int n) = big_endian 4 (cast_unsigned w32 n)
value_bytes (KeptValue.text bytes) = string bytes

-- layer and number of tags, the tag ids, then the variable values in the same order
unfoldable pub tag_bytes : ℤ → List Kept → List ℕ
tag_bytes layer tags =
    layer_byte layer (length tags) ∷ flat_map (λ k. vbe_unsigned k.tag) tags ++ flat_map (λ k. value_bytes k.value) tags

-- how far b is from a, in latitude and in longitude
abbrev pub step : Place → Place → Place
step a b = record { lat = b.lat -ℤ a.lat; lon = b.lon -ℤ a.lon }

-- two signed VBE numbers, latitude before longitude
abbrev pub step_bytes : Place → List ℕ
step_bytes s = vbe_signed s.lat ++ vbe_signed s.lon

-- ---- POI

-- the flags of a POI: 0x80 name, 0x40 house number, 0x20 elevation
abbrev pub poi_flags : PoiFields → ℕ
poi_flags p = flag (is_some p.name) 0x80 + flag (is_some p.house) 0x40 + flag (is_some p.height) 0x20 + p.other

-- a POI: its place less the corner, layer and tags, the flags, then the fields that are there
unfoldable pub poi_fields_bytes : Place → PoiFields → List ℕ
poi_fields_bytes corner p =
    step_bytes (step corner p.place) ++ tag_bytes p.layer p.tags ++ poi_flags p ∷ optional string p.name
    ++ optional string p.house ++ optional vbe_signed p.height

-- ---- way

-- each place less the one before, the first less the place before them all
abbrev pub steps_from : Place → Ring → Ring
steps_from before ps = map (λ at. step at.0 at.1) (zip (before ∷ ps) ps)

-- under double delta each step after the first is written less the step before it, the first one counting as 0
abbrev pub doubled : Ring → Ring
doubled [] = []
doubled (first ∷ steps) = first ∷ steps_from origin steps

-- what is written of a ring's places
unfoldable pub ring_steps : Place → Bool → Ring → Ring
ring_steps corner double ring = if double then doubled (steps_from corner ring) else steps_from corner ring

-- the places of a ring under single or double delta
unfoldable pub coordinate_bytes : Place → Bool → Ring → List ℕ
coordinate_bytes corner double ring = flat_map step_bytes (ring_steps corner double ring)

-- a ring: the number of its places, then the places
unfoldable pub ring_bytes : Place → Bool → Ring → List ℕ
ring_bytes corner double ring = vbe_unsigned (length ring) ++ coordinate_bytes corner double ring

-- a data block: the number of its rings, then the rings
unfoldable pub block_bytes : Place → Bool → Block → List ℕ
block_bytes corner double rings = vbe_unsigned (length rings) ++ flat_map (ring_bytes corner double) rings

-- the flags of a way: 0x80 name, 0x40 house number, 0x20 reference, 0x10 label, 0x08 number of data blocks, 0x04 double
-- delta
abbrev pub way_flags : WayFields → ℕ
way_flags w = flag (is_some w.name) 0x80 + flag (is_some w.house) 0x40 + flag (is_some w.reference) 0x20
    + flag (is_some w.label) 0x10 + flag w.counted 0x08 + flag w.double 0x04 + w.other

-- the first place of the first ring
abbrev pub first_of_blocks : List Block → Place
first_of_blocks blocks = first_place (flat_map (λ rings. flat_map (λ ring. ring) rings) blocks)

-- The fields after the data size: the sub-tile bitmap, layer and tags, the flags, the fields that are there, the data
-- blocks. The label is its place less the first place of the first ring.
unfoldable pub way_body_bytes : Place → WayFields → List ℕ
way_body_bytes corner w =
    big_endian 2 w.bits ++ tag_bytes w.layer w.tags ++ way_flags w ∷ optional string w.name ++ optional string w.house
    ++ optional string w.reference
    ++ optional (λ p. step_bytes (step (first_of_blocks w.blocks) p)) w.label
    ++ (if w.counted then vbe_unsigned (length w.blocks) else [])
    ++ flat_map (block_bytes corner w.double) w.blocks

-- a way: its data size in bytes, then the fields
unfoldable pub way_fields_bytes : Place → WayFields → List ℕ
way_fields_bytes corner w = sized (way_body_bytes corner w)

-- ---- tile

-- of a zoom level the number of POIs and the number of ways
abbrev pub level_count_bytes : Level → List ℕ
level_count_bytes level = vbe_unsigned (length level.pois) ++ vbe_unsigned (length level.ways)

-- A tile: the zoom table, then the first-way offset, which is the length of the POIs in bytes, then the POIs and the
-- ways, each by zoom level.
unfoldable pub levels_bytes : Place → List Level → List ℕ
levels_bytes corner levels =
    flat_map level_count_bytes levels
    ++ sized (flat_map (λ level. flat_map (poi_fields_bytes corner) level.pois) levels)
    ++ flat_map (λ level. flat_map (way_fields_bytes corner) level.ways) levels
