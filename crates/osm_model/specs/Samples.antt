-- Worked inputs, with what they spell: this project's rows.
use Rattle.std.specs.Prelude.{ℕ, ◌+◌, ◌-◌, ◌*◌, nat_le, if◌then◌else◌, List, [], ◌∷◌, ◌++◌, length, map, flat_map}
use Rattle.std.specs.Prelude.{replicate, set, codes, ℤ, pos, negsuc, Option, Some}
use Rattle.mf_base.specs.Tags.{Tags}
use Rattle.mf_base.specs.Texts.{Text}
use Rattle.mf_base.specs.declared.place.Place.{Place}
use Rattle.mf_base.specs.declared.place.Rect.{Rect}
use Rattle.mf_base.specs.declared.kind.EntityKind.{EntityKind}
use Rattle.osm_model.specs.declared.faults.FrameFault.{FrameFault}
use Rattle.osm_model.specs.declared.faults.BlockFault.{BlockFault}
use Rattle.osm_model.specs.declared.faults.EntityFault.{EntityFault}
use Rattle.osm_model.specs.declared.faults.InputFault.{InputFault}
use Rattle.osm_model.specs.declared.faults.InputCode.TheVariants as input_codes
use Rattle.osm_model.specs.Frames.{header, primitive, Frame}
use Rattle.osm_model.specs.Blocks.{BlockHead}
use Rattle.osm_model.specs.Entities.{Member, Entity, node, way, relation}
use Prim.Native.String.{String}

-- ---- bytes and blobs

-- the value of a hexadecimal digit, 0 to 9 or A to F, by its code
abbrev pub digit : ℕ → ℕ
digit code = if nat_le code 57 then code - 48 else code - 55

-- the bytes that pairs of digits tell, one space after each pair but the last
abbrev pub bytes_of_digits : List ℕ → List ℕ
bytes_of_digits (high ∷ low ∷ space ∷ rest) = (16 * digit high + digit low) ∷ bytes_of_digits rest
bytes_of_digits (high ∷ low ∷ []) = (16 * digit high + digit low) ∷ []
bytes_of_digits _ = []

-- bytes in hexadecimal digits
abbrev pub hex : String → List ℕ
hex digits = bytes_of_digits (codes digits)

-- a LEN field of number k, below 16, with fewer than 128 bytes
abbrev pub len_field : ℕ → List ℕ → List ℕ
len_field k bytes = (8 * k + 2) ∷ length bytes ∷ bytes

-- a blob of this type, whose Blob message has fewer than 128 bytes
abbrev pub blob_of : String → List ℕ → List ℕ
blob_of kind body =
    (0 ∷ 0 ∷ 0 ∷ (length (codes kind) + 4) ∷ []) ++ len_field 1 (codes kind) ++ (0x18 ∷ length body ∷ []) ++ body

-- a blob of a HeaderBlock of these bytes
abbrev pub header_blob : List ℕ → List ℕ
header_blob raw = blob_of "OSMHeader" (len_field 1 raw)

-- a header with a bbox of these sides, left, right, top and bottom, each a sint64 of nanodegrees in hexadecimal digits
abbrev pub boxed : String → String → String → String → List ℕ
boxed left right top bottom =
    header_blob (len_field 1 (hex "08" ++ hex left ++ hex "10" ++ hex right ++ hex "18" ++ hex top ++ hex "20"
    ++ hex bottom))

-- a blob of a PrimitiveBlock of these bytes
abbrev pub raw_blob : List ℕ → List ℕ
raw_blob raw = blob_of "OSMData" (len_field 1 raw)

-- a StringTable as the first field of its block
abbrev pub string_field : List Text → List ℕ
string_field texts = len_field 1 (flat_map (len_field 1) texts)

-- a blob of strings and one group
abbrev pub block_blob : List Text → List ℕ → List ℕ
block_blob texts group = raw_blob (string_field texts ++ len_field 2 group)

-- the number -2^63 as a sint64
abbrev pub least_number : List ℕ
least_number = replicate 9 0xFF ++ hex "01"

-- the number 2^62 as a sint64: twice this is beyond signed 64 bits
abbrev pub half_of_range : List ℕ
half_of_range = replicate 9 0x80 ++ hex "01"

-- ---- how an input is refused

-- a fault of the blob at this offset
abbrev pub in_frame : ℕ → FrameFault → Option InputFault
in_frame at fault = Some (record { at = at; code = input_codes.Frame fault })

-- a fault of what the block in the blob at this offset has before its objects
abbrev pub in_block : ℕ → BlockFault → Option InputFault
in_block at fault = Some (record { at = at; code = input_codes.Block fault })

-- a fault of an object in the blob at this offset
abbrev pub in_entity : ℕ → EntityFault → Option InputFault
in_entity at fault = Some (record { at = at; code = input_codes.Entity fault })

-- ---- what an input spells

-- a place of these microdegrees
abbrev pub at : ℤ → ℤ → Place
at lat lon = record { lat = lat; lon = lon }

-- the place (0, 0)
abbrev pub at_zero : Place
at_zero = at (pos 0) (pos 0)

-- a box from (0, 0) to (side, side)
abbrev pub square : ℕ → Rect
square side = record { min_lat = pos 0; min_lon = pos 0; max_lat = pos side; max_lon = pos side }

-- one degree each way
abbrev pub one_degree : Rect
one_degree = record { min_lat = negsuc 999999; min_lon = negsuc 999999; max_lat = pos 1000000; max_lon = pos 1000000 }

-- 90 degrees north and south, 180 east and west
abbrev pub whole_earth : Rect
whole_earth =
    record { min_lat = negsuc 89999999; min_lon = negsuc 179999999; max_lat = pos 90000000; max_lon = pos 180000000 }

-- a node of this id, place and tags
abbrev pub node_at : ℕ → Place → Tags → Entity
node_at id place tags = node (record { id = id; place = place; tags = tags })

-- a way of this id, these refs and tags
abbrev pub way_at : ℕ → List ℤ → Tags → Entity
way_at id refs tags = way (record { id = id; refs = refs; tags = tags })

-- a member of this kind, id and role
abbrev pub member_of : EntityKind → ℤ → Text → Member
member_of kind id role = record { kind = kind; id = id; role = role }

-- a relation of this id, these members and tags
abbrev pub relation_at : ℕ → List Member → Tags → Entity
relation_at id members tags = relation (record { id = id; members = members; tags = tags })

-- ---- one bench

-- a HeaderBlock with a box of one degree each way and the two required features
abbrev pub header_raw : List ℕ
header_raw = len_field 1 (hex "08 FF A7 D6 B9 07 10 80 A8 D6 B9 07 18 80 A8 D6 B9 07 20 FF A7 D6 B9 07")
    ++ len_field 4 (codes "OsmSchema-V0.6") ++ len_field 4 (codes "DenseNodes")

-- its blob of 73 bytes
abbrev pub header_alone : List ℕ
header_alone = header_blob header_raw

-- three texts: none, amenity and bench
abbrev pub bench_texts : List Text
bench_texts = [] ∷ codes "amenity" ∷ codes "bench" ∷ []

-- a blob of these strings and one group
abbrev pub data_blob : List ℕ → List ℕ
data_blob group = block_blob bench_texts group

-- one dense node at (0, 0) with the tag amenity=bench
abbrev pub bench_group : List ℕ
bench_group = len_field 2 (hex "0A 01 02 42 01 00 4A 01 00 52 03 01 02 00")

-- the input of 128 bytes
abbrev pub one_bench : List ℕ
one_bench = header_alone ++ data_blob bench_group

-- its PrimitiveBlock
abbrev pub bench_block : List ℕ
bench_block = string_field bench_texts ++ len_field 2 bench_group

-- the head of a block that tells neither granularity nor offsets
abbrev pub usual_head : BlockHead
usual_head = record { granularity = pos 100; lat_offset = pos 0; lon_offset = pos 0 }

-- the blob of its HeaderBlock
abbrev pub header_frame : Frame
header_frame = record { at = 0; content = header header_raw }

-- the blob of its PrimitiveBlock, behind that of the HeaderBlock
abbrev pub bench_frame : Frame
bench_frame = record { at = 73; content = primitive bench_block }

-- the input of one bench with another byte in one place
abbrev pub with_byte : ℕ → ℕ → List ℕ
with_byte n byte = set one_bench n byte

-- amenity=bench
abbrev pub bench_tags : Tags
bench_tags = (codes "amenity", codes "bench") ∷ []

-- a bench with this id at (0, 0)
abbrev pub bench : ℕ → Entity
bench id = node_at id at_zero bench_tags

-- the bench as a plain node
abbrev pub plain_group : List ℕ
plain_group = len_field 1 (hex "08 02 12 01 01 1A 01 02 40 00 48 00")

-- a plain node with id 1 at (0, 0) without tags
abbrev pub node_group : List ℕ
node_group = len_field 1 (hex "08 02 40 00 48 00")

-- a way with id 1
abbrev pub way_group : List ℕ
way_group = len_field 3 (hex "08 01")

-- dense nodes with ids 5 and 5
abbrev pub twice_five : List ℕ
twice_five = len_field 2 (hex "0A 02 0A 00 42 02 00 00 4A 02 00 00")

-- one bench of the name Spring
abbrev pub bench_with_name : List ℕ
bench_with_name =
    header_alone ++ block_blob ([] ∷ codes "amenity" ∷ codes "bench" ∷ codes "name" ∷ codes "Spring" ∷ [])
    (len_field 1 (hex "08 02 12 02 01 03 1A 02 02 04 40 00 48 00"))

-- ---- nodes, ways and relations

-- four short texts: none, k, é and vv
abbrev pub short_texts : List Text
short_texts = [] ∷ codes "k" ∷ hex "C3 A9" ∷ codes "vv" ∷ []

-- three dense nodes: one with a tag, one without, one with two; granularity 1000, offsets -5 and 77 nanodegrees
abbrev pub dense_three : List ℕ
dense_three =
    raw_blob (string_field short_texts
    ++ len_field 2
    (len_field 2 (hex "0A 03 04 06 02 42 03 14 09 0E 4A 03 02 02 02 52 09 01 02 00 00 03 01 02 00 00"))
    ++ hex "88 01 E8 07 98 01 FB" ++ replicate 8 0xFF ++ hex "01 A0 01 4D")

-- what it spells
abbrev pub dense_three_entities : List Entity
dense_three_entities =
    node_at 2 (at (pos 9) (pos 1)) ((codes "k", hex "C3 A9") ∷ [])
    ∷ node_at 5 (at (pos 4) (pos 2)) []
    ∷ node_at 6 (at (pos 11) (pos 3)) ((codes "vv", codes "k") ∷ (hex "C3 A9", []) ∷ [])
    ∷ []

-- two ways in a block and a relation in the next
abbrev pub ways_and_relation : List ℕ
ways_and_relation =
    block_blob short_texts
    (len_field 3 (hex "08 04 12 02 01 03 1A 02 02 01 42 03 04 06 09") ++ len_field 3 (hex "08 09 42 00"))
    ++ block_blob short_texts (len_field 4 (hex "08 05 12 01 01 1A 01 03 42 03 01 02 00 4A 03 08 11 0A 52 03 00 01 02"))

-- what it spells
abbrev pub ways_and_relation_entities : List Entity
ways_and_relation_entities =
    way_at 4 (pos 2 ∷ pos 5 ∷ pos 0 ∷ []) ((codes "k", hex "C3 A9") ∷ (codes "vv", codes "k") ∷ [])
    ∷ way_at 9 [] []
    ∷ relation_at 5 (member_of EntityKind.Node (pos 4) (codes "k") ∷ member_of EntityKind.Way (negsuc 4) (hex "C3 A9")
    ∷ member_of EntityKind.Relation (pos 0) [] ∷ []) ((codes "k", codes "vv") ∷ [])
    ∷ []

-- a path of four refs, of which the third is no node
abbrev pub missing_node : List ℕ
missing_node =
    header_alone
    ++ block_blob ([] ∷ []) (len_field 1 (hex "08 02 40 00 48 00") ++ len_field 1 (hex "08 04 40 00 48 64")
    ++ len_field 1 (hex "08 08 40 64 48 64"))
    ++ block_blob ([] ∷ codes "highway" ∷ codes "path" ∷ [])
    (len_field 3 (hex "08 01 12 01 01 1A 01 02 42 04 02 02 02 02"))

-- what it spells
abbrev pub missing_node_entities : List Entity
missing_node_entities =
    node_at 1 at_zero []
    ∷ node_at 2 (at (pos 0) (pos 5)) []
    ∷ node_at 4 (at (pos 5) (pos 5)) []
    ∷ way_at 1 (map pos (1 ∷ 2 ∷ 3 ∷ 4 ∷ [])) ((codes "highway", codes "path") ∷ [])
    ∷ []

-- a forest: three outer ways that make a ring, and an inner ring of one way
abbrev pub ring_of_three_ways : List ℕ
ring_of_three_ways =
    header_alone
    ++ block_blob ([] ∷ []) (
    len_field 1 (hex "08 02 40 00 48 00") ++ len_field 1 (hex "08 04 40 00 48 90 03")
    ++ len_field 1 (hex "08 06 40 90 03 48 C8 01")
    ++ len_field 1 (hex "08 08 40 3C 48 A0 01") ++ len_field 1 (hex "08 0A 40 3C 48 F0 01")
    ++ len_field 1 (hex "08 0C 40 78 48 C8 01"))
    ++ block_blob ([] ∷ []) (len_field 3 (hex "08 01 42 02 02 02") ++ len_field 3 (hex "08 02 42 02 06 01")
    ++ len_field 3 (hex "08 03 42 02 06 03") ++ len_field 3 (hex "08 04 42 04 08 02 02 03"))
    ++ block_blob ([] ∷ codes "type" ∷ codes "multipolygon" ∷ codes "landuse" ∷ codes "forest" ∷ codes "outer"
    ∷ codes "inner" ∷ [])
    (len_field 4 (hex "08 01 12 02 01 03 1A 02 02 04 42 04 05 05 05 06 4A 04 02 02 02 02 52 04 01 01 01 01"))

-- a way of these nodes without tags
abbrev pub way_through : ℕ → List ℕ → Entity
way_through id refs = way_at id (map pos refs) []

-- a way as a member with this role
abbrev pub way_member : ℕ → String → Member
way_member id role = member_of EntityKind.Way (pos id) (codes role)

-- what the forest spells
abbrev pub forest_entities : List Entity
forest_entities =
    node_at 1 at_zero []
    ∷ node_at 2 (at (pos 0) (pos 20)) []
    ∷ node_at 3 (at (pos 20) (pos 10)) []
    ∷ node_at 4 (at (pos 3) (pos 8)) []
    ∷ node_at 5 (at (pos 3) (pos 12)) []
    ∷ node_at 6 (at (pos 6) (pos 10)) []
    ∷ way_through 1 (1 ∷ 2 ∷ [])
    ∷ way_through 2 (3 ∷ 2 ∷ [])
    ∷ way_through 3 (3 ∷ 1 ∷ [])
    ∷ way_through 4 (4 ∷ 5 ∷ 6 ∷ 4 ∷ [])
    ∷ relation_at 1 (way_member 1 "outer" ∷ way_member 2 "outer" ∷ way_member 3 "outer" ∷ way_member 4 "inner" ∷ [])
    ((codes "type", codes "multipolygon") ∷ (codes "landuse", codes "forest") ∷ [])
    ∷ []

-- water round four nodes
abbrev pub water_tile : List ℕ
water_tile =
    header_alone
    ++ block_blob ([] ∷ []) (
    len_field 1 (hex "08 02 40 FF C1 D7 2F 48 80 C2 D7 2F")
    ++ len_field 1 (hex "08 04 40 FF C1 D7 2F 48 80 D8 83 8B 02")
    ++ len_field 1 (hex "08 06 40 80 A0 CB 98 01 48 80 D8 83 8B 02")
    ++ len_field 1 (hex "08 08 40 80 A0 CB 98 01 48 80 C2 D7 2F"))
    ++ block_blob ([] ∷ codes "natural" ∷ codes "water" ∷ [])
    (len_field 3 (hex "08 01 12 01 01 1A 01 02 42 05 02 02 02 02 05"))

-- what it spells
abbrev pub water_tile_entities : List Entity
water_tile_entities =
    node_at 1 (at (negsuc 4999999) (pos 5000000)) []
    ∷ node_at 2 (at (negsuc 4999999) (pos 28000000)) []
    ∷ node_at 3 (at (pos 16000000) (pos 28000000)) []
    ∷ node_at 4 (at (pos 16000000) (pos 5000000)) []
    ∷ way_at 1 (map pos (1 ∷ 2 ∷ 3 ∷ 4 ∷ 1 ∷ [])) ((codes "natural", codes "water") ∷ [])
    ∷ []

-- two dense nodes with id 5, the first of a long name
abbrev pub fault_before_limit : List ℕ
fault_before_limit =
    header_alone ++ hex "00 00 00 0C" ++ len_field 1 (codes "OSMData") ++ hex "18 8A 07 0A 87 07 0A EC 06"
    ++ len_field 1 [] ++ len_field 1 (codes "amenity") ++ len_field 1 (codes "bench") ++ len_field 1 (codes "name")
    ++ hex "0A D1 06" ++ replicate 849 0x6E
    ++ len_field 2 (len_field 2 (hex "0A 02 0A 00 42 02 00 00 4A 02 00 00 52 06 01 02 03 04 00 00"))
