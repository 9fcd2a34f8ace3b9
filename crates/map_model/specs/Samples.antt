-- Features, tiles and maps of the worked rows.
use Rattle.std.specs.Prelude.{ℕ, map, Bool, Some, ℤ, pos, negsuc, List, [], ◌∷◌, ◌++◌, None, true, false, codes}
use Rattle.std.specs.Prelude.{replicate}
use Rattle.mf_base.specs.declared.kind.EntityKind.{EntityKind}
use Rattle.mf_base.specs.declared.kind.EntityKind.TheVariants.{Node, Way}
use Rattle.mf_base.specs.declared.place.Place.{Place}
use Rattle.mf_base.specs.declared.place.Rect.{Rect}
use Rattle.mf_base.specs.declared.tile.TilePlace.{TilePlace}
use Rattle.mf_base.specs.declared.tile.Interval.{Interval}
use Rattle.osm_model.specs.Entities.{Entity}
use Rattle.feature_model.specs.Inside.{Ring}
use Rattle.feature_model.specs.Mapping.{KeptValue, Mapping}
use Rattle.feature_model.specs.Features.{Shape, Feature, Block}
use Rattle.feature_model.specs.Samples.{at, tag, node_at, entry, poi_mapping}
use Rattle.map_model.specs.Header.{HeadSettings}
use Rattle.map_model.specs.SubFile.{TileContent}
use Rattle.map_model.specs.declared.report.Report.{Report}
use Rattle.map_model.specs.Listing.{Band}
use Rattle.map_model.specs.Listed.{ShownTag, Listed, ListedWay, poi}
use Rattle.map_model.specs.TagLists.{TagLists}

-- a place of this latitude and longitude, in microdegrees
abbrev pub at_place : ℤ → ℤ → Place
at_place lat lon = record { lat = lat; lon = lon }

-- the corner of the one tile of base zoom 0
abbrev pub world_corner : Place
world_corner = at_place (pos 85051128) (negsuc 179999999)

-- the place (0, 0) less that corner, as it is spelled
abbrev pub to_origin : List ℕ
to_origin = 0xF8 ∷ 0x8D ∷ 0xC7 ∷ 0x68 ∷ 0x80 ∷ 0xAA ∷ 0xEA ∷ 0xD5 ∷ 0x00 ∷ []

-- one bench at (0, 0): the tag of entry 0
abbrev pub bench : Feature
bench = record {
  kind = Node;
  id = 1;
  zoom = 5;
  layer = pos 0;
  water = false;
  label = false;
  coast = false;
  height = None;
  tags = record { tag = 0; value = KeptValue.plain } ∷ [];
  name = None;
  house = None;
  reference = None;
  shape = Shape.point (at_place (pos 0) (pos 0));
  weight = 11;
}

-- the same with one tag of another value, as of zoom 17
abbrev pub bench_with_value : KeptValue → Feature
bench_with_value value = record bench { zoom = 17; tags = record { tag = 0; value = value } ∷ [] }

-- a way of zoom 17 through these places, with the tag of entry 0
abbrev pub way_of : Ring → Feature
way_of places = record {
  kind = Way;
  id = 1;
  zoom = 17;
  layer = pos 0;
  water = false;
  label = false;
  coast = false;
  height = None;
  tags = record { tag = 0; value = KeptValue.plain } ∷ [];
  name = None;
  house = None;
  reference = None;
  shape = Shape.blocks ((places ∷ []) ∷ []);
  weight = 11;
}

-- a closed ring of five places
abbrev pub garden_ring : Ring
garden_ring = at_place (pos 0) (pos 0) ∷ at_place (pos 0) (pos 20) ∷ at_place (pos 10) (pos 20) ∷ at_place (pos 10)
    (pos 0) ∷ at_place (pos 0) (pos 0) ∷ []

-- a closed way of five places, with the label mark
abbrev pub garden : Feature
garden = record (way_of garden_ring) { label = true }

-- four places, each 1,000 microdegrees east of the last
abbrev pub eastward : Ring
eastward = at_place (pos 0) (pos 0) ∷ at_place (pos 0) (pos 1000) ∷ at_place (pos 0) (pos 2000) ∷ at_place (pos 0)
    (pos 3000) ∷ []

-- one interval of base zoom 0 up to a maximum, a date, and nothing optional
abbrev pub settings_to : ℕ → HeadSettings
settings_to max = record {
  date = 1700000000000;
  start = None;
  start_zoom = None;
  language = None;
  comment = None;
  created_by = None;
  intervals = record { base = 0; min = 0; max = max } ∷ [];
}

-- one degree each way
abbrev pub degree_box : Rect
degree_box = record { min_lat = negsuc 999999; min_lon = negsuc 999999; max_lat = pos 1000000; max_lon = pos 1000000 }

-- the tag of the bench in a header
abbrev pub bench_tags : TagLists
bench_tags = record { poi = codes "amenity=bench" ∷ []; way = [] }

-- the sub-file of the map of the bench: its index of one entry, and one tile
abbrev pub bench_sub_file : List ℕ
bench_sub_file =
    0x00 ∷ 0x00 ∷ 0x00 ∷ 0x00 ∷ 0x05
    ∷ 0x00 ∷ 0x00 ∷ 0x00 ∷ 0x00 ∷ 0x00 ∷ 0x00 ∷ 0x00 ∷ 0x00 ∷ 0x00 ∷ 0x00 ∷ 0x01 ∷ 0x00 ∷ 0x00 ∷ 0x00 ∷ 0x00 ∷ 0x00
    ∷ 0x0C
    ∷ 0xF8 ∷ 0x8D ∷ 0xC7 ∷ 0x68 ∷ 0x80 ∷ 0xAA ∷ 0xEA ∷ 0xD5 ∷ 0x00 ∷ 0x51 ∷ 0x00 ∷ 0x00 ∷ []

-- the header of a map of one interval, of base 0 up to zoom 7, with these tags, file size and sub-file
abbrev pub degree_header : List ℕ → List ℕ → List ℕ
degree_header sizes rest =
    codes "mapsforge binary OSM" ++ 0x00 ∷ 0x00 ∷ 0x00 ∷ 0x56 ∷ 0x00 ∷ 0x00 ∷ 0x00 ∷ 0x05
    ∷ 0x00 ∷ 0x00 ∷ 0x00 ∷ 0x00 ∷ 0x00 ∷ 0x00 ∷ 0x00 ∷ sizes
    ++ 0x00 ∷ 0x00 ∷ 0x01 ∷ 0x8B ∷ 0xCF ∷ 0xE5 ∷ 0x68 ∷ 0x00
    ∷ 0xFF ∷ 0xF0 ∷ 0xBD ∷ 0xC0 ∷ 0xFF ∷ 0xF0 ∷ 0xBD ∷ 0xC0 ∷ 0x00 ∷ 0x0F ∷ 0x42 ∷ 0x40 ∷ 0x00 ∷ 0x0F ∷ 0x42 ∷ 0x40
    ∷ 0x01 ∷ 0x00 ∷ 0x08 ∷ codes "Mercator" ++ 0x00 ∷ 0x00 ∷ 0x01 ∷ 0x0D ∷ codes "amenity=bench" ++ 0x00 ∷ 0x00
    ∷ 0x01 ∷ 0x00 ∷ 0x00 ∷ 0x07 ∷ 0x00 ∷ 0x00 ∷ 0x00 ∷ 0x00 ∷ 0x00 ∷ 0x00 ∷ 0x00 ∷ 0x6E
    ∷ 0x00 ∷ 0x00 ∷ 0x00 ∷ 0x00 ∷ 0x00 ∷ 0x00 ∷ 0x00 ∷ rest

-- the 144 bytes of the map of one bench
abbrev pub bench_map : List ℕ
bench_map = degree_header (0x90 ∷ []) (0x22 ∷ bench_sub_file)

-- the 115 bytes of a map without features
abbrev pub empty_map : List ℕ
empty_map = degree_header (0x73 ∷ []) (0x05 ∷ 0x00 ∷ 0x00 ∷ 0x00 ∷ 0x00 ∷ 0x05 ∷ [])

-- the bench as a reader sees it
abbrev pub listed_bench : Listed
listed_bench = poi (record {
  zoom = 5;
  layer = pos 0;
  place = at_place (pos 0) (pos 0);
  tags = ShownTag.plain (codes "amenity=bench") ∷ [];
  name = None;
  house = None;
  height = None;
})

-- a bench of zoom 17 with another tag
abbrev pub valued_bench : ShownTag → Listed
valued_bench tag =
    poi (record {
      zoom = 17;
      layer = pos 0;
      place = at_place (pos 0) (pos 0);
      tags = tag ∷ [];
      name = None;
      house = None;
      height = None;
    })

-- the one tile of base zoom 0, of an interval up to a zoom
abbrev pub world_tile : ℕ → TilePlace
world_tile max = record { index = 0; interval = record { base = 0; min = 0; max = max }; x = 0; y = 0 }

-- the tag of the garden in a header
abbrev pub garden_tags : TagLists
garden_tags = record { poi = []; way = codes "leisure=garden" ∷ [] }

-- the garden as a way of the map
abbrev pub garden_bytes : List ℕ
garden_bytes =
    0x1A ∷ 0x02 ∷ 0x20 ∷ 0x51 ∷ 0x00 ∷ 0x10 ∷ 0x05 ∷ 0x0A ∷ 0x01 ∷ 0x05 ∷ 0xF8 ∷ 0x8D ∷ 0xC7 ∷ 0x68 ∷ 0x80 ∷ 0xAA ∷ 0xEA
    ∷ 0xD5 ∷ 0x00
    ∷ 0x00 ∷ 0x14 ∷ 0x0A ∷ 0x00 ∷ 0x00 ∷ 0x54 ∷ 0x4A ∷ 0x00 ∷ []

-- the tile of the garden: zoom levels 0 to 21, no POI, and one way of zoom 17
abbrev pub garden_tile : List ℕ
garden_tile = replicate 35 0 ++ 0x01 ∷ replicate 8 0 ++ 0x00 ∷ garden_bytes

-- the report of the map of the bench
abbrev pub bench_numbers : Report
bench_numbers = record {
  nodes = 1;
  ways = 0;
  relations = 0;
  features = 1;
  skipped = 0;
  tiles = 1;
  water = 0;
  bytes = 144;
  largest = 11;
}

-- a closed water way along the four sides of a rectangle
abbrev pub lake : Feature
lake = record (way_of (at_place (negsuc 4999999) (pos 5000000) ∷ at_place (pos 16000000) (pos 5000000) ∷ at_place
    (pos 16000000) (pos 28000000) ∷ at_place (negsuc 4999999) (pos 28000000) ∷ at_place (negsuc 4999999)
    (pos 5000000) ∷ [])) { water = true }

-- a tile of zoom 5
abbrev pub lake_tile : ℕ → ℕ → TilePlace
lake_tile x y = record { index = 0; interval = record { base = 5; min = 0; max = 7 }; x = x; y = y }

-- the places of the lake without its last
abbrev pub open_lake : Feature
open_lake = record (way_of (at_place (negsuc 4999999) (pos 5000000) ∷ at_place (pos 16000000) (pos 5000000) ∷ at_place
    (pos 16000000) (pos 28000000) ∷ at_place (negsuc 4999999) (pos 28000000) ∷ [])) { water = true }

-- a ring of three places, and a smaller one within
abbrev pub outer_ring : Ring
outer_ring = at_place (pos 0) (pos 0) ∷ at_place (pos 0) (pos 20) ∷ at_place (pos 20) (pos 10) ∷ at_place (pos 0)
    (pos 0) ∷ []

-- a ring within that one
abbrev pub inner_ring : Ring
inner_ring = at_place (pos 3) (pos 8) ∷ at_place (pos 3) (pos 12) ∷ at_place (pos 6) (pos 10) ∷ at_place (pos 3)
    (pos 8) ∷ []

-- a feature of these blocks
abbrev pub area_of : List Block → Feature
area_of blocks = record (way_of []) { shape = Shape.blocks blocks }

-- the content of a tile
abbrev pub content : Bool → List ℕ → TileContent
content water bytes = record { water = water; bytes = bytes }

-- the box of the place (0, 0)
abbrev pub origin_box : Rect
origin_box = record { min_lat = pos 0; min_lon = pos 0; max_lat = pos 0; max_lon = pos 0 }

-- a number below 256, of eight bytes
abbrev pub eight : ℕ → List ℕ
eight n = replicate 7 0 ++ n ∷ []

-- a header of these intervals with the tag of the bench, by its size after the size field, the size of its file, its
-- flags and optional fields, and the starts of its sub-files
abbrev pub origin_header : ℕ → ℕ → List ℕ → ℕ → ℕ → ℕ → List ℕ
origin_header size total options first second third =
    codes "mapsforge binary OSM" ++ 0 ∷ 0 ∷ 0 ∷ size ∷ 0 ∷ 0 ∷ 0 ∷ 5 ∷ eight total
    ++ 0x00 ∷ 0x00 ∷ 0x01 ∷ 0x8B ∷ 0xCF ∷ 0xE5 ∷ 0x68 ∷ 0x00 ∷ replicate 16 0
    ++ 0x01 ∷ 0x00 ∷ 0x08 ∷ codes "Mercator" ++ options
    ++ 0x00 ∷ 0x01 ∷ 0x0D ∷ codes "amenity=bench" ++ 0x00 ∷ 0x00
    ∷ 0x03 ∷ 5 ∷ 0 ∷ 7 ∷ eight first ++ eight 5 ++ 10 ∷ 8 ∷ 11 ∷ eight second ++ eight 5 ++ 14 ∷ 12 ∷ 21 ∷ eight third
    ++ eight 31

-- a tile in the middle of the world, of the third of these intervals; its corner is (0, 0)
abbrev pub middle_tile : TilePlace
middle_tile = record { index = 2; interval = record { base = 14; min = 12; max = 21 }; x = 8192; y = 8192 }

-- an interval of two tiles side by side, whose sub-file is the whole of a file of 13 bytes
abbrev pub two_tiles : Band
two_tiles = record {
  interval = record { base = 1; min = 1; max = 7 };
  sub = record { start = 0; size = 13 };
  span = record { z = 1; first_x = 0; last_x = 1; first_y = 0; last_y = 0 };
}

-- its index, whose second offset is below the first, and three bytes
abbrev pub two_tiles_file : List ℕ
two_tiles_file = 0x00 ∷ 0x00 ∷ 0x00 ∷ 0x00 ∷ 0x0C ∷ 0x00 ∷ 0x00 ∷ 0x00 ∷ 0x00 ∷ 0x0B ∷ 0x01 ∷ 0x02 ∷ 0x03 ∷ []

-- the garden as a reader sees it, under these bits
abbrev pub listed_garden : ℕ → ListedWay
listed_garden bits =
    record {
      zoom = 17;
      layer = pos 0;
      bits = bits;
      tags = ShownTag.plain (codes "leisure=garden") ∷ [];
      name = None;
      house = None;
      reference = None;
      label = Some (at_place (pos 5) (pos 10));
      blocks = (garden_ring ∷ []) ∷ [];
    }

-- five benches at one place, and one of zoom 9
abbrev pub five_benches : List Entity
five_benches = map (λ id. node_at id (at 0 0) (tag (codes "amenity") (codes "bench"))) (1 ∷ 2 ∷ 3 ∷ 4 ∷ 5 ∷ [])

-- a mapping whose benches are of zoom 9
abbrev pub late_benches : Mapping
late_benches = poi_mapping (entry (codes "amenity") (codes "bench") 9 ∷ [])

-- an interval of this base, minimum and maximum
abbrev pub zoom_range : ℕ → ℕ → ℕ → Interval
zoom_range base min max = record { base = base; min = min; max = max }

-- a feature of this kind, id and zoom
abbrev pub numbered : EntityKind → ℕ → ℕ → Feature
numbered kind id zoom = record bench { kind = kind; id = id; zoom = zoom }

-- places to and fro, which take fewer bytes under single delta
abbrev pub zigzag : Ring
zigzag = at_place (pos 0) (pos 0) ∷ at_place (pos 0) (pos 50) ∷ at_place (pos 0) (pos 0) ∷ at_place (pos 0)
    (pos 50) ∷ at_place (pos 0) (pos 0) ∷ []
