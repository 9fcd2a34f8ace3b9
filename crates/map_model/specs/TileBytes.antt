-- The bytes of features in a tile: Mapsforge Specification, Binary Map File Format, version 5, on tile header, POIs and
-- ways; the choices are this project's profile.
use Rattle.std.specs.Prelude.{ℕ, nat_lt, Bool, true, false, List, [], ◌∷◌, map, filter, sum_by, length}
use Rattle.mf_base.specs.declared.place.Place.{Place}
use Rattle.mf_base.specs.declared.tile.TilePlace.{TilePlace}
use Rattle.feature_model.specs.Features.{Feature}
use Rattle.map_model.specs.Mercator.{corner}
use Rattle.map_model.specs.Rectangles.{blocks_of_shape, rings_of, places_of, first_place}
use Rattle.map_model.specs.Members.{is_poi, is_way, of_zoom}
use Rattle.map_model.specs.Intervals.{zooms}
use Rattle.map_model.specs.Bitmap.{sub_tile_bits}
use Rattle.map_model.specs.Labels.{label_place}
use Rattle.map_model.specs.Layout.{PoiFields, WayFields, Level, coordinate_bytes, poi_fields_bytes, way_fields_bytes}
use Rattle.map_model.specs.Layout.{levels_bytes}

-- what is written of a POI
unfoldable pub poi_fields : Feature → PoiFields
poi_fields f = record {
  place = first_place (places_of f);
  layer = f.layer;
  tags = f.tags;
  other = 0;
  name = f.name;
  house = f.house;
  height = f.height;
}

-- a POI in a tile with this corner
unfoldable pub poi_bytes : Place → Feature → List ℕ
poi_bytes corner f = poi_fields_bytes corner (poi_fields f)

-- the bytes of all coordinates of a feature under single or double delta
unfoldable pub coordinate_size : Place → Bool → Feature → ℕ
coordinate_size corner double f = sum_by (λ ring. length (coordinate_bytes corner double ring)) (rings_of f)

-- double delta is written exactly where it takes fewer bytes
unfoldable pub is_double : Place → Feature → Bool
is_double corner f = nat_lt (coordinate_size corner true f) (coordinate_size corner false f)

-- what is written of a way with these bits
unfoldable pub way_fields : Place → ℕ → Feature → WayFields
way_fields corner bits f = record {
  bits = bits;
  layer = f.layer;
  tags = f.tags;
  other = 0;
  name = f.name;
  house = f.house;
  reference = f.reference;
  label = label_place f;
  counted = nat_lt 1 (length (blocks_of_shape f.shape));
  double = is_double corner f;
  blocks = blocks_of_shape f.shape;
}

-- a way with these bits in a tile with this corner
unfoldable pub way_bytes : Place → ℕ → Feature → List ℕ
way_bytes corner bits f = way_fields_bytes corner (way_fields corner bits f)

-- the north-western corner of a tile
abbrev pub tile_corner : TilePlace → Place
tile_corner tile = corner tile.interval.base tile.x tile.y

-- what is written of the members of one effective zoom, in a tile with this corner
unfoldable pub written_level : Place → TilePlace → List Feature → ℕ → Level
written_level corner tile members zoom = record {
  pois = map poi_fields (of_zoom tile.interval zoom (filter is_poi members));
  ways = map (λ f. way_fields corner (sub_tile_bits f tile) f) (of_zoom tile.interval zoom (filter is_way members));
}

-- what is written of the members of a tile, by zoom level from the minimum to the maximum
unfoldable pub written_levels : TilePlace → List Feature → List Level
written_levels tile members = map (written_level (tile_corner tile) tile members) (zooms tile.interval)

-- The bytes of a tile with these members: the layout of what is written. A tile without members takes no bytes.
unfoldable pub tile_bytes : TilePlace → List Feature → List ℕ
tile_bytes tile [] = []
tile_bytes tile (f ∷ members) = levels_bytes (tile_corner tile) (written_levels tile (f ∷ members))
