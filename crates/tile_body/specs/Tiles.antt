-- The bytes of a tile's members, by records: Mapsforge Specification, Binary Map File Format, version 5, on tile
-- header.
use Rattle.std.specs.Prelude.{ℕ, ◌==◌, Bool, List, ◌++◌, map, filter, flat_map, count_by}
use Rattle.mf_base.specs.Spelling.{vbe_unsigned}
use Rattle.mf_base.specs.declared.place.Place.{Place}
use Rattle.mf_base.specs.declared.tile.Interval.{Interval}
use Rattle.mf_base.specs.declared.tile.TilePlace.{TilePlace}
use Rattle.feature_model.specs.Features.{Feature}
use Rattle.map_model.specs.Members.{is_poi, is_way}
use Rattle.map_model.specs.Intervals.{raised_zoom, zooms}
use Rattle.map_model.specs.Bitmap.{sub_tile_bits}
use Rattle.map_model.specs.TileBytes.{tile_corner, poi_bytes, way_bytes}
use Rattle.mf_rows.specs.Records.{Record}
use Rattle.mf_rows.specs.Shapes.{feature_told}

-- the features that records are
abbrev pub features_told : List Record → List Feature
features_told records = map feature_told records

-- how many features of a class have an effective zoom
abbrev pub count_at : (Feature → Bool) → Interval → ℕ → List Feature → ℕ
count_at class interval zoom fs = count_by (λ g. raised_zoom interval g.zoom == zoom) (filter class fs)

-- the numbers of POIs and of ways of a zoom level
abbrev pub counts_at : Interval → List Feature → ℕ → List ℕ
counts_at interval fs zoom =
    vbe_unsigned (count_at is_poi interval zoom fs) ++ vbe_unsigned (count_at is_way interval zoom fs)

-- the zoom table
unfoldable pub table_bytes : Interval → List Feature → List ℕ
table_bytes interval fs = flat_map (counts_at interval fs) (zooms interval)

-- the bytes of a class of features
unfoldable pub class_bytes : (Feature → List ℕ) → (Feature → Bool) → List Feature → List ℕ
class_bytes bytes class fs = flat_map bytes (filter class fs)

-- those of the POIs
abbrev pub pois_bytes : Place → List Feature → List ℕ
pois_bytes corner fs = class_bytes (poi_bytes corner) is_poi fs

-- those of a way in a tile
abbrev pub way_in : TilePlace → Feature → List ℕ
way_in tile f = way_bytes (tile_corner tile) (sub_tile_bits f tile) f

-- those of the ways
abbrev pub ways_bytes : TilePlace → List Feature → List ℕ
ways_bytes tile fs = class_bytes (way_in tile) is_way fs
