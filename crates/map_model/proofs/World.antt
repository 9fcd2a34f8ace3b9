-- At zoom 0 there is one tile, and every rectangle meets it: whole maps of one tile rest on this.
use Rattle.std.proofs.Common.{◌≡◌, ℕ, ap, map, List, [], ◌∷◌, ◌+◌, length, refl, arith, true, false, Some, None}
use Rattle.std.specs.Prelude.{Bool, ℤ, nat_le, nat_lt, ◌&&◌, filter, cond, max as greater, option_map, count_by}
use Rattle.mf_base.specs.declared.place.Place.{Place}
use Rattle.mf_base.specs.declared.place.Rect.{Rect}
use Rattle.mf_base.specs.declared.tile.TilePlace.{TilePlace}
use Rattle.osm_model.specs.Entities.{Entity, nodes_of, ways_of, relations_of}
use Rattle.feature_model.specs.Mapping.{Mapping}
use Rattle.feature_model.specs.Features.{Feature, features, skipped}
use Rattle.feature_model.specs.declared.fault.LimitFault.{LimitFault}
use Rattle.feature_model.specs.Limits.{largest_candidate}
use Rattle.map_model.specs.Mercator.{raw_lat, column, corner}
use Rattle.map_model.specs.TileRects.{tile_rect, meets, tiles_of}
use Rattle.map_model.specs.Intervals.{interval_tiles, zooms}
use Rattle.map_model.specs.Members.{in_tile, in_tile_order, members, weight_of_tile}
use Rattle.map_model.specs.Rectangles.{rect_of}
use Rattle.map_model.specs.Layout.{levels_bytes}
use Rattle.map_model.specs.TileBytes.{tile_corner, tile_bytes, written_level, written_levels}
use Rattle.map_model.specs.SubFile.{content_of, contents, water}
use Rattle.map_model.specs.MapFile.{all_contents, all_tiles, map_file, tile_limit_fault, shape_size, job_size, report}
use Rattle.map_model.specs.MapFile.{shown_tiles, water_tiles, largest, largest_tile}
use Rattle.map_model.specs.Samples.{world_corner, world_tile, settings_to}
use Rattle.map_model.proofs.MercatorLemmas.{row-zero}
use Rattle.map_model.proofs.Compute.{latitudes}

pub raw_pole : raw_lat 131072 ≡ 85051128
unfolding latitudes
raw_pole = refl

pub corner-world : corner 0 0 0 ≡ world_corner
unfolding latitudes
corner-world = refl

pub column-zero : (lon : ℤ) → column 0 lon ≡ 0
unfolding column
column-zero lon = omega arith

pub tile_rect-zero : (r : Rect) → tile_rect r 0 ≡ record { z = 0; first_x = 0; last_x = 0; first_y = 0; last_y = 0 }
unfolding tile_rect
tile_rect-zero r = rw (column-zero r.min_lon, column-zero r.max_lon, row-zero r.max_lat, row-zero r.min_lat) refl

pub meets-zero : (r : Rect) → meets r 0 0 0 ≡ true
unfolding meets
meets-zero r = rw (tile_rect-zero r) refl

pub world_tiles : (box : Rect) (max : ℕ)
    → interval_tiles box 0 (record { base = 0; min = 0; max = max }) ≡ world_tile max ∷ []
unfolding interval_tiles tiles_of
world_tiles box max = rw (tile_rect-zero box) refl

world_all_tiles : (max : ℕ) (box : Rect) → all_tiles (settings_to max) box ≡ world_tile max ∷ []
unfolding all_tiles
world_all_tiles max box = rw (world_tiles box max) refl

-- what the one tile shows, up to the greatest zoom level
abbrev pub world_shown : ℕ → List Feature → List Feature
world_shown max features = in_tile_order (world_tile max).interval (filter (λ f. nat_le f.zoom max && true) features)

pub world_members : (max : ℕ) (features : List Feature) → members features (world_tile max) ≡ world_shown max features
unfolding members in_tile
world_members max features =
    λ i. in_tile_order (world_tile max).interval (filter (λ f. nat_le f.zoom max && meets-zero (rect_of f) i) features)

pub world_contents : (max : ℕ) (box : Rect) (features : List Feature)
    → all_contents (settings_to max) box features ≡ (content_of (world_tile max) (world_shown max features) ∷ []) ∷ []
unfolding all_contents contents
world_contents max box features = rw (world_tiles box max, world_members max features) refl

-- the bytes of a tile whose corner is known
pub bytes_from : (tile : TilePlace) (c : Place) (f : Feature) (fs : List Feature) → tile_corner tile ≡ c
    → tile_bytes tile (f ∷ fs) ≡ levels_bytes c (map (written_level c tile (f ∷ fs)) (zooms tile.interval))
unfolding tile_bytes written_levels
bytes_from tile c f fs at = ap (λ c. levels_bytes c (map (written_level c tile (f ∷ fs)) (zooms tile.interval))) at

pub world_bytes : (max : ℕ) (f : Feature) (fs : List Feature)
    → tile_bytes (world_tile max) (f ∷ fs)
    ≡ levels_bytes world_corner (map (written_level world_corner (world_tile max) (f ∷ fs))
    (zooms (world_tile max).interval))
world_bytes max f fs = bytes_from (world_tile max) world_corner f fs corner-world

-- ---- limits and report

pub world_limit : (limit max : ℕ) (box : Rect) (features : List Feature)
    → tile_limit_fault limit (settings_to max) box features
    ≡ cond (nat_lt limit (weight_of_tile (world_shown max features)))
    (Some (LimitFault.Tile 0 0 0 (weight_of_tile (world_shown max features)))) None
unfolding tile_limit_fault
world_limit limit max box features =
    rw (world_all_tiles max box, world_members max features)
    (found (nat_lt limit (weight_of_tile (world_shown max features))))
  where
    found : (over : Bool)
        → option_map (λ (t : TilePlace). LimitFault.Tile t.index t.x t.y (weight_of_tile (members features t)))
        (cond over (Some (world_tile max)) None)
        ≡ cond over (Some (LimitFault.Tile 0 0 0 (weight_of_tile (world_shown max features)))) None
    found true = ap (λ ms. Some (LimitFault.Tile 0 0 0 (weight_of_tile ms))) (world_members max features)
    found false = refl

pub world_size : (max : ℕ) (mapping : Mapping) (box : Rect) (entities : List Entity)
    → job_size (settings_to max) mapping box entities ≡ shape_size mapping entities + 1
    + (0 + weight_of_tile (world_shown max (features mapping entities)))
unfolding job_size
world_size max mapping box entities = rw (world_all_tiles max box, world_members max (features mapping entities)) refl

pub world_report : (max : ℕ) (mapping : Mapping) (box : Rect) (entities : List Entity)
    → report (settings_to max) mapping box entities ≡ record {
      nodes = length (nodes_of entities);
      ways = length (ways_of entities);
      relations = length (relations_of entities);
      features = length (features mapping entities);
      skipped = skipped mapping entities;
      tiles = count_by (λ ms. nat_lt 0 (length ms)) (world_shown max (features mapping entities) ∷ []);
      water = count_by (water (world_tile max)) (world_shown max (features mapping entities) ∷ []);
      bytes = length (map_file (settings_to max) mapping box entities);
      largest = greater (largest_candidate mapping entities)
          (greater 0 (weight_of_tile (world_shown max (features mapping entities))));
    }
unfolding report shown_tiles water_tiles largest largest_tile
world_report max mapping box entities = rw (world_all_tiles max box, world_members max (features mapping entities)) refl
