-- Rectangles that take in places, one after another: this project's own.
use Rattle.std.specs.Prelude.{List, fold, flat_map}
use Rattle.std.specs.Int.{int_min, int_max}
use Rattle.mf_base.specs.declared.place.Place.{Place}
use Rattle.mf_base.specs.declared.place.Rect.{Rect}
use Rattle.feature_model.specs.Points.{Point, Part}
use Rattle.feature_model.specs.Blocks.{places}
use Rattle.map_model.specs.Rectangles.{rect_of_places}

-- the rectangle of one place
abbrev pub around : Place → Rect
around p = record { min_lat = p.lat; min_lon = p.lon; max_lat = p.lat; max_lon = p.lon }

-- a rectangle that takes in a place
abbrev pub with_place : Rect → Place → Rect
with_place r p = record {
  min_lat = int_min r.min_lat p.lat;
  min_lon = int_min r.min_lon p.lon;
  max_lat = int_max r.max_lat p.lat;
  max_lon = int_max r.max_lon p.lon;
}

-- a rectangle that takes in points
abbrev pub with_points : Rect → List Point → Rect
with_points r points = fold (λ a (p : Point). with_place a p.place) r points

-- a rectangle that takes in the points of rings
abbrev pub with_rings : Rect → List Part → Rect
with_rings r rings = fold (λ a (part : Part). with_points a part.points) r rings

-- the rectangle of the points of rings
abbrev pub rect_of_rings : List Part → Rect
rect_of_rings rings = rect_of_places (flat_map (λ (part : Part). places part.points) rings)
