-- Closed rings, and where a label stands: this project's profile.
use Rattle.std.specs.Prelude.{length, if◌then◌else◌, Bool, false, ◌&&◌, ◌+ℤ◌, [], ◌∷◌, slice_index_or, Option, Some}
use Rattle.std.specs.Prelude.{None}
use Rattle.std.specs.Ordering.{int_eq}
use Rattle.mf_base.specs.declared.place.Place.{Place}
use Rattle.mf_base.specs.declared.place.Rect.{Rect}
use Rattle.feature_model.specs.Features.{Block, Feature}
use Rattle.feature_model.specs.Inside.{Ring}
use Rattle.map_model.specs.Numbers.{floor_div}
use Rattle.map_model.specs.Rectangles.{rings_of, rect_of}

-- two places are equal
abbrev pub same_place : Place → Place → Bool
same_place a b = int_eq a.lat b.lat && int_eq a.lon b.lon

-- A ring is closed where its first and its last place are equal, whatever nodes they come from.
abbrev pub is_closed : Ring → Bool
is_closed [] = false
is_closed (p ∷ ps) = same_place p (slice_index_or (p ∷ ps) (length ps) p)

-- the first of some rings is closed
abbrev pub first_ring_is_closed : Block → Bool
first_ring_is_closed [] = false
first_ring_is_closed (ring ∷ rings) = is_closed ring

-- the middle of a rectangle, rounded down
abbrev pub middle : Rect → Place
middle rect = record {
  lat = floor_div (rect.min_lat +ℤ rect.max_lat) 2;
  lon = floor_div (rect.min_lon +ℤ rect.max_lon) 2;
}

-- A feature with the label mark whose first ring is closed has its label in the middle of its rectangle.
unfoldable pub label_place : Feature → Option Place
label_place f = if f.label && first_ring_is_closed (rings_of f) then Some (middle (rect_of f)) else None
