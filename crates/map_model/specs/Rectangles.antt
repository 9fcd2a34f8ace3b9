-- The rings and places of a feature, and the rectangle round them: this project's profile. Places are in microdegrees.
use Rattle.std.specs.Prelude.{pos, List, [], ◌∷◌, flat_map, fold}
use Rattle.std.specs.Int.{int_min, int_max}
use Rattle.mf_base.specs.declared.place.Place.{Place}
use Rattle.mf_base.specs.declared.place.Rect.{Rect}
use Rattle.feature_model.specs.Features.{Block, Shape, Feature}
use Rattle.feature_model.specs.Inside.{Ring}

-- the blocks of rings of a feature; a node has none
abbrev pub blocks_of_shape : Shape → List Block
blocks_of_shape (Shape.point p) = []
blocks_of_shape (Shape.blocks found) = found

-- all rings of a feature, block after block
abbrev pub rings_of : Feature → Block
rings_of f = flat_map (λ rings. rings) (blocks_of_shape f.shape)

-- the places of a feature, a node having one
abbrev pub places_of_shape : Shape → Ring
places_of_shape (Shape.point p) = p ∷ []
places_of_shape (Shape.blocks found) = flat_map (λ rings. flat_map (λ ring. ring) rings) found

-- all places of a feature
abbrev pub places_of : Feature → Ring
places_of f = places_of_shape f.shape

-- the place (0, 0)
abbrev pub origin : Place
origin = record { lat = pos 0; lon = pos 0 }

-- the first of some places, or (0, 0)
abbrev pub first_place : Ring → Place
first_place [] = origin
first_place (p ∷ ps) = p

-- the rectangle from the least to the greatest latitude and longitude
unfoldable pub rect_of_places : Ring → Rect
rect_of_places places = record {
  min_lat = fold (λ a p. int_min a p.lat) (first_place places).lat places;
  min_lon = fold (λ a p. int_min a p.lon) (first_place places).lon places;
  max_lat = fold (λ a p. int_max a p.lat) (first_place places).lat places;
  max_lon = fold (λ a p. int_max a p.lon) (first_place places).lon places;
}

-- the rectangle of a feature
abbrev pub rect_of : Feature → Rect
rect_of f = rect_of_places (places_of f)
