-- Which features are in a tile, and in which order: Mapsforge Specification, Binary Map File Format, version 5, on tile
-- header, POIs and ways; the rest is this project's profile.
use Rattle.std.specs.Prelude.{◌≡◌, ◌⊎◌, ℕ, ◌<◌, ◌≤◌, nat_le, ◌==◌, if◌then◌else◌, Bool, true, false, not, ◌&&◌, List}
use Rattle.std.specs.Prelude.{◌++◌, filter, flat_map, sum_by, AllPairs}
use Rattle.std.specs.List.{AllByRecursion}
use Rattle.mf_base.specs.declared.kind.EntityKind.{EntityKind}
use Rattle.mf_base.specs.declared.kind.EntityKind.TheVariants.{Node, Way, Relation}
use Rattle.mf_base.specs.declared.tile.Interval.{Interval}
use Rattle.mf_base.specs.declared.tile.TilePlace.{TilePlace}
use Rattle.feature_model.specs.Features.{Feature}
use Rattle.map_model.specs.Rectangles.{rect_of}
use Rattle.map_model.specs.TileRects.{meets}
use Rattle.map_model.specs.Intervals.{raised_zoom, zooms}

-- the kind of a node; a way and a relation are drawn as ways of the map
abbrev pub is_node_kind : EntityKind → Bool
is_node_kind Node = true
is_node_kind Way = false
is_node_kind Relation = false

-- a feature of a node is a POI
abbrev pub is_poi : Feature → Bool
is_poi f = is_node_kind f.kind

-- every other feature is a way of the map
abbrev pub is_way : Feature → Bool
is_way f = not (is_poi f)

-- the features that meet the tile and whose zoom is at most the maximum
unfoldable pub in_tile : TilePlace → List Feature → List Feature
in_tile tile features =
    filter (λ f. nat_le f.zoom tile.interval.max && meets (rect_of f) tile.interval.base tile.x tile.y) features

-- those of one effective zoom
abbrev pub of_zoom : Interval → ℕ → List Feature → List Feature
of_zoom interval zoom features = filter (λ f. raised_zoom interval f.zoom == zoom) features

-- by effective zoom, and in their order within one
abbrev pub by_zoom : Interval → List Feature → List Feature
by_zoom interval features = flat_map (λ zoom. of_zoom interval zoom features) (zooms interval)

-- first POIs, then ways, each by effective zoom, then in their order, which is that of their numbers
unfoldable pub in_tile_order : Interval → List Feature → List Feature
in_tile_order interval features = by_zoom interval (filter is_poi features) ++ by_zoom interval (filter is_way features)

-- the members of a tile among all features of the map
unfoldable pub members : List Feature → TilePlace → List Feature
members features tile = in_tile_order tile.interval (in_tile tile features)

-- the weights of some features together
abbrev pub weight_of_tile : List Feature → ℕ
weight_of_tile members = sum_by (λ f. f.weight) members

-- the number of a class: 0 for a POI, and 1 for a way of the map
abbrev pub class_of : Feature → ℕ
class_of f = if is_poi f then 0 else 1

-- of two features the first has the smaller class, or the same class and no greater effective zoom
abbrev pub StandsBefore : Interval → Feature → Feature → Type 0
StandsBefore interval f g = (class_of f < class_of g)
    ⊎ ((class_of f ≡ class_of g) × (raised_zoom interval f.zoom ≤ raised_zoom interval g.zoom))

-- Features in the order of a tile: no zoom level is above the maximum, POIs stand before ways, and each of the two goes
-- by effective zoom.
pub record StandInOrder (interval : Interval) (features : List Feature) : Type 0 where
  pub zooms : AllByRecursion (λ (f : Feature). f.zoom ≤ interval.max) features
  pub pairs : AllPairs (StandsBefore interval) features
