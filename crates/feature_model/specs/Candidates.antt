-- The candidates of an input: this project's profile.
use Rattle.std.specs.Prelude.{List, ◌++◌, map, filter_map, Option, option_map}
use Rattle.osm_model.specs.Entities.{Entity, node, way, relation, nodes_of, ways_of, relations_of}
use Rattle.feature_model.specs.Mapping.{Mapping}
use Rattle.feature_model.specs.Points.{Geometry, geometry_of}
use Rattle.feature_model.specs.Descriptions.{Description, description}

-- An object that matches an entry of its list, and what it is drawn from.
pub record Candidate : Type 0 where
  pub description : Description
  pub geometry : Geometry

-- the candidate that an object of the input is, where it is one
abbrev pub candidate_of : Mapping → List Entity → Entity → Option Candidate
candidate_of mapping entities e =
    option_map (λ d. record { description = d; geometry = geometry_of entities e }) (description mapping e)

-- nodes, then ways, then relations, each in their order; an accepted input has this order
abbrev pub by_kind : List Entity → List Entity
by_kind entities = map node (nodes_of entities) ++ map way (ways_of entities) ++ map relation (relations_of entities)

-- The candidates: nodes, then ways, then relations, each in the order of the input, which is that of rising ids.
unfoldable pub candidates : Mapping → List Entity → List Candidate
candidates mapping entities = filter_map (candidate_of mapping entities) (by_kind entities)
