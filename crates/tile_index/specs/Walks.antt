-- What is asked of the rings of a feature before it covers a tile, step by step. This project's own.
use Rattle.std.specs.Prelude.{Bool, false, not, ◌&&◌, List, [], ◌∷◌, flat_map, Option, Some, None}
use Rattle.std.specs.List.{list_any, list_all}
use Rattle.mf_base.specs.declared.place.Place.{Place}
use Rattle.mf_base.specs.declared.tile.TilePlace.{TilePlace}
use Rattle.feature_model.specs.Inside.{Ring, edges, inside}
use Rattle.map_model.specs.Labels.{is_closed}
use Rattle.map_model.specs.SubFile.{edge_meets}
use Rattle.map_model.specs.TileBytes.{tile_corner}

-- the last of a place and those behind it
abbrev pub last_of : Place → Ring → Place
last_of first [] = first
last_of first (next ∷ places) = last_of next places

-- whether the edge from the last place to the next meets a tile; there is none before the first place
abbrev pub step_meets : TilePlace → Option Place → Place → Bool
step_meets tile None next = false
step_meets tile (Some last) next = edge_meets tile (last, next)

-- no edge meets the tile, and its corner is inside the rings
abbrev pub has_corner : TilePlace → List Ring → Bool
has_corner tile rings = not (list_any (edge_meets tile) (flat_map edges rings)) && inside rings (tile_corner tile)

-- closed rings of which the same holds
abbrev pub rings_cover : TilePlace → List Ring → Bool
rings_cover tile rings = list_all is_closed rings && has_corner tile rings
