-- The whole map, its limits and the report: Mapsforge Specification, Binary Map File Format, version 5, on the
-- structure of the file; limits and report are this project's profile.
use Rattle.std.specs.Prelude.{ℕ, ◌+◌, ◌^◌, max, nat_lt, nat_le, List, [], ◌∷◌, ◌++◌, map, flat_map, fold, length}
use Rattle.std.specs.Prelude.{sum_by, count_by, find, Option, option_map, codes, decimal}
use Rattle.std.specs.List.{enumerate_from}
use Rattle.std.specs.Option.{option_or}
use Rattle.mf_base.specs.declared.place.Rect.{Rect}
use Rattle.mf_base.specs.declared.tile.TilePlace.{TilePlace}
use Rattle.osm_model.specs.Entities.{Entity, nodes_of, ways_of, relations_of}
use Rattle.feature_model.specs.Mapping.{Mapping}
use Rattle.feature_model.specs.Features.{Feature, features, skipped}
use Rattle.feature_model.specs.Candidates.{candidates}
use Rattle.feature_model.specs.Weights.{weight}
use Rattle.feature_model.specs.declared.fault.LimitFault.{LimitFault}
use Rattle.feature_model.specs.Limits.{candidate_fault, largest_candidate}
use Rattle.map_model.specs.Intervals.{interval_tiles}
use Rattle.map_model.specs.Members.{members, weight_of_tile}
use Rattle.map_model.specs.SubFile.{TileContent, water, contents, sub_file_of, sub_file_size}
use Rattle.map_model.specs.TagLists.{TagLists, tag_lists}
use Rattle.map_model.specs.declared.report.Report.{Report}
use Rattle.map_model.specs.Header.{HeadSettings, header_size, header_bytes, sub_files}

-- the contents of the tiles of each interval, in order
unfoldable pub all_contents : HeadSettings → Rect → List Feature → List (List TileContent)
all_contents set box features = map (λ at. contents features box at.0 at.1) (enumerate_from 0 set.intervals)

-- the header, followed by the sub-files
unfoldable pub map_of_contents : HeadSettings → TagLists → Rect → List (List TileContent) → List ℕ
map_of_contents set names box all =
    header_bytes set box names (sub_files (header_size set names) (map sub_file_size all)) ++ flat_map sub_file_of all

-- the map of some features
unfoldable pub map_of : HeadSettings → TagLists → Rect → List Feature → List ℕ
map_of set names box features = map_of_contents set names box (all_contents set box features)

-- the map of the entities of an input
unfoldable pub map_file : HeadSettings → Mapping → Rect → List Entity → List ℕ
map_file set mapping box entities = map_of set (tag_lists mapping) box (features mapping entities)

-- ---- weights and limits

-- the tiles of all intervals, by interval, then y, then x
unfoldable pub all_tiles : HeadSettings → Rect → List TilePlace
all_tiles set box = flat_map (λ at. interval_tiles box at.0 at.1) (enumerate_from 0 set.intervals)

-- the weight of a tile: those of its members together
abbrev pub tile_weight : List Feature → TilePlace → ℕ
tile_weight features tile = weight_of_tile (members features tile)

-- the greatest weight of all tiles, or 0
unfoldable pub largest_tile : HeadSettings → Rect → List Feature → ℕ
largest_tile set box features = fold max 0 (map (tile_weight features) (all_tiles set box))

-- the greatest weight of all candidates and tiles, or 0
unfoldable pub largest : HeadSettings → Mapping → Rect → List Entity → ℕ
largest set mapping box entities =
    max (largest_candidate mapping entities) (largest_tile set box (features mapping entities))

-- the first tile that weighs more than the limit, by interval, then y, then x
unfoldable pub tile_limit_fault : ℕ → HeadSettings → Rect → List Feature → Option LimitFault
tile_limit_fault limit set box features =
    option_map (λ t. LimitFault.Tile t.index t.x t.y (tile_weight features t))
    (find (λ t. nat_lt limit (tile_weight features t)) (all_tiles set box))

-- the first interval whose sub-file has 2^39 bytes or more
unfoldable pub sub_file_limit_fault : List ℕ → Option LimitFault
sub_file_limit_fault sizes =
    option_map (λ at. LimitFault.SubFile at.0 at.1) (find (λ at. nat_le (2 ^ 39) at.1) (enumerate_from 0 sizes))

-- the sizes of the sub-files, in bytes
abbrev pub sub_file_sizes : HeadSettings → Rect → List Feature → List ℕ
sub_file_sizes set box features = map sub_file_size (all_contents set box features)

-- the first tile, else the first sub-file that passes its limit
unfoldable pub layout_fault : ℕ → HeadSettings → Rect → List Feature → Option LimitFault
layout_fault limit set box features =
    option_or (tile_limit_fault limit set box features) (sub_file_limit_fault (sub_file_sizes set box features))

-- the first candidate, else the first tile, else the first sub-file that passes its limit
unfoldable pub limit_fault : ℕ → HeadSettings → Mapping → Rect → List Entity → Option LimitFault
limit_fault limit set mapping box entities =
    option_or (candidate_fault limit mapping entities) (layout_fault limit set box (features mapping entities))

-- ---- sizes

-- nodes, refs and members of an input, and the weights of all candidates
unfoldable pub shape_size : Mapping → List Entity → ℕ
shape_size mapping entities =
    length (nodes_of entities) + sum_by (λ w. length w.refs) (ways_of entities)
    + sum_by (λ r. length r.members) (relations_of entities)
    + sum_by weight (candidates mapping entities)

-- the size of a job: besides, the tiles of all intervals, and over each member of each tile its weight
unfoldable pub job_size : HeadSettings → Mapping → Rect → List Entity → ℕ
job_size set mapping box entities =
    shape_size mapping entities + length (all_tiles set box) + sum_by (tile_weight (features mapping entities))
    (all_tiles set box)

-- ---- report

-- how many tiles have members
unfoldable pub shown_tiles : HeadSettings → Rect → List Feature → ℕ
shown_tiles set box features = count_by (λ tile. nat_lt 0 (length (members features tile))) (all_tiles set box)

-- how many tiles have the water bit
unfoldable pub water_tiles : HeadSettings → Rect → List Feature → ℕ
water_tiles set box features = count_by (λ tile. water tile (members features tile)) (all_tiles set box)

-- the report of the map of an input
unfoldable pub report : HeadSettings → Mapping → Rect → List Entity → Report
report set mapping box entities =
    let shown = features mapping entities in
    record {
      nodes = length (nodes_of entities);
      ways = length (ways_of entities);
      relations = length (relations_of entities);
      features = length shown;
      skipped = skipped mapping entities;
      tiles = shown_tiles set box shown;
      water = water_tiles set box shown;
      bytes = length (map_file set mapping box entities);
      largest = largest set mapping box entities;
    }

-- a word, a blank and a number in decimal
abbrev pub worded : List ℕ → ℕ → List ℕ
worded word n = word ++ 32 ∷ decimal n

-- the one line that a finished run says
unfoldable pub report_line : Report → List ℕ
report_line r =
    worded (codes "nodes") r.nodes ++ worded (codes " ways") r.ways ++ worded (codes " relations") r.relations
    ++ worded (codes " features") r.features ++ worded (codes " skipped") r.skipped ++ worded (codes " tiles") r.tiles
    ++ worded (codes " water") r.water ++ worded (codes " bytes") r.bytes ++ worded (codes " largest") r.largest
    ++ 10 ∷ []
