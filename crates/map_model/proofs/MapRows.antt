-- Whole maps of one tile.
use Rattle.std.proofs.Common.{◌≡◌, ◌+◌, [], ◌∷◌, ◌++◌, length, refl, ap, ◌∙◌, map, set, drop, true, false, None, Some}
use Rattle.std.specs.Prelude.{replicate, codes}
use Rattle.std.specs.Option.{option_or}
use Rattle.osm_model.specs.Input.{input_entities, known_box}
use Rattle.osm_model.specs.Samples as extracts
use Rattle.osm_model.proofs.Compute as input
use Rattle.feature_model.specs.Features.{features}
use Rattle.feature_model.specs.declared.fault.LimitFault.{LimitFault}
use Rattle.feature_model.specs.Samples.{benches, bench_with, paths, path, node_at, way_of, at, forests, forest_of}
use Rattle.feature_model.specs.Samples.{outer, member_of}
use Rattle.map_model.specs.Rectangles.{origin}
use Rattle.map_model.specs.Members.{members}
use Rattle.map_model.specs.TileBytes.{tile_bytes}
use Rattle.map_model.specs.SubFile.{sub_file_size}
use Rattle.map_model.specs.TagLists.{tag_lists}
use Rattle.map_model.specs.MapFile.{all_contents, map_of_contents, map_of, map_file, tile_limit_fault}
use Rattle.map_model.specs.MapFile.{sub_file_limit_fault, sub_file_sizes, limit_fault, job_size, report}
use Rattle.map_model.specs.Samples.{bench, settings_to, degree_box, bench_tags, bench_map, empty_map, bench_numbers}
use Rattle.map_model.specs.Samples.{bench_sub_file, world_tile, middle_tile, garden, garden_tile, content, five_benches}
use Rattle.map_model.specs.Samples.{late_benches}
use Rattle.map_model.proofs.World.{world_contents, world_members, world_bytes, bytes_from, world_limit, world_size}
use Rattle.map_model.proofs.World.{world_report}
use Rattle.map_model.proofs.LatitudeRows.{corner_third}
use Rattle.map_model.proofs.Compute.{compute}

one : features benches (bench_with []) ≡ bench ∷ []
unfolding compute
one = refl

bench_contents : all_contents (settings_to 7) degree_box (bench ∷ [])
    ≡ (content false (drop 5 bench_sub_file) ∷ []) ∷ []
unfolding compute
bench_contents = world_contents 7 degree_box (bench ∷ []) ∙ (λ i. (content false (world_bytes 7 bench [] i) ∷ []) ∷ [])

spelled : map_of_contents (settings_to 7) bench_tags degree_box ((content false (drop 5 bench_sub_file) ∷ []) ∷ [])
    ≡ bench_map
unfolding compute
spelled = refl

pub one_bench : map_file (settings_to 7) benches degree_box (bench_with []) ≡ bench_map
unfolding map_file map_of
one_bench = ap (map_of (settings_to 7) bench_tags degree_box) one
    ∙ ap (map_of_contents (settings_to 7) bench_tags degree_box) bench_contents ∙ spelled

bench_entities : input_entities extracts.one_bench ≡ bench_with []
unfolding input.compute
bench_entities = refl

bench_box : known_box None extracts.one_bench ≡ Some degree_box
unfolding input.compute
bench_box = refl

pub one_bench_extract : (known_box None extracts.one_bench ≡ Some degree_box)
    × (map_file (settings_to 7) benches degree_box (input_entities extracts.one_bench) ≡ bench_map)
one_bench_extract = (bench_box, ap (map_file (settings_to 7) benches degree_box) bench_entities ∙ one_bench)

empty : map_of_contents (settings_to 7) bench_tags degree_box ((content false [] ∷ []) ∷ []) ≡ empty_map
unfolding compute
empty = refl

pub header_alone : map_file (settings_to 7) benches degree_box [] ≡ empty_map
unfolding compute
header_alone = ap (map_of_contents (settings_to 7) bench_tags degree_box) (world_contents 7 degree_box []) ∙ empty

pub zoom_above_maximum : map_file (settings_to 7) late_benches degree_box (bench_with []) ≡ empty_map
unfolding compute
zoom_above_maximum =
    ap (map_of_contents (settings_to 7) bench_tags degree_box)
    (world_contents 7 degree_box (features late_benches (bench_with []))) ∙ empty

pub at_the_maximum : members (record bench { zoom = 7 } ∷ []) (world_tile 7) ≡ record bench { zoom = 7 } ∷ []
unfolding compute
at_the_maximum = world_members 7 (record bench { zoom = 7 } ∷ [])

pub third_interval : tile_bytes middle_tile (record bench { zoom = 12 } ∷ []) ≡ 0x01 ∷ 0x00 ∷ replicate 18 0
    ++ 0x05 ∷ 0x00 ∷ 0x00 ∷ 0x51 ∷ 0x00 ∷ 0x00 ∷ []
unfolding compute
third_interval = bytes_from middle_tile origin (record bench { zoom = 12 }) [] corner_third

pub garden_bytes : tile_bytes (world_tile 21) (record garden { coast = true } ∷ [])
    ≡ set (set garden_tile 46 0xFF) 47 0xFF
unfolding compute
garden_bytes = world_bytes 21 (record garden { coast = true }) []

pub ruleset map_rows =
    (one_bench, one_bench_extract, header_alone, zoom_above_maximum, at_the_maximum, third_interval, garden_bytes)

-- ---- reports

pub bench_report : report (settings_to 7) benches degree_box (bench_with []) ≡ bench_numbers
unfolding compute
bench_report = world_report 7 benches degree_box (bench_with [])
    ∙ (λ i. record bench_numbers { bytes = length (one_bench i) })

pub empty_report : report (settings_to 7) benches degree_box [] ≡ record {
  nodes = 0;
  ways = 0;
  relations = 0;
  features = 0;
  skipped = 0;
  tiles = 0;
  water = 0;
  bytes = 115;
  largest = 0;
}
unfolding compute
empty_report = world_report 7 benches degree_box []
    ∙ (λ i. record {
      nodes = 0;
      ways = 0;
      relations = 0;
      features = 0;
      skipped = 0;
      tiles = 0;
      water = 0;
      bytes = length (header_alone i);
      largest = 0;
    })

pub late_report : report (settings_to 7) late_benches degree_box (bench_with [])
    ≡ record {
      nodes = 1;
      ways = 0;
      relations = 0;
      features = 1;
      skipped = 0;
      tiles = 0;
      water = 0;
      bytes = 115;
      largest = 11;
    }
unfolding compute
late_report = world_report 7 late_benches degree_box (bench_with [])
    ∙ (λ i. record {
      nodes = 1;
      ways = 0;
      relations = 0;
      features = 1;
      skipped = 0;
      tiles = 0;
      water = 0;
      bytes = length (zoom_above_maximum i);
      largest = 11;
    })

five_bytes : length (map_file (settings_to 7) benches degree_box five_benches) ≡ 192
unfolding compute
five_bytes =
    let shown = features benches five_benches in
    ap (λ all. length (map_of_contents (settings_to 7) bench_tags degree_box all)) (world_contents 7 degree_box shown)
    ∙ (λ i. length (map_of_contents (settings_to 7) bench_tags degree_box
    ((content false (world_bytes 7 bench (drop 1 shown) i) ∷ []) ∷ [])))

pub five_report : report (settings_to 7) benches degree_box five_benches ≡ record {
  nodes = 5;
  ways = 0;
  relations = 0;
  features = 5;
  skipped = 0;
  tiles = 1;
  water = 0;
  bytes = 192;
  largest = 55;
}
unfolding compute
five_report = world_report 7 benches degree_box five_benches
    ∙ (λ i. record {
      nodes = 5;
      ways = 0;
      relations = 0;
      features = 5;
      skipped = 0;
      tiles = 1;
      water = 0;
      bytes = five_bytes i;
      largest = 55;
    })

skipped_bytes : length
    (map_file (settings_to 7) paths degree_box (node_at 1 (at 0 0) [] ∷ way_of 1 (1 ∷ 2 ∷ 3 ∷ 4 ∷ []) path ∷ [])) ≡ 114
unfolding compute
skipped_bytes = ap (λ all. length (map_of_contents (settings_to 7) (tag_lists paths) degree_box all))
    (world_contents 7 degree_box [])

pub skipped_report : report (settings_to 7) paths degree_box
    (node_at 1 (at 0 0) [] ∷ way_of 1 (1 ∷ 2 ∷ 3 ∷ 4 ∷ []) path ∷ []) ≡ record {
      nodes = 1;
      ways = 1;
      relations = 0;
      features = 0;
      skipped = 1;
      tiles = 0;
      water = 0;
      bytes = 114;
      largest = 12;
    }
unfolding compute
skipped_report = world_report 7 paths degree_box (node_at 1 (at 0 0) [] ∷ way_of 1 (1 ∷ 2 ∷ 3 ∷ 4 ∷ []) path ∷ [])
    ∙ (λ i. record {
      nodes = 1;
      ways = 1;
      relations = 0;
      features = 0;
      skipped = 1;
      tiles = 0;
      water = 0;
      bytes = skipped_bytes i;
      largest = 12;
    })

pub ruleset report_rows = (bench_report, empty_report, late_report, five_report, skipped_report)

-- ---- limits

pub at_the_limit : tile_limit_fault 66 (settings_to 7) degree_box (replicate 6 bench) ≡ None
unfolding compute
at_the_limit = world_limit 66 7 degree_box (replicate 6 bench)

pub over_the_limit : tile_limit_fault 64 (settings_to 7) degree_box (replicate 6 bench)
    ≡ Some (LimitFault.Tile 0 0 0 66)
unfolding compute
over_the_limit = world_limit 64 7 degree_box (replicate 6 bench)

pub forest_and_tile : job_size (settings_to 7) forests degree_box
    (forest_of 3 3 (outer 1 ∷ outer 2 ∷ outer 3 ∷ member_of 4 (codes "inner") ∷ [])) ≡ 44 + 1 + 24
unfolding compute
forest_and_tile =
    world_size 7 forests degree_box (forest_of 3 3 (outer 1 ∷ outer 2 ∷ outer 3 ∷ member_of 4 (codes "inner") ∷ []))

pub then_tile : limit_fault 54 (settings_to 7) benches degree_box five_benches ≡ Some (LimitFault.Tile 0 0 0 55)
unfolding compute
then_tile = ap (λ o.
    option_or o (sub_file_limit_fault (sub_file_sizes (settings_to 7) degree_box (features benches five_benches))))
    (world_limit 54 7 degree_box (features benches five_benches))

pub no_limit : limit_fault 55 (settings_to 7) benches degree_box five_benches ≡ None
unfolding compute
no_limit =
    let shown = features benches five_benches in
    ap (λ o. option_or o (sub_file_limit_fault (sub_file_sizes (settings_to 7) degree_box shown)))
    (world_limit 55 7 degree_box shown)
    ∙ ap (λ all. sub_file_limit_fault (map sub_file_size all)) (world_contents 7 degree_box shown)
    ∙ (λ i. sub_file_limit_fault (sub_file_size (content false (world_bytes 7 bench (drop 1 shown) i) ∷ []) ∷ []))

pub ruleset limit_rows = (at_the_limit, over_the_limit, forest_and_tile, then_tile, no_limit)
