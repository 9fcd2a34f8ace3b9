-- Opens the definitions of specs/, so that they compute on literals. What looks at the whole table of rows stays
-- closed: `row`, `corner` and what they are made of.
use Rattle.std.specs.Prelude.{⊤}
use Rattle.std.specs.Fmt.{digits}
use Rattle.std.specs.Str.{is_utf8, chars}
use lib.Utf8.{encode}
use Rattle.mf_base.proofs.Compute as base
use Rattle.feature_model.proofs.Compute as shapes
use Rattle.map_model.specs.Numbers.{least}
use Rattle.map_model.specs.Mercator.{root_of_scale, scale_at, tangent_at, odd_power, arc_tangent, raw_lat, north_lat}
use Rattle.map_model.specs.Mercator.{edge_lat, column, corner_lat, corner_lon, corner}
use Rattle.map_model.specs.Rectangles.{rect_of_places}
use Rattle.map_model.specs.TileRects.{tile_rect, common, meets, tiles_of}
use Rattle.map_model.specs.Intervals.{interval_tiles}
use Rattle.map_model.specs.IntervalWords.{read_interval, read_intervals}
use Rattle.map_model.specs.Members.{in_tile, in_tile_order, members}
use Rattle.map_model.specs.Bitmap.{rect_bits, sub_tile_bits}
use Rattle.map_model.specs.Labels.{label_place}
use Rattle.map_model.specs.Layout.{sized, tag_bytes, poi_fields_bytes, ring_steps, coordinate_bytes, ring_bytes}
use Rattle.map_model.specs.Layout.{block_bytes, way_body_bytes, way_fields_bytes, levels_bytes}
use Rattle.map_model.specs.TileBytes.{poi_fields, poi_bytes, coordinate_size, is_double, way_fields, way_bytes}
use Rattle.map_model.specs.TileBytes.{tile_bytes, written_level, written_levels}
use Rattle.map_model.specs.Listed.{shown_levels, listed}
use Rattle.map_model.specs.TagLists.{tag_kind}
use Rattle.map_model.specs.Reader.{times, read_each}
use Rattle.map_model.specs.TileReading.{number, signed, count_from, tile_text_at, ranged, place_from, layer_at, id_at}
use Rattle.map_model.specs.TileReading.{tags_at, poi_at, places_after, ring_at, block_at, blocks_at, first_place_at}
use Rattle.map_model.specs.TileReading.{two_signed, label_and_blocks_at, way_body_at, way_at, counts_at, levels_at}
use Rattle.map_model.specs.TileReading.{read_tile_from, read_tile, tile_fault}
use Rattle.map_model.specs.SubFile.{covers, water, content_of, contents, index_bytes, sub_file_of, sub_file}
use Rattle.map_model.specs.Header.{middle_bytes, fields_bytes, header_fields_bytes, written_header, header_size}
use Rattle.map_model.specs.Header.{header_bytes, sub_files}
use Rattle.map_model.specs.HeaderReading.{header_text_at, tag_name_at, tag_list_at, box_at, interval_at, intervals_at}
use Rattle.map_model.specs.HeaderReading.{head_at, flags_at, optional_at, version_at, projection_at, fields_at}
use Rattle.map_model.specs.HeaderReading.{header_length, fields_of, read_header, header_fault}
use Rattle.map_model.specs.MapFile.{all_contents, map_of_contents, map_of, map_file, all_tiles, largest_tile, largest}
use Rattle.map_model.specs.MapFile.{tile_limit_fault, sub_file_limit_fault, layout_fault, limit_fault, shape_size}
use Rattle.map_model.specs.MapFile.{job_size, shown_tiles, water_tiles, report, report_line}
use Rattle.map_model.specs.Listing.{band_of, index_entry_at, tile_end, show_tile, show, listing, poi_line, way_line}
use Rattle.map_model.specs.Listing.{printed, tile_line, tile_text, show_fault_text}

unfoldable pub compute : ⊤
unfolding base.compute shapes.compute digits is_utf8 chars encode column corner_lon rect_of_places tile_rect common
    meets tiles_of interval_tiles
    read_interval read_intervals in_tile in_tile_order members rect_bits sub_tile_bits label_place sized tag_bytes
    poi_fields_bytes ring_steps coordinate_bytes ring_bytes block_bytes way_body_bytes way_fields_bytes levels_bytes
    poi_fields poi_bytes coordinate_size is_double way_fields way_bytes tile_bytes written_level written_levels tag_kind
    shown_levels listed times read_each number signed count_from tile_text_at ranged place_from layer_at id_at tags_at
    poi_at places_after ring_at block_at blocks_at first_place_at two_signed label_and_blocks_at way_body_at way_at
    counts_at levels_at read_tile_from read_tile tile_fault covers water content_of contents index_bytes sub_file_of
    sub_file middle_bytes fields_bytes header_fields_bytes written_header header_size header_bytes sub_files
    header_text_at tag_name_at tag_list_at box_at interval_at intervals_at head_at flags_at optional_at version_at
    projection_at fields_at header_length fields_of read_header header_fault all_contents map_of_contents map_of
    map_file all_tiles largest_tile largest tile_limit_fault sub_file_limit_fault layout_fault limit_fault shape_size
    job_size shown_tiles water_tiles report report_line band_of index_entry_at tile_end show_tile show listing poi_line
    way_line printed tile_line tile_text show_fault_text
compute = tt

-- opens the latitudes of corners too, of which read_each row from the pole on costs some time
unfoldable pub latitudes : ⊤
unfolding base.compute least root_of_scale scale_at tangent_at odd_power arc_tangent raw_lat north_lat edge_lat column
    corner_lat corner_lon corner
latitudes = tt
