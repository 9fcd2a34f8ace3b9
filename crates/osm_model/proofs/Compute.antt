-- Opens the definitions of specs/, so that they compute on literals.
use Rattle.std.specs.Prelude.{⊤}
use Rattle.std.specs.Str.{is_utf8, chars}
use lib.Utf8.{encode}
use Rattle.mf_base.proofs.Compute as base
use Rattle.mf_base.specs.Packed.{runs}
use Rattle.osm_model.specs.Wire.{field_front, fields_behind}
use Rattle.osm_model.specs.Tables.{fields_fault, message_fault, message}
use Rattle.osm_model.specs.Frames.{raw_bytes, frame_front, frames_behind}
use Rattle.osm_model.specs.Blocks.{place_of, box_in, header_box, block_head, strings_in, block_strings, block}
use Rattle.osm_model.specs.Objects.{indexed_tags, running_sums, node_object, tag_runs, run_tags, with_runs, dense_from}
use Rattle.osm_model.specs.Objects.{dense_columns, dense_objects, way_object, relation_object, group_objects}
use Rattle.osm_model.specs.Objects.{block_objects, block_entities}
use Rattle.osm_model.specs.Order.{in_order}
use Rattle.osm_model.specs.Input.{block_fault, entities_in, sound_frames, good_frames, input_fault, input_entities}
use Rattle.osm_model.specs.Input.{input_box}

unfoldable pub compute : ⊤
unfolding base.compute is_utf8 chars encode field_front fields_behind runs fields_fault message_fault message
    raw_bytes frame_front frames_behind place_of box_in header_box block_head strings_in block_strings block
    indexed_tags running_sums node_object tag_runs run_tags with_runs dense_from dense_columns dense_objects
    way_object relation_object group_objects block_objects in_order block_entities block_fault entities_in
    sound_frames good_frames input_fault input_entities input_box
compute = tt
