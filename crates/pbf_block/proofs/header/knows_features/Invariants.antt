use Rattle.std.proofs.Common.{◌≡◌, length}
use Rattle.std.specs.List.{list_all}
use Rattle.osm_model.specs.Wire.{fields}
use Rattle.osm_model.specs.Tables.{bytes_of}
use Rattle.osm_model.specs.Blocks.{is_known_feature}
use Rattle.pbf_block.proofs.header.knows_features.Given as goal

-- all features before are known
abbrev pub invariant-loop-feature : goal.invariant-loop-feature
invariant-loop-feature l =
    list_all is_known_feature (bytes_of 4 (fields l.bytes).items)
    ≡ list_all is_known_feature (bytes_of 4 (fields l.fields).items)

abbrev pub decreases-loop-feature : goal.decreases-loop-feature
decreases-loop-feature l = length l.fields
