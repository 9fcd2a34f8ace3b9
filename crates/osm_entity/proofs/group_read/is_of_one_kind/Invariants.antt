use Rattle.std.proofs.Common.{◌≡◌, length, None}
use Rattle.osm_model.specs.Wire.{fields}
use Rattle.osm_model.specs.Objects.{kinds_in}
use Rattle.osm_entity.specs.GroupKinds.{are_one_with}
use Rattle.osm_entity.proofs.group_read.is_of_one_kind.Given as goal

-- the kinds before are one
abbrev pub invariant-loop-field : goal.invariant-loop-field
invariant-loop-field l =
    are_one_with None (kinds_in (fields l.bytes).items) ≡ are_one_with l.first (kinds_in (fields l.fields).items)

abbrev pub decreases-loop-field : goal.decreases-loop-field
decreases-loop-field l = length l.fields
