use Rattle.std.proofs.Common.{◌≡◌, length}
use Rattle.osm_model.specs.Wire.{fields}
use Rattle.osm_model.specs.Frames.{compressed_of}
use Rattle.pbf_frame.proofs.blob_fields.compressed_in.Given as goal

-- the fields before had no compressed data
abbrev pub invariant-loop-field : goal.invariant-loop-field
invariant-loop-field l = compressed_of (fields l.blob).items ≡ compressed_of (fields l.fields).items

abbrev pub decreases-loop-field : goal.decreases-loop-field
decreases-loop-field l = length l.fields
