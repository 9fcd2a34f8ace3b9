use Rattle.std.proofs.Common.{length}
use Rattle.pbf_wire.proofs.CheckReads.{CheckedSoFar}
use Rattle.pbf_wire.proofs.check.check_fields.Given as goal

-- the fields before had no fault
abbrev pub invariant-loop-field : goal.invariant-loop-field
invariant-loop-field l = CheckedSoFar l.rules l.bytes l.seen l.fields

abbrev pub decreases-loop-field : goal.decreases-loop-field
decreases-loop-field l = length l.fields
