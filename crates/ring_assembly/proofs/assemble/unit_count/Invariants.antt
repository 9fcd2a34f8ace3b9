use Rattle.std.proofs.Common.{◌≡◌, ◌+◌, length}
use Rattle.mf_rows.specs.RecordUnits.{parts_count}
use Rattle.ring_assembly.proofs.assemble.unit_count.Given as goal

abbrev pub invariant-loop-points : goal.invariant-loop-points
invariant-loop-points l = l.count + parts_count l.parts ≡ parts_count l.fn.parts

abbrev pub decreases-loop-points : goal.decreases-loop-points
decreases-loop-points l = length l.parts
