use Rattle.std.proofs.Common.{length}
use Rattle.std.specs.Prelude.{◌↔◌}
use Rattle.std.specs.List.{AllByRecursion}
use Rattle.mf_rows.specs.Shapes.{IsRing}
use Rattle.mf_rows.proofs.features.are_long.Given as goal

-- all are long where those are that are left
abbrev pub invariant-loop-points : goal.invariant-loop-points
invariant-loop-points l = AllByRecursion IsRing l.parts ↔ AllByRecursion IsRing l.fn.parts

abbrev pub decreases-loop-points : goal.decreases-loop-points
decreases-loop-points l = length l.parts
