use Rattle.std.proofs.Common.{List}
use Rattle.ring_assembly.specs.Taken.{units_left}
use Rattle.ring_assembly.specs.Laid.{LaidRing}
use Rattle.ring_assembly.specs.JoiningParts.{RingsJoined}
use Rattle.ring_assembly.proofs.joining.join_parts.Given as goal

abbrev pub invariant-loop-start : goal.invariant-loop-start
invariant-loop-start l = (found : List LaidRing) × RingsJoined l.front l.role l.outer found l.laid l.fn.records l.fn.out
    l.records l.out

abbrev pub decreases-loop-start : goal.decreases-loop-start
decreases-loop-start l = units_left l.front l.records
