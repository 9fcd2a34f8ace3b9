use Rattle.std.proofs.Common.{◌≡◌, ◌+◌, ◌≤◌, List, length}
use Rattle.ring_assembly.specs.Marked.{Marked, all_units, AreMarked, suits}
use Rattle.ring_assembly.specs.Found.{Passed}
use Rattle.ring_assembly.proofs.parts.first_part.Given as goal

abbrev pub invariant-loop-front : goal.invariant-loop-front
invariant-loop-front l = record {
  passed : (marked : List Marked) → l.parts ≡ all_units marked → Passed (suits l.role l.end) marked l.left l.number;
  marked : AreMarked l.left;
  within : l.number + length l.left ≤ length l.parts;
}

abbrev pub decreases-loop-front : goal.decreases-loop-front
decreases-loop-front l = length l.left
