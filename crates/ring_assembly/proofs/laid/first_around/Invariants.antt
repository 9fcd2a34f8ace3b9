use Rattle.std.proofs.Common.{◌≡◌, List, length}
use Rattle.ring_assembly.specs.Laid.{LaidRing, AreRowsOf, AreRings}
use Rattle.ring_assembly.proofs.LastRings.{AreLeft}
use Rattle.ring_assembly.proofs.laid.first_around.Given as goal

abbrev pub invariant-loop-ring : goal.invariant-loop-ring
invariant-loop-ring l = record {
  seen : (laid : List LaidRing) → AreRowsOf laid l.outer → l.rings ≡ length laid
      → AreLeft laid l.p l.left l.number l.home;
  rows : AreRings l.left;
}

abbrev pub decreases-loop-ring : goal.decreases-loop-ring
decreases-loop-ring l = length l.left
