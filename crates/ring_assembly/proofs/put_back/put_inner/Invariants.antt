use Rattle.std.proofs.Common.{◌≡◌, List, length}
use Rattle.ring_assembly.specs.Laid.{LaidRing, AreRowsOf, AreRings}
use Rattle.ring_assembly.proofs.Putting.{InnerLeft}
use Rattle.ring_assembly.proofs.put_back.put_inner.Given as goal

abbrev pub invariant-loop-ring : goal.invariant-loop-ring
invariant-loop-ring l = record {
  known : (rings : List LaidRing) → AreRowsOf rings l.rows
      → InnerLeft rings l.home l.left l.fn.records l.records l.place l.end;
  rows : AreRings l.left;
  long : length l.records.loose ≡ length l.fn.records.loose;
}

abbrev pub decreases-loop-ring : goal.decreases-loop-ring
decreases-loop-ring l = length l.left
