use Rattle.std.proofs.Common.{◌+◌, List, length, take}
use Rattle.ring_assembly.specs.Laid.{LaidRing, AreRings}
use Rattle.ring_assembly.specs.PutBack.{AreLaid}
use Rattle.ring_assembly.proofs.Putting.{BlocksLeft}
use Rattle.ring_assembly.proofs.put_back.put_blocks.Given as goal

abbrev pub invariant-loop-ring : goal.invariant-loop-ring
invariant-loop-ring l = record {
  known : (os is : List LaidRing) → AreLaid l.front os is l.fn.outer l.fn.inner l.fn.records l.out
      → BlocksLeft l.front os is l.left l.home
      (record l.fn.records { loose = take (l.front + l.fn.outer.rows + l.fn.inner.housed) l.fn.records.loose })
      l.records l.place (l.front + l.fn.outer.rows + l.fn.inner.housed);
  rows : AreRings l.left;
}

abbrev pub decreases-loop-ring : goal.decreases-loop-ring
decreases-loop-ring l = length l.left
