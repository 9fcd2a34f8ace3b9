use Rattle.std.proofs.Common.{◌≡◌, ◌+◌, ◌*◌, ◌≤◌, ◌++◌, length, reverse}
use Rattle.ring_assembly.specs.Rows.{rows_in, row_total, IsInRows}
use Rattle.ring_assembly.proofs.rows.lay_reversed.Given as goal

abbrev pub invariant-loop-last : goal.invariant-loop-last
invariant-loop-last l = record {
  rows : rows_in l.out.bytes ++ reverse l.left ≡ rows_in l.fn.out.bytes ++ reverse l.units;
  whole : IsInRows l.out.bytes;
  room : 16 * (row_total l.out.bytes + length l.left) ≤ l.out.capacity;
  capacity : l.out.capacity ≡ l.fn.out.capacity;
}

abbrev pub decreases-loop-last : goal.decreases-loop-last
decreases-loop-last l = length l.left
