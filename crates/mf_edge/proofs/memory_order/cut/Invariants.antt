use Rattle.std.proofs.Common.{◌≡◌, ℕ, ◌*◌, ◌+◌, ◌++◌, length}
use Rattle.mf_base.specs.Ascending.{cut_rows}
use Rattle.mf_edge.proofs.OrderedInMemory.{items_of}
use Rattle.mf_edge.proofs.memory_order.cut.Given as goal

abbrev pub invariant-loop-rest : goal.invariant-loop-rest
invariant-loop-rest l = record {
  many : length l.bytes ≡ l.width * length l.rows.items + length l.rest;
  cut : (n : ℕ) → items_of l.rows.items ++ cut_rows l.width n l.rest ≡ cut_rows l.width (length l.rows.items + n)
      l.bytes;
}

abbrev pub decreases-loop-rest : goal.decreases-loop-rest
decreases-loop-rest l = length l.rest
