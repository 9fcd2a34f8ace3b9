use Rattle.std.proofs.Common.{◌-◌, ◌≡◌, ◌≤◌, ◌*◌, length, true, Some}
use Rattle.spill_try.proofs.one_part.is_ordered.Given as goal

abbrev pub invariant-loop-at : goal.invariant-loop-at
invariant-loop-at g l = record {
  started : (g.P.Spill.state l.spill).is_started ≡ true;
  size : (g.P.Spill.state l.spill).size l.part ≡ Some l.size;
  some : l.at ≤ l.size;
  page : length l.page ≡ length l.fn.page;
  bytes : l.page_bytes ≡ l.width * 4096;
}

abbrev pub decreases-loop-at : goal.decreases-loop-at
decreases-loop-at g l = l.size - l.at
