use Rattle.std.proofs.Common.{◌-◌, ◌≡◌, ◌≤◌, ◌*◌, length, true, Some}
use Rattle.spill_try.proofs.one_part.append_rows.Given as goal

abbrev pub invariant-loop-done : goal.invariant-loop-done
invariant-loop-done g l = record {
  started : (g.P.Spill.state l.spill).is_started ≡ true;
  size : (g.P.Spill.state l.spill).size l.part ≡ Some (l.shape.width * l.done);
  some : l.done ≤ l.shape.rows;
  page : length l.page ≡ length l.fn.page;
}

abbrev pub decreases-loop-done : goal.decreases-loop-done
decreases-loop-done g l = l.shape.rows - l.done
