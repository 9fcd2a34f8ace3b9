use Rattle.std.proofs.Common.{◌≡◌, ◌+◌, ◌*◌, ◌≤◌, ◌++◌, length}
use Rattle.mf_edge.specs.Spill.{TouchesOnly, part_limit}
use Rattle.spill_parts.specs.Parts.{IsHeld}
use Rattle.spill_parts.proofs.rows.put_rows.Given as goal

abbrev pub invariant-loop-row : goal.invariant-loop-row
invariant-loop-row g l = record {
  only : TouchesOnly l.fn.writer.part (g.P.Spill.state l.fn.spill) (g.P.Spill.state l.spill);
  same_faults : (g.P.Spill.state l.spill).faults ≡ (g.P.Spill.state l.fn.spill).faults;
  held : IsHeld g.K.RowKind.kind l.writer (g.P.Spill.state l.spill);
  part : l.writer.part ≡ l.fn.writer.part;
  all : l.writer.rows ++ g.R.Rows.left l.rows ≡ l.fn.writer.rows ++ g.R.Rows.left l.fn.rows;
  within : g.K.RowKind.kind.width * (length l.fn.writer.rows + length (g.R.Rows.left l.fn.rows)) ≤ part_limit
      → (g.P.Spill.state l.spill).is_overrun ≡ (g.P.Spill.state l.fn.spill).is_overrun;
}

abbrev pub decreases-loop-row : goal.decreases-loop-row
decreases-loop-row g l = length (g.R.Rows.left l.rows)
