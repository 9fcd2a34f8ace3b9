use Rattle.std.proofs.Common.{◌≡◌, ◌+◌, ◌*◌, ◌≤◌, true, ◌++◌, map, length}
use Rattle.mf_edge.specs.Spill.{TouchesOnly, part_limit}
use Rattle.spill_parts.specs.Parts.{IsHeld}
use Rattle.row_runs.specs.Runs.{run_of, after_run}
use Rattle.row_runs.specs.Running.{IsRunning, rows_left}
use Rattle.row_runs.proofs.uses.put_run.Given as goal

abbrev pub invariant-loop-row : goal.invariant-loop-row
invariant-loop-row g l = record {
  only : TouchesOnly l.fn.out.part (g.P.Spill.state l.fn.spill) (g.P.Spill.state l.spill);
  same_faults : (g.P.Spill.state l.spill).faults ≡ (g.P.Spill.state l.fn.spill).faults;
  running : IsRunning g.N.RowKind.kind g.N.Keyed.key_of l.runs l.page (g.P.Spill.state l.spill);
  held : IsHeld g.O.RowKind.kind l.out (g.P.Spill.state l.spill);
  part : l.out.part ≡ l.fn.out.part;
  source : l.runs.reading.source ≡ l.fn.runs.reading.source;
  room : l.page.room ≡ l.fn.page.room;
  rows : (g.P.Spill.state l.fn.spill).tells ≡ true
      → l.out.rows ++ map g.O.MadeOf.made_of (run_of g.N.Keyed.key_of l.key (rows_left l.runs))
      ≡ l.fn.out.rows ++ map g.O.MadeOf.made_of (run_of g.N.Keyed.key_of l.key (rows_left l.fn.runs));
  left : (g.P.Spill.state l.fn.spill).tells ≡ true
      → after_run g.N.Keyed.key_of l.key (rows_left l.runs) ≡ after_run g.N.Keyed.key_of l.key (rows_left l.fn.runs);
  as_many : length l.out.rows + length (rows_left l.runs) ≡ length l.fn.out.rows + length (rows_left l.fn.runs);
  fits_run : (g.P.Spill.state l.fn.spill).tells ≡ true → g.O.RowKind.kind.width * length l.fn.out.rows
      + g.O.RowKind.kind.width * length (run_of g.N.Keyed.key_of l.key (rows_left l.fn.runs)) ≤ part_limit
      → (g.P.Spill.state l.spill).is_overrun ≡ (g.P.Spill.state l.fn.spill).is_overrun;
  fits : g.O.RowKind.kind.width * length l.fn.out.rows + g.O.RowKind.kind.width * length (rows_left l.fn.runs)
      ≤ part_limit → (g.P.Spill.state l.spill).is_overrun ≡ (g.P.Spill.state l.fn.spill).is_overrun;
  steps : l.steps + g.N.RowKind.kind.width * l.fn.runs.reading.loaded
      ≡ l.fn.steps + g.N.RowKind.kind.width * l.runs.reading.loaded;
  within : g.N.RowKind.kind.width * l.runs.reading.loaded
      ≤ g.N.RowKind.kind.width * length l.runs.reading.source.rows;
}

abbrev pub decreases-loop-row : goal.decreases-loop-row
decreases-loop-row g l = length (rows_left l.runs)
