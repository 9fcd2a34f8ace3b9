use Rattle.std.proofs.Common.{◌≡◌, ◌+◌, ◌*◌, ◌≤◌, true, length}
use Rattle.mf_edge.specs.Spill.{SameParts}
use Rattle.row_runs.specs.Runs.{run_of, after_run}
use Rattle.row_runs.specs.Running.{IsRunning, rows_left}
use Rattle.row_runs.proofs.uses.count_run.Given as goal

abbrev pub invariant-loop-row : goal.invariant-loop-row
invariant-loop-row g l = record {
  same : SameParts (g.P.Spill.state l.fn.spill) (g.P.Spill.state l.spill);
  same_faults : (g.P.Spill.state l.spill).faults ≡ (g.P.Spill.state l.fn.spill).faults;
  running : IsRunning g.N.RowKind.kind g.N.Keyed.key_of l.runs l.page (g.P.Spill.state l.spill);
  source : l.runs.reading.source ≡ l.fn.runs.reading.source;
  room : l.page.room ≡ l.fn.page.room;
  number : (g.P.Spill.state l.fn.spill).tells ≡ true
      → l.n + length (run_of g.N.Keyed.key_of l.key (rows_left l.runs))
      ≡ length (run_of g.N.Keyed.key_of l.key (rows_left l.fn.runs));
  left : (g.P.Spill.state l.fn.spill).tells ≡ true
      → after_run g.N.Keyed.key_of l.key (rows_left l.runs) ≡ after_run g.N.Keyed.key_of l.key (rows_left l.fn.runs);
  fewer : l.n + length (rows_left l.runs) ≡ length (rows_left l.fn.runs);
  steps : l.steps + g.N.RowKind.kind.width * l.fn.runs.reading.loaded
      ≡ l.fn.steps + g.N.RowKind.kind.width * l.runs.reading.loaded;
  within : g.N.RowKind.kind.width * l.runs.reading.loaded
      ≤ g.N.RowKind.kind.width * length l.runs.reading.source.rows;
}

abbrev pub decreases-loop-row : goal.decreases-loop-row
decreases-loop-row g l = length (rows_left l.runs)
