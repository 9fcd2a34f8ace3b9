use Rattle.std.proofs.Common.{◌≡◌, ◌≤◌, length}
use Rattle.mf_edge.specs.Spill.{SameParts}
use Rattle.row_runs.specs.Running.{IsRunning, rows_left}
use Rattle.row_runs.proofs.uses.tests.give_run.Given as goal

abbrev pub invariant-loop-row : goal.invariant-loop-row
invariant-loop-row g l = record {
  same : SameParts (g.P.Spill.state l.fn.spill) (g.P.Spill.state l.spill);
  running : IsRunning g.N.RowKind.kind g.N.Keyed.key_of l.runs l.page (g.P.Spill.state l.spill);
  room : length l.room ≡ length l.fn.room;
  few : l.n ≤ length l.room;
}

abbrev pub decreases-loop-row : goal.decreases-loop-row
decreases-loop-row g l = length (rows_left l.runs)
