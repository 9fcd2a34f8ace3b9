use Rattle.std.proofs.Common.{◌≡◌, ◌≤◌, true, length}
use Rattle.row_runs.specs.Running.{IsRunning}
use Rattle.row_runs.proofs.uses.tests.given.Given as goal

abbrev pub invariant-loop-key : goal.invariant-loop-key
invariant-loop-key g l = record {
  started : (g.P.Spill.state l.spill).is_started ≡ true;
  running : IsRunning g.N.RowKind.kind g.N.Keyed.key_of l.runs l.page (g.P.Spill.state l.spill);
  few : l.n ≤ length l.room;
}
