use Rattle.std.proofs.Common.{◌≡◌, true, false, length}
use Rattle.row_runs.specs.Running.{IsRunning}
use Rattle.row_runs.proofs.uses.tests.counted.Given as goal

abbrev pub invariant-loop-i : goal.invariant-loop-i
invariant-loop-i g l = record {
  started : (g.P.Spill.state l.spill).is_started ≡ true;
  untold : (g.P.Spill.state l.spill).tells ≡ false;
  running : IsRunning g.N.RowKind.kind g.N.Keyed.key_of l.runs l.page (g.P.Spill.state l.spill);
  room : length l.counts ≡ length l.fn.counts;
}
