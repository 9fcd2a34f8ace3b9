use Rattle.std.proofs.Common.{◌≡◌, ◌≢◌, true}
use Rattle.spill_parts.specs.Parts.{IsHeld}
use Rattle.row_runs.specs.Running.{IsRunning}
use Rattle.row_runs.proofs.uses.tests.put_out.Given as goal

abbrev pub invariant-loop-key : goal.invariant-loop-key
invariant-loop-key g l = record {
  started : (g.P.Spill.state l.spill).is_started ≡ true;
  running : IsRunning g.N.RowKind.kind g.N.Keyed.key_of l.runs l.page (g.P.Spill.state l.spill);
  held : IsHeld g.O.RowKind.kind l.out (g.P.Spill.state l.spill);
  apart : l.runs.reading.source.part ≢ l.out.part;
}
