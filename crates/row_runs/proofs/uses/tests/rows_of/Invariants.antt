use Rattle.std.proofs.Common.{◌≡◌, ◌≤◌, true, length}
use Rattle.spill_parts.specs.Parts.{IsReading}
use Rattle.row_runs.proofs.uses.tests.rows_of.Given as goal

abbrev pub invariant-loop-row : goal.invariant-loop-row
invariant-loop-row g l = record {
  started : (g.P.Spill.state l.spill).is_started ≡ true;
  reading : IsReading g.O.RowKind.kind l.reader l.page (g.P.Spill.state l.spill);
  few : l.n ≤ length l.room;
}

abbrev pub decreases-loop-row : goal.decreases-loop-row
decreases-loop-row g l = length l.reader.left
