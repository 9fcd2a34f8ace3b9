use Rattle.std.proofs.Common.{◌≡◌, ◌≤◌, true, length}
use Rattle.spill_parts.specs.Parts.{Piece, IsThere, IsReading}
use Rattle.mf_ingest.proofs.sample.are_rows.Given as goal

abbrev pub invariant-loop-row : goal.invariant-loop-row
invariant-loop-row g l = record {
  started : (g.P.Spill.state l.spill).is_started ≡ true;
  reading : IsReading g.K.RowKind.kind l.reader l.page (g.P.Spill.state l.spill);
  there : (p : Piece) → IsThere p (g.P.Spill.state l.fn.spill) → IsThere p (g.P.Spill.state l.spill);
  few : l.n ≤ length l.rows;
}

abbrev pub decreases-loop-row : goal.decreases-loop-row
decreases-loop-row g l = length l.reader.left
