use Rattle.std.proofs.Common.{◌≡◌, true, length}
use Rattle.mf_rows.specs.Kinds.{feature_kind}
use Rattle.spill_parts.specs.Parts.{Piece, IsThere, IsReading}
use Rattle.mf_ingest.proofs.sample.are_units.Given as goal

abbrev pub invariant-loop-row : goal.invariant-loop-row
invariant-loop-row g l = record {
  started : (g.P.Spill.state l.spill).is_started ≡ true;
  reading : IsReading feature_kind l.reader l.page (g.P.Spill.state l.spill);
  there : (p : Piece) → IsThere p (g.P.Spill.state l.fn.spill) → IsThere p (g.P.Spill.state l.spill);
}

abbrev pub decreases-loop-row : goal.decreases-loop-row
decreases-loop-row g l = length l.reader.left
