use Rattle.std.proofs.Common.{◌≢◌, ◌+◌, ◌≤◌}
use Rattle.mf_edge.specs.Spill.{SameStore}
use Rattle.spill_parts.specs.Parts.{Piece, IsThere, IsHeld}
use Rattle.spill_parts.proofs.test_parts.written.Given as goal

abbrev pub invariant-loop-row : goal.invariant-loop-row
invariant-loop-row g l = record {
  same : SameStore (g.P.Spill.state l.fn.spill) (g.P.Spill.state l.spill);
  count : (g.P.Spill.state l.spill).count ≤ (g.P.Spill.state l.fn.spill).count + 1;
  kept : (p : Piece) → IsThere p (g.P.Spill.state l.fn.spill) → IsThere p (g.P.Spill.state l.spill);
  apart : (p : Piece) → IsThere p (g.P.Spill.state l.fn.spill) → p.part ≢ l.writer.part;
  held : IsHeld g.K.RowKind.kind l.writer (g.P.Spill.state l.spill);
}
