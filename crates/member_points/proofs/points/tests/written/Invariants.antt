use Rattle.std.proofs.Common.{◌≡◌, ◌+◌, ◌≤◌, true, List, [], ◌∷◌, ◌++◌}
use Rattle.mf_edge.specs.Spill.{SameStore}
use Rattle.spill_parts.specs.Parts.{Piece, piece_of, IsHeld, HasJust}
use Rattle.member_points.proofs.points.tests.written.Given as goal

abbrev pub invariant-loop-row : goal.invariant-loop-row
invariant-loop-row g l = record {
  just : (pieces : List Piece) → HasJust pieces (g.P.Spill.state l.fn.spill)
      → HasJust (pieces ++ piece_of g.K.RowKind.kind l.writer ∷ []) (g.P.Spill.state l.spill);
  started : (g.P.Spill.state l.spill).is_started ≡ true;
  same : SameStore (g.P.Spill.state l.fn.spill) (g.P.Spill.state l.spill);
  count : (g.P.Spill.state l.spill).count ≤ (g.P.Spill.state l.fn.spill).count + 1;
  held : IsHeld g.K.RowKind.kind l.writer (g.P.Spill.state l.spill);
}
