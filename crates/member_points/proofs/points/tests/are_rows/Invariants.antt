use Rattle.std.proofs.Common.{◌≡◌, ◌≤◌, true, length}
use Rattle.mf_rows.specs.Kinds.{rel_kind}
use Rattle.spill_parts.specs.Parts.{IsReading}
use Rattle.member_points.proofs.points.tests.are_rows.Given as goal

abbrev pub invariant-loop-row : goal.invariant-loop-row
invariant-loop-row g l = record {
  started : (g.P.Spill.state l.spill).is_started ≡ true;
  reading : IsReading rel_kind l.reader l.page (g.P.Spill.state l.spill);
  few : l.n ≤ length l.rows;
}

abbrev pub decreases-loop-row : goal.decreases-loop-row
decreases-loop-row g l = length l.reader.left
