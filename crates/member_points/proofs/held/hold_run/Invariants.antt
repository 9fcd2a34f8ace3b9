use Rattle.std.proofs.Common.{◌≡◌, ◌+◌, ◌*◌, ◌≤◌, true, [], map, length}
use Rattle.mf_edge.specs.Spill.{SameParts}
use Rattle.mf_rows.specs.Kinds.{point_kind}
use Rattle.row_runs.specs.Runs.{run_of, after_run}
use Rattle.row_runs.specs.Running.{IsRunning, rows_left}
use Rattle.way_points.specs.PointRows.{point_way, point_told}
use Rattle.member_points.proofs.Fronts.{HoldsFront}
use Rattle.member_points.proofs.held.hold_run.Given as goal

abbrev pub invariant-loop-row : goal.invariant-loop-row
invariant-loop-row g l = record {
  same : SameParts (g.P.Spill.state l.fn.spill) (g.P.Spill.state l.spill);
  same_faults : (g.P.Spill.state l.spill).faults ≡ (g.P.Spill.state l.fn.spill).faults;
  running : IsRunning point_kind point_way l.runs l.page (g.P.Spill.state l.spill);
  source : l.runs.reading.source ≡ l.fn.runs.reading.source;
  room : l.page.room ≡ l.fn.page.room;
  none : l.records.records ≡ [];
  capacity : l.records.capacity ≡ l.fn.records.capacity;
  few : length l.records.loose ≤ l.count;
  held : (g.P.Spill.state l.fn.spill).tells ≡ true
      → HoldsFront l.fn.records.capacity l.count l.records.loose
      (map point_told (run_of point_way l.way (rows_left l.runs)))
      (map point_told (run_of point_way l.way (rows_left l.fn.runs)));
  left : (g.P.Spill.state l.fn.spill).tells ≡ true
      → after_run point_way l.way (rows_left l.runs) ≡ after_run point_way l.way (rows_left l.fn.runs);
  fewer : l.count + length (rows_left l.runs) ≡ length (rows_left l.fn.runs);
  steps : l.steps + 28 * l.fn.runs.reading.loaded ≡ l.fn.steps + 28 * l.runs.reading.loaded;
}

abbrev pub decreases-loop-row : goal.decreases-loop-row
decreases-loop-row g l = length (rows_left l.runs)
