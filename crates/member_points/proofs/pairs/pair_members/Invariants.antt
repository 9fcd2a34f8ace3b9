use Rattle.std.proofs.Common.{◌≡◌, ◌≢◌, ◌+◌, ◌*◌, ◌≤◌, true, ◌++◌, length}
use Rattle.std.specs.List.{AllByRecursion}
use Rattle.mf_edge.specs.Spill.{SameStore, part_limit}
use Rattle.mf_rows.specs.Kinds.{member_kind, point_kind, rel_kind}
use Rattle.spill_parts.specs.Parts.{IsHeld, IsReading}
use Rattle.spill_parts.specs.Join.{Climbs, IsAdded}
use Rattle.row_runs.specs.Running.{IsRunning, rows_left}
use Rattle.way_points.specs.PointRows.{point_way}
use Rattle.member_points.specs.RelRows.{member_way}
use Rattle.member_points.specs.Pairing.{paired_rows, IsHolding}
use Rattle.member_points.proofs.pairs.pair_members.Given as goal

abbrev pub invariant-loop-member : goal.invariant-loop-member
invariant-loop-member g l = record {
  same : SameStore (g.P.Spill.state l.fn.spill) (g.P.Spill.state l.spill);
  same_faults : (g.P.Spill.state l.spill).faults ≡ (g.P.Spill.state l.fn.spill).faults;
  reading : IsReading member_kind l.reader l.first (g.P.Spill.state l.spill);
  running : IsRunning point_kind point_way l.runs l.second (g.P.Spill.state l.spill);
  out : IsHeld rel_kind l.out (g.P.Spill.state l.spill);
  added : IsAdded l.out.part (g.P.Spill.state l.fn.spill) (g.P.Spill.state l.spill);
  members_apart : l.reader.source.part ≢ l.out.part;
  points_apart : l.runs.reading.source.part ≢ l.out.part;
  members : l.reader.source ≡ l.members;
  points : l.runs.reading.source ≡ l.points;
  few : length l.records.loose ≤ l.held.count;
  capacity : l.records.capacity ≡ l.fn.records.capacity;
  holding : (g.P.Spill.state l.fn.spill).tells ≡ true → IsHolding l.records.capacity l.held.way l.held.count
      l.records.loose (rows_left l.runs) l.runs.reading.source.rows;
  climbs : (g.P.Spill.state l.fn.spill).tells ≡ true → Climbs member_way l.reader.left;
  above : (g.P.Spill.state l.fn.spill).tells ≡ true
      → AllByRecursion (λ m. l.held.way ≤ member_way m) l.reader.left;
  rows : (g.P.Spill.state l.fn.spill).tells ≡ true
      → l.out.rows ++ paired_rows l.fn.records.capacity l.points.rows l.reader.left
      ≡ paired_rows l.fn.records.capacity l.points.rows l.members.rows;
  within : (g.P.Spill.state l.fn.spill).tells ≡ true
      → 33 * length (paired_rows l.fn.records.capacity l.points.rows l.members.rows) ≤ part_limit
      → (g.P.Spill.state l.spill).is_overrun ≡ (g.P.Spill.state l.fn.spill).is_overrun;
  members_within : 21 * l.reader.loaded ≤ 21 * length l.reader.source.rows;
  points_within : 28 * l.runs.reading.loaded ≤ 28 * length l.runs.reading.source.rows;
  first_room : l.first.room ≡ l.fn.first.room;
  second_room : l.second.room ≡ l.fn.second.room;
  steps : l.steps ≡ l.fn.steps + 21 * l.reader.loaded + 28 * l.runs.reading.loaded;
}

abbrev pub decreases-loop-member : goal.decreases-loop-member
decreases-loop-member g l = length l.reader.left
