use Rattle.std.proofs.Common.{◌≡◌, ◌+◌, ◌-◌, ◌*◌, ◌≤◌, true, ◌∷◌, length}
use Rattle.mf_edge.specs.Spill.{SameParts}
use Rattle.mf_rows.specs.Desks.{units_in}
use Rattle.spill_parts.specs.Parts.{IsReading}
use Rattle.spill_parts.specs.Join.{rest_of}
use Rattle.unit_rows.specs.Runs.{going_on, next_on}
use Rattle.unit_rows.proofs.Loads.{IsLoading}
use Rattle.unit_rows.proofs.load.load_record.Given as goal

abbrev pub invariant-loop-records : goal.invariant-loop-records
invariant-loop-records g l = record {
  same : SameParts (g.P.Spill.state l.fn.spill) (g.P.Spill.state l.spill);
  same_faults : (g.P.Spill.state l.spill).faults ≡ (g.P.Spill.state l.fn.spill).faults;
  reading : IsReading g.K.RowKind.kind l.reader l.page (g.P.Spill.state l.spill);
  source : l.reader.source ≡ l.fn.reader.source;
  room : l.page.room ≡ l.fn.page.room;
  records : l.records.records ≡ l.fn.records.records;
  capacity : l.records.capacity ≡ l.fn.records.capacity;
  loading : (g.P.Spill.state l.fn.spill).tells ≡ true
      → IsLoading g.K.UnitRow.unit_of g.K.UnitRow.place_of (l.fn.records.capacity - units_in l.fn.records.records)
      (l.first ∷ going_on g.K.UnitRow.place_of l.fn.reader.left) (next_on g.K.UnitRow.place_of l.fn.reader.left)
      (rest_of l.next l.reader.left) l.units l.records.loose;
  counted : l.units + length (rest_of l.next l.reader.left) ≡ 1 + length l.fn.reader.left;
  few : length l.records.loose ≤ l.units;
  some : 1 ≤ l.units;
  steps : l.steps + g.K.RowKind.kind.width * l.fn.reader.loaded ≡ l.fn.steps + g.K.RowKind.kind.width * l.reader.loaded;
  within : g.K.RowKind.kind.width * l.reader.loaded ≤ g.K.RowKind.kind.width * length l.reader.source.rows;
}

abbrev pub decreases-loop-records : goal.decreases-loop-records
decreases-loop-records g l = length (rest_of l.next l.reader.left)
