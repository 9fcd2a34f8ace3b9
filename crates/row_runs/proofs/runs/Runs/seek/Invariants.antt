use Rattle.std.proofs.Common.{◌≡◌, ◌+◌, ◌*◌, ◌≤◌, true, false, length}
use Rattle.mf_edge.specs.Spill.{SameParts}
use Rattle.spill_parts.specs.Join.{from_key, is_below}
use Rattle.row_runs.specs.Running.{IsRunning, rows_left}
use Rattle.row_runs.proofs.runs.Runs.seek.Given as goal

abbrev pub invariant-loop-self : goal.invariant-loop-self
invariant-loop-self g l = record {
  same : SameParts (g.P.Spill.state l.fn.spill) (g.P.Spill.state l.spill);
  same_faults : (g.P.Spill.state l.spill).faults ≡ (g.P.Spill.state l.fn.spill).faults;
  running : IsRunning g.N.RowKind.kind g.N.Keyed.key_of l.self l.page (g.P.Spill.state l.spill);
  source : l.self.reading.source ≡ l.fn.self.reading.source;
  room : l.page.room ≡ l.fn.page.room;
  left : (g.P.Spill.state l.fn.spill).tells ≡ true
      → from_key g.N.Keyed.key_of l.key (rows_left l.self) ≡ from_key g.N.Keyed.key_of l.key (rows_left l.fn.self);
  fewer : length (rows_left l.self) ≤ length (rows_left l.fn.self);
  none : is_below g.N.Keyed.key_of l.key l.fn.self.held ≡ false → (l.self ≡ l.fn.self) × (l.page ≡ l.fn.page)
      × (g.P.Spill.state l.spill ≡ g.P.Spill.state l.fn.spill) × (l.steps ≡ l.fn.steps);
  steps : l.steps + g.N.RowKind.kind.width * l.fn.self.reading.loaded
      ≡ l.fn.steps + g.N.RowKind.kind.width * l.self.reading.loaded;
  within : g.N.RowKind.kind.width * l.self.reading.loaded
      ≤ g.N.RowKind.kind.width * length l.self.reading.source.rows;
}

abbrev pub decreases-loop-self : goal.decreases-loop-self
decreases-loop-self g l = length (rows_left l.self)
