use Rattle.std.proofs.Common.{◌≡◌, ◌+◌, ◌*◌, ◌≤◌, true, length}
use Rattle.mf_edge.specs.Spill.{SameParts}
use Rattle.spill_parts.specs.Parts.{IsReading}
use Rattle.spill_parts.specs.Join.{rest_of, from_key}
use Rattle.spill_parts.proofs.lookup.pass_below.Given as goal

abbrev pub invariant-loop-held : goal.invariant-loop-held
invariant-loop-held g l = record {
  same : SameParts (g.P.Spill.state l.fn.spill) (g.P.Spill.state l.spill);
  same_faults : (g.P.Spill.state l.spill).faults ≡ (g.P.Spill.state l.fn.spill).faults;
  reading : IsReading g.N.RowKind.kind l.reader l.page (g.P.Spill.state l.spill);
  source : l.reader.source ≡ l.fn.reader.source;
  rest : (g.P.Spill.state l.fn.spill).tells ≡ true
      → from_key g.N.Keyed.key_of l.wanted (rest_of l.held l.reader.left)
      ≡ from_key g.N.Keyed.key_of l.wanted (rest_of l.fn.held l.fn.reader.left);
  same_room : l.page.room ≡ l.fn.page.room;
  steps : l.steps + g.N.RowKind.kind.width * l.fn.reader.loaded ≡ l.fn.steps + g.N.RowKind.kind.width * l.reader.loaded;
  within : g.N.RowKind.kind.width * l.fn.reader.loaded ≤ g.N.RowKind.kind.width * length l.fn.reader.source.rows
      → g.N.RowKind.kind.width * l.reader.loaded ≤ g.N.RowKind.kind.width * length l.reader.source.rows;
}

abbrev pub decreases-loop-held : goal.decreases-loop-held
decreases-loop-held g l = length (rest_of l.held l.reader.left)
