use Rattle.std.proofs.Common.{◌≡◌, ◌+◌, ◌*◌, ◌≤◌, true, ◌++◌, length}
use Rattle.mf_edge.specs.Spill.{TouchesOnly, part_limit}
use Rattle.spill_parts.specs.Parts.{IsHeld, IsReading}
use Rattle.spill_parts.proofs.uses.copy_rest.Given as goal

abbrev pub invariant-loop-row : goal.invariant-loop-row
invariant-loop-row g l = record {
  only : TouchesOnly l.fn.to.part (g.P.Spill.state l.fn.spill) (g.P.Spill.state l.spill);
  same_faults : (g.P.Spill.state l.spill).faults ≡ (g.P.Spill.state l.fn.spill).faults;
  reading : IsReading g.K.RowKind.kind l.reader l.page (g.P.Spill.state l.spill);
  held : IsHeld g.K.RowKind.kind l.to (g.P.Spill.state l.spill);
  part : l.to.part ≡ l.fn.to.part;
  source : l.reader.source ≡ l.fn.reader.source;
  rows : (g.P.Spill.state l.fn.spill).tells ≡ true → l.to.rows ++ l.reader.left ≡ l.fn.to.rows ++ l.fn.reader.left;
  as_many : length l.to.rows + length l.reader.left ≡ length l.fn.to.rows + length l.fn.reader.left;
  same_room : l.page.room ≡ l.fn.page.room;
  steps : l.steps + g.K.RowKind.kind.width * l.fn.reader.loaded ≡ l.fn.steps + g.K.RowKind.kind.width * l.reader.loaded;
  within : g.K.RowKind.kind.width * l.reader.loaded ≤ g.K.RowKind.kind.width * length l.reader.source.rows;
  small : g.K.RowKind.kind.width * length l.to.rows + g.K.RowKind.kind.width * length l.reader.left ≤ part_limit;
  same_overrun : (g.P.Spill.state l.spill).is_overrun ≡ (g.P.Spill.state l.fn.spill).is_overrun;
}

abbrev pub decreases-loop-row : goal.decreases-loop-row
decreases-loop-row g l = length l.reader.left
