use Rattle.std.proofs.Common.{◌≡◌, ◌≢◌, ◌+◌, ◌*◌, ◌≤◌, true, ◌++◌, length}
use Rattle.std.specs.List.{AllByRecursion}
use Rattle.mf_edge.specs.Spill.{SameStore, part_limit}
use Rattle.spill_parts.specs.Parts.{IsHeld, IsReading}
use Rattle.spill_parts.specs.Join.{joined_rows, Climbs, IsLooking, IsAdded}
use Rattle.spill_parts.proofs.merge.join.Given as goal

abbrev pub invariant-loop-row : goal.invariant-loop-row
invariant-loop-row g l = record {
  same : SameStore (g.P.Spill.state l.fn.spill) (g.P.Spill.state l.spill);
  same_faults : (g.P.Spill.state l.spill).faults ≡ (g.P.Spill.state l.fn.spill).faults;
  reading : IsReading g.R.RowKind.kind l.reader l.first (g.P.Spill.state l.spill);
  looking : IsLooking g.N.RowKind.kind g.N.Keyed.key_of l.lookup l.second (g.P.Spill.state l.spill);
  held : IsHeld g.O.RowKind.kind l.out (g.P.Spill.state l.spill);
  added : IsAdded l.out.part (g.P.Spill.state l.fn.spill) (g.P.Spill.state l.spill);
  refs_apart : l.reader.source.part ≢ l.out.part;
  nodes_apart : l.lookup.reading.source.part ≢ l.out.part;
  nodes : l.lookup.reading.source ≡ l.nodes;
  climbs : (g.P.Spill.state l.fn.spill).tells ≡ true → Climbs g.R.Keyed.key_of l.reader.left;
  asked : (g.P.Spill.state l.fn.spill).tells ≡ true
      → AllByRecursion (λ r. l.lookup.asked ≤ g.R.Keyed.key_of r) l.reader.left;
  rows : (g.P.Spill.state l.fn.spill).tells ≡ true
      → l.out.rows ++ joined_rows g.R.Keyed.key_of g.N.Keyed.key_of g.O.JoinOf.join_of l.nodes.rows l.reader.left
      ≡ joined_rows g.R.Keyed.key_of g.N.Keyed.key_of g.O.JoinOf.join_of l.nodes.rows l.refs.rows;
  few : length l.out.rows + length l.reader.left ≤ length l.refs.rows;
  within_joined : (g.P.Spill.state l.fn.spill).tells ≡ true → g.O.RowKind.kind.width
      * length (joined_rows g.R.Keyed.key_of g.N.Keyed.key_of g.O.JoinOf.join_of l.nodes.rows l.refs.rows)
      ≤ part_limit → (g.P.Spill.state l.spill).is_overrun ≡ (g.P.Spill.state l.fn.spill).is_overrun;
  within : g.O.RowKind.kind.width * length l.refs.rows ≤ part_limit
      → (g.P.Spill.state l.spill).is_overrun ≡ (g.P.Spill.state l.fn.spill).is_overrun;
  refs : l.reader.source ≡ l.refs;
  refs_within : g.R.RowKind.kind.width * l.reader.loaded ≤ g.R.RowKind.kind.width * length l.reader.source.rows;
  nodes_within : g.N.RowKind.kind.width * l.lookup.reading.loaded
      ≤ g.N.RowKind.kind.width * length l.lookup.reading.source.rows;
  first_room : l.first.room ≡ l.fn.first.room;
  second_room : l.second.room ≡ l.fn.second.room;
  steps : l.steps
      ≡ l.fn.steps + g.R.RowKind.kind.width * l.reader.loaded + g.N.RowKind.kind.width * l.lookup.reading.loaded;
}

abbrev pub decreases-loop-row : goal.decreases-loop-row
decreases-loop-row g l = length l.reader.left
