use Rattle.std.proofs.Common.{◌≡◌, ◌+◌, ◌*◌, ◌≤◌, ◌<◌, ◌^◌, true, List, length}
use Rattle.std.specs.Prelude.{flat_map}
use Rattle.std.specs.List.{AllByRecursion}
use Rattle.mf_edge.specs.Spill.{TouchesOnly, part_limit}
use Rattle.mf_rows.specs.Kinds.{feature_kind, shape_kind}
use Rattle.mf_rows.specs.Records.{Record}
use Rattle.spill_parts.specs.Parts.{IsHeld, IsReading}
use Rattle.spill_parts.specs.Join.{rest_of}
use Rattle.spill_parts.specs.Handed.{record_rows}
use Rattle.mf_shape.specs.Numbered.{IsSpelled, AreSoFar}
use Rattle.mf_shape.proofs.nodes.put_nodes.Given as goal

abbrev pub invariant-loop-reader : goal.invariant-loop-reader
invariant-loop-reader g l = record {
  only : TouchesOnly l.fn.out.part (g.P.Spill.state l.fn.spill) (g.P.Spill.state l.spill);
  same_faults : (g.P.Spill.state l.spill).faults ≡ (g.P.Spill.state l.fn.spill).faults;
  same_overrun : (g.P.Spill.state l.spill).is_overrun ≡ (g.P.Spill.state l.fn.spill).is_overrun;
  held : IsHeld shape_kind l.out (g.P.Spill.state l.spill);
  part : l.out.part ≡ l.fn.out.part;
  reading : IsReading feature_kind l.reader l.page (g.P.Spill.state l.spill);
  source : l.reader.source ≡ l.from;
  so_far : (g.P.Spill.state l.fn.spill).tells ≡ true → (all : List Record) → AllByRecursion IsSpelled all
      → l.from.rows ≡ flat_map record_rows all
      → AreSoFar l.fn.records.capacity all (rest_of l.held l.reader.left) l.out.rows l.counts;
  fits : 29 * (length l.out.rows + length (rest_of l.held l.reader.left)) ≤ part_limit;
  few : l.counts.features + l.counts.skipped + length (rest_of l.held l.reader.left) < 2 ^ 63;
  steps : l.steps ≡ l.fn.steps + 29 * l.reader.loaded;
  within : 29 * l.reader.loaded ≤ 29 * length l.reader.source.rows;
  capacity : l.records.capacity ≡ l.fn.records.capacity;
  room : l.page.room ≡ l.fn.page.room;
}

abbrev pub decreases-loop-reader : goal.decreases-loop-reader
decreases-loop-reader g l = length (rest_of l.held l.reader.left)
