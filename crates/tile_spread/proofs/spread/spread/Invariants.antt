use Rattle.std.proofs.Common.{◌≡◌, ◌+◌, ◌*◌, ◌≤◌, ◌<◌, ◌^◌, true, List, length}
use Rattle.mf_edge.specs.Spill.{TouchesOnly, part_limit}
use Rattle.mf_rows.specs.Kinds.{shape_kind, tile_kind}
use Rattle.spill_parts.specs.Parts.{IsHeld, IsReading}
use Rattle.spill_parts.specs.Join.{rest_of}
use Rattle.spill_parts.specs.Shaped.{Spelled}
use Rattle.tile_spread.specs.Pass.{MaySpread, AreSoFar, all_spread}
use Rattle.tile_spread.proofs.spread.spread.Given as goal

abbrev pub invariant-loop-grid : goal.invariant-loop-grid
invariant-loop-grid g l = record {
  only : TouchesOnly l.fn.out.part (g.P.Spill.state l.fn.spill) (g.P.Spill.state l.spill);
  same_faults : (g.P.Spill.state l.spill).faults ≡ (g.P.Spill.state l.fn.spill).faults;
  held : IsHeld tile_kind l.out (g.P.Spill.state l.spill);
  part : l.out.part ≡ l.fn.out.part;
  reading : IsReading shape_kind l.reader l.page (g.P.Spill.state l.spill);
  source : l.reader.source ≡ l.from;
  so_far : (g.P.Spill.state l.fn.spill).tells ≡ true → (list : List Spelled)
      → MaySpread l.fn.records.capacity list l.from.rows
      → AreSoFar l.fn.records.capacity l.intervals l.bounds list (rest_of l.held l.reader.left) l.out.rows;
  within : (g.P.Spill.state l.fn.spill).tells ≡ true → (list : List Spelled)
      → MaySpread l.fn.records.capacity list l.from.rows
      → 39 * length (all_spread l.intervals l.bounds list) ≤ part_limit
      → (g.P.Spill.state l.spill).is_overrun ≡ (g.P.Spill.state l.fn.spill).is_overrun;
  few : length (rest_of l.held l.reader.left) < 2 ^ 63;
  steps : l.steps ≡ l.fn.steps + 28 * l.reader.loaded;
  loaded : 28 * l.reader.loaded ≤ 28 * length l.reader.source.rows;
  capacity : l.records.capacity ≡ l.fn.records.capacity;
  room : l.page.room ≡ l.fn.page.room;
}

abbrev pub decreases-loop-grid : goal.decreases-loop-grid
decreases-loop-grid g l = length (rest_of l.held l.reader.left)
