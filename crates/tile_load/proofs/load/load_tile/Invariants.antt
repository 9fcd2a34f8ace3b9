use Rattle.std.proofs.Common.{◌≡◌, ◌+◌, ◌*◌, ◌≤◌, true, List, [], ◌∷◌, length}
use Rattle.mf_base.specs.declared.tile.TilePlace.{TilePlace}
use Rattle.mf_edge.specs.Spill.{SameParts}
use Rattle.mf_rows.specs.Kinds.{tile_kind}
use Rattle.spill_parts.specs.Join.{rest_of}
use Rattle.spill_parts.specs.Parts.{IsReading}
use Rattle.spill_parts.specs.Shaped.{Spelled}
use Rattle.tile_load.specs.Loading.{AreLeft, AreRead}
use Rattle.tile_load.proofs.load.load_tile.Given as goal

abbrev pub invariant-loop-loaded : goal.invariant-loop-loaded
invariant-loop-loaded g l = record {
  same : SameParts (g.P.Spill.state l.fn.spill) (g.P.Spill.state l.spill);
  same_faults : (g.P.Spill.state l.spill).faults ≡ (g.P.Spill.state l.fn.spill).faults;
  reading : IsReading tile_kind l.reader l.page (g.P.Spill.state l.spill);
  source : l.reader.source ≡ l.fn.reader.source;
  read : (g.P.Spill.state l.fn.spill).tells ≡ true → (list : List Spelled) (later : List TilePlace)
      → AreLeft l.fn.records.capacity list (l.tile ∷ later) (rest_of l.fn.held l.fn.reader.left)
      → AreRead l.fn.records.capacity list l.tile later l.loaded.weight (rest_of l.loaded.next l.reader.left)
      l.records.records;
  fewer : length (rest_of l.loaded.next l.reader.left) ≤ length (rest_of l.fn.held l.fn.reader.left);
  loose : l.records.loose ≡ [];
  steps : l.steps + 39 * l.fn.reader.loaded ≡ l.fn.steps + 39 * l.reader.loaded;
  capacity : l.records.capacity ≡ l.fn.records.capacity;
  room : l.page.room ≡ l.fn.page.room;
}

abbrev pub decreases-loop-loaded : goal.decreases-loop-loaded
decreases-loop-loaded g l = length (rest_of l.loaded.next l.reader.left)
