use Rattle.std.proofs.Common.{◌≡◌, ◌+◌, ◌*◌, ◌≤◌, map, length}
use Rattle.map_model.specs.Intervals.{interval_tiles, tile_place}
use Rattle.mf_rows.specs.Kinds.{tile_kind}
use Rattle.spill_parts.specs.Parts.{IsReading}
use Rattle.spill_parts.specs.Join.{rest_of}
use Rattle.mf_layout.proofs.LayingOn.{IsLaying}
use Rattle.mf_layout.proofs.interval.lay_interval.Given as goal

abbrev pub invariant-loop-next : goal.invariant-loop-next
invariant-loop-next g l = record {
  laying : IsLaying l.fn.desk.records.capacity (interval_tiles l.bounds l.index l.interval)
      (map (tile_place l.index l.interval) l.walk) (rest_of l.fn.held l.fn.reader.left)
      (rest_of l.next l.reader.left) l.size l.fn.laid l.laid (g.P.Spill.state l.fn.spill) (g.P.Spill.state l.spill);
  reading : IsReading tile_kind l.reader l.page (g.P.Spill.state l.spill);
  fewer : length (rest_of l.next l.reader.left) ≤ length (rest_of l.fn.held l.fn.reader.left);
  source : l.reader.source ≡ l.fn.reader.source;
  steps : l.steps + 39 * l.fn.reader.loaded ≡ l.fn.steps + 39 * l.reader.loaded;
  capacity : l.desk.records.capacity ≡ l.fn.desk.records.capacity;
  room : l.page.room ≡ l.fn.page.room;
}

abbrev pub decreases-loop-next : goal.decreases-loop-next
decreases-loop-next g l = length l.walk
