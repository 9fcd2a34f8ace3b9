use Rattle.std.proofs.Common.{◌≡◌, ◌+◌, ◌^◌, ◌<◌, length}
use Rattle.osm_entity.specs.Refs.{refs_left}
use Rattle.mf_ingest.specs.LeftRows.{refs_from}
use Rattle.mf_ingest.proofs.refs.RefRowsRowsRefRow.next.Given as goal

abbrev pub invariant-loop-id : goal.invariant-loop-id
invariant-loop-id l = record {
  same : refs_from l.self.way l.self.place (refs_left l.self.refs)
      ≡ refs_from l.fn.self.way l.fn.self.place (refs_left l.fn.self.refs);
  few : l.self.place + length (refs_left l.self.refs) < 2 ^ 32;
}

abbrev pub decreases-loop-id : goal.decreases-loop-id
decreases-loop-id l = length (refs_left l.self.refs)
