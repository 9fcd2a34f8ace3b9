use Rattle.std.proofs.Common.{◌≡◌, length}
use Rattle.osm_entity.specs.BlockEntities.{block_read, objects_left}
use Rattle.spill_parts.specs.Parts.{HasJust}
use Rattle.mf_ingest.specs.Gathered.{gathered_pieces}
use Rattle.mf_ingest.proofs.gathering.tests.put_all.Given as goal

abbrev pub invariant-loop-entity : goal.invariant-loop-entity
invariant-loop-entity g l = record {
  just : HasJust (gathered_pieces l.gathering) (g.P.Spill.state l.spill);
  block : block_read l.left ≡ l.block;
}

abbrev pub decreases-loop-entity : goal.decreases-loop-entity
decreases-loop-entity g l = length (objects_left l.left)
