use Rattle.std.proofs.Common.{refl, length}
use Rattle.osm_entity.specs.EntityViews.{entity_told}
use Rattle.mf_ingest.proofs.Ingesting.{has-few, ingests-more, fails-at}
use Rattle.mf_ingest.proofs.ingester.IngesterEntityReader.read.Goals as goal

pub put-requires-clause-few : goal.put-requires-clause-few
put-requires-clause-few g c =
    has-few (entity_told c.args.entity) (length c.args.block.now) c.requires.few c.requires.near

pub put-requires-clause-just : goal.put-requires-clause-just
put-requires-clause-just g c = let (first, before, has) = c.requires.stood in has.just

pub returns-in-Ok : goal.returns-in-Ok
returns-in-Ok g c first before more rises has =
    ingests-more g.P.Spill.state first c.args.self.now _ before (entity_told c.args.entity) has
    (record { mapping = refl; reference = refl; kept = c.put.ensures.kept }) c.in-Ok.ensures.put c.in-Ok.ensures.grown
    (c.add.ensures before more rises has.counts) c.in-Ok.ensures.just c.in-Ok.ensures.same_faults

pub returns-in-Err : goal.returns-in-Err
returns-in-Err g c first before more rises has =
    fails-at g.P.Spill.state first c.args.self.now _ before (entity_told c.args.entity) has
    (record { mapping = refl; reference = refl; kept = c.put.ensures.kept }) c.in-Err.ensures.failed
