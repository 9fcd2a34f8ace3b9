use Rattle.osm_entity.proofs.StringPlaces.{strings-at}
use Rattle.mf_ingest.proofs.gathering.tests.gathered.Goals as goal

pub start-requires-clause-strings : goal.start-requires-clause-strings
start-requires-clause-strings g c =
    strings-at c.args.block.now c.index.new.self c.in-Ok.ensures.refused c.in-Ok.ensures.strings
