use Rattle.osm_entity.proofs.StringPlaces.{strings-at}
use Rattle.mf_ingest.proofs.candidate.tests.first.Goals as goal

pub start-entities-requires-clause-strings : goal.start-entities-requires-clause-strings
start-entities-requires-clause-strings c =
    strings-at c.args.block.now c.index.new.self c.in-Ok.ensures.refused c.in-Ok.ensures.strings
