use Rattle.osm_model.proofs.EntityRange.{input_accepted}
use Rattle.osm_model.proofs.range_laws.accepted_entities.Goals as goal

pub returns : goal.returns
returns c = input_accepted
