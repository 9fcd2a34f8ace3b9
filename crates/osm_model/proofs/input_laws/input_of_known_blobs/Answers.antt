use Rattle.osm_model.proofs.OutcomeLaws.{known-outcome}
use Rattle.osm_model.proofs.input_laws.input_of_known_blobs.Goals as goal

pub returns : goal.returns
returns c = known-outcome
