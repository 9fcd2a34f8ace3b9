use Rattle.osm_model.proofs.OutcomeLaws.{outcome-blob, outcome-fault, outcome-no_blob, outcome-end}
use Rattle.osm_model.proofs.input_laws.outcome_of_blobs.Goals as goal

pub returns : goal.returns
returns c = record { blob = outcome-blob; fault = outcome-fault; no_blob = outcome-no_blob; end = outcome-end }
