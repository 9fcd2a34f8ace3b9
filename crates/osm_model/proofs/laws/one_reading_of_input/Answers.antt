use Rattle.osm_model.proofs.InputLaws.{input_read}
use Rattle.osm_model.proofs.InputOnly.{input_only}
use Rattle.osm_model.proofs.laws.one_reading_of_input.Goals as goal

pub returns-clause-reads : goal.returns-clause-reads
returns-clause-reads c = input_read

pub returns-clause-only : goal.returns-clause-only
returns-clause-only c = input_only
