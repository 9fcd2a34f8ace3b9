use Rattle.osm_model.proofs.InputOnly.{input_whole}
use Rattle.osm_model.proofs.input_laws.whole_reading_of_input.Goals as goal

pub returns : goal.returns
returns c = input_whole
