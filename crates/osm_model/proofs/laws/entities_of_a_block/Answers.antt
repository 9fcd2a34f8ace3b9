use Rattle.osm_model.proofs.InputLaws.{raw_entities-in_order}
use Rattle.osm_model.proofs.laws.entities_of_a_block.Goals as goal

pub returns : goal.returns
returns c = raw_entities-in_order
