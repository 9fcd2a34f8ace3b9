use Rattle.osm_model.proofs.RisingLaws.{block-rises}
use Rattle.osm_model.proofs.InputRises.{input_rises}
use Rattle.osm_model.proofs.laws.objects_rise.Goals as goal

pub returns-clause-in_a_block : goal.returns-clause-in_a_block
returns-clause-in_a_block c = block-rises

pub returns-clause-in_the_input : goal.returns-clause-in_the_input
returns-clause-in_the_input c = input_rises
