use Rattle.osm_model.proofs.BlockLaws.{block-fault, head-fault}
use Rattle.osm_model.proofs.block_laws.faults_of_a_block.Goals as goal

pub returns : goal.returns
returns c = record { strings = block-fault; head = head-fault }
