use Rattle.osm_model.proofs.BlockLaws.{block-in_parts}
use Rattle.osm_model.proofs.block_laws.block_in_parts.Goals as goal

pub returns : goal.returns
returns c = block-in_parts
