use Rattle.osm_model.proofs.DenseLaws.{from-next, from-end}
use Rattle.osm_model.proofs.entity_laws.next_dense_node.Goals as goal

pub returns : goal.returns
returns c = record { next = from-next; end = from-end }
