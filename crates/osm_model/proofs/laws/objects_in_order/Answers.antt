use Rattle.osm_model.proofs.OrderLaws.{in_order-all, in_order-append}
use Rattle.osm_model.proofs.laws.objects_in_order.Goals as goal

pub returns-clause-same : goal.returns-clause-same
returns-clause-same c = in_order-all

pub returns-clause-parts : goal.returns-clause-parts
returns-clause-parts c = in_order-append
