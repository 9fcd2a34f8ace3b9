use Rattle.map_model.proofs.TileLaws.{common-both}
use Rattle.map_model.proofs.laws.tiles_in_order.Goals as goal

pub returns-clause-common : goal.returns-clause-common
returns-clause-common c = common-both
