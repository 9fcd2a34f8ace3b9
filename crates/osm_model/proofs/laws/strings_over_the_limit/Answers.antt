use Rattle.osm_model.proofs.StringLaws.{over_the_limit}
use Rattle.osm_model.proofs.laws.strings_over_the_limit.Goals as goal

pub returns : goal.returns
returns c = over_the_limit
