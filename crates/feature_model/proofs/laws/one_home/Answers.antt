use Rattle.feature_model.proofs.HomeLaws.{blocks-home}
use Rattle.feature_model.proofs.laws.one_home.Goals as goal

pub returns : goal.returns
returns c = blocks-home
