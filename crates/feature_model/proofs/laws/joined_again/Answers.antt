use Rattle.feature_model.proofs.JoinedLaws.{relation_blocks-again}
use Rattle.feature_model.proofs.laws.joined_again.Goals as goal

pub returns : goal.returns
returns c = relation_blocks-again
