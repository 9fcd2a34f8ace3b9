use Rattle.feature_model.proofs.OrderLaws.{candidates-ordered, candidates-rise, features-rise}
use Rattle.feature_model.proofs.laws.candidates_in_order.Goals as goal

pub returns-clause-same : goal.returns-clause-same
returns-clause-same c = candidates-ordered

pub returns-clause-candidates : goal.returns-clause-candidates
returns-clause-candidates c = candidates-rise

pub returns-clause-features : goal.returns-clause-features
returns-clause-features c = features-rise
