use Rattle.feature_model.proofs.LawRows.{other-nodes, other-ways}
use Rattle.feature_model.proofs.law_rows.premises_of_steps_are_met.Goals as goal

pub returns-clause-no_node : goal.returns-clause-no_node
returns-clause-no_node c = other-nodes

pub returns-clause-no_way : goal.returns-clause-no_way
returns-clause-no_way c = other-ways
