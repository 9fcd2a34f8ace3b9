use Rattle.feature_model.proofs.ShapeLaws.{nodes-named, ways-named, no-node, no-way}
use Rattle.feature_model.proofs.shape_laws.found_by_id.Goals as goal

pub returns-clause-nodes : goal.returns-clause-nodes
returns-clause-nodes c = nodes-named

pub returns-clause-ways : goal.returns-clause-ways
returns-clause-ways c = ways-named

pub returns-clause-no_node : goal.returns-clause-no_node
returns-clause-no_node c = no-node

pub returns-clause-no_way : goal.returns-clause-no_way
returns-clause-no_way c = no-way
