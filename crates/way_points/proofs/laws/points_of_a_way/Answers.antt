use Rattle.way_points.proofs.Joined.{points-told}
use Rattle.way_points.proofs.OfWay.{points_of_way}
use Rattle.way_points.proofs.laws.points_of_a_way.Goals as goal

pub returns-clause-told : goal.returns-clause-told
returns-clause-told c = points-told

pub returns-clause-own : goal.returns-clause-own
returns-clause-own c = points_of_way
