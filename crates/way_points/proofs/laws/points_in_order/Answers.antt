use Rattle.mf_base.proofs.Pairs.{all_pairs}
use Rattle.way_points.specs.PointRows.{point_rows, IsPointBelow}
use Rattle.way_points.proofs.InOrder.{rising-input, points-rise, points-climb}
use Rattle.way_points.proofs.laws.points_in_order.Goals as goal

pub returns-clause-rising : goal.returns-clause-rising
returns-clause-rising c = rising-input

pub returns-clause-rises : goal.returns-clause-rises
returns-clause-rises c entities rising = all_pairs IsPointBelow (point_rows entities) (points-rise entities rising)

pub returns-clause-climbs : goal.returns-clause-climbs
returns-clause-climbs c = points-climb
