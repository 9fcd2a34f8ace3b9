use Rattle.way_points.proofs.Joined.{fewer-points, fewer-rows}
use Rattle.way_points.proofs.laws.no_more_points_than_refs.Goals as goal

pub returns-clause-points : goal.returns-clause-points
returns-clause-points c = fewer-points

pub returns-clause-rows : goal.returns-clause-rows
returns-clause-rows c = fewer-rows
