use Rattle.member_points.proofs.InOrder.{rel_rows-climb, rel_rows-own}
use Rattle.member_points.proofs.laws.rel_rows_in_order.Goals as goal

pub returns-clause-climbs : goal.returns-clause-climbs
returns-clause-climbs c limit mapping entities = rel_rows-climb limit entities mapping

pub returns-clause-own : goal.returns-clause-own
returns-clause-own c limit mapping entities = rel_rows-own limit entities mapping
