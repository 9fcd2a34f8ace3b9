use Rattle.member_points.proofs.OfRelation.{parts_are, points_are}
use Rattle.member_points.proofs.laws.parts_of_a_relation.Goals as goal

pub returns-clause-told : goal.returns-clause-told
returns-clause-told c = parts_are

pub returns-clause-counted : goal.returns-clause-counted
returns-clause-counted c = points_are
