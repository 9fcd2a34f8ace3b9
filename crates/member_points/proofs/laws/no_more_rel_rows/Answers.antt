use Rattle.member_points.proofs.OfRelation.{rows_are_few}
use Rattle.member_points.proofs.laws.no_more_rel_rows.Goals as goal

pub returns : goal.returns
returns c = rows_are_few
