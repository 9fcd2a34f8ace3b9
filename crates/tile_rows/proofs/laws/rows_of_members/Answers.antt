use Rattle.tile_rows.proofs.MemberRows.{members-are, units-are}
use Rattle.tile_rows.proofs.RowCount.{weight-told, tile-within, members-light}
use Rattle.tile_rows.proofs.laws.rows_of_members.Goals as goal

pub returns-clause-members : goal.returns-clause-members
returns-clause-members c = members-are

pub returns-clause-units : goal.returns-clause-units
returns-clause-units c = units-are

pub returns-clause-weight : goal.returns-clause-weight
returns-clause-weight c = weight-told

pub returns-clause-many : goal.returns-clause-many
returns-clause-many c = tile-within

pub returns-clause-light : goal.returns-clause-light
returns-clause-light c = members-light
