use Rattle.osm_model.proofs.ColumnLaws.{length-column}
use Rattle.osm_model.proofs.ColumnLaws.{column-at, column_from-zero, column_from-cons}
use Rattle.osm_model.proofs.laws.column_of_sums.Goals as goal

pub returns-clause-length : goal.returns-clause-length
returns-clause-length c = length-column

pub returns-clause-sums : goal.returns-clause-sums
returns-clause-sums c = column-at

pub returns-clause-begins : goal.returns-clause-begins
returns-clause-begins c = column_from-zero

pub returns-clause-runs_on : goal.returns-clause-runs_on
returns-clause-runs_on c = column_from-cons
