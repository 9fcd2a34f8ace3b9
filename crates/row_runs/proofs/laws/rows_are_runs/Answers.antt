use Rattle.row_runs.proofs.KeyRuns.{rows_are_a_run, after_is_from, none_lower}
use Rattle.row_runs.proofs.laws.rows_are_runs.Goals as goal

pub returns-clause-run : goal.returns-clause-run
returns-clause-run g c key k rows climbs = rows_are_a_run key k rows climbs

pub returns-clause-behind : goal.returns-clause-behind
returns-clause-behind g c key k rows climbs = after_is_from key k rows climbs

pub returns-clause-lower : goal.returns-clause-lower
returns-clause-lower g c key k later rows less climbs = none_lower key k later less rows climbs
