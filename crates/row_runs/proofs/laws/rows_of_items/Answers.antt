use Rattle.row_runs.proofs.Flat.{climbs_flat, rows_of_each, none_flat, run_keys-flat}
use Rattle.row_runs.proofs.laws.rows_of_items.Goals as goal

pub returns-clause-climbs : goal.returns-clause-climbs
returns-clause-climbs g c id key rows_of items own rises = climbs_flat id key rows_of items own rises

pub returns-clause-of_each : goal.returns-clause-of_each
returns-clause-of_each g c id key rows_of items own rises = rows_of_each id key rows_of items own rises

pub returns-clause-of_none : goal.returns-clause-of_none
returns-clause-of_none g c id key rows_of items k own others = none_flat id key rows_of k items own others

pub returns-clause-runs : goal.returns-clause-runs
returns-clause-runs g c id key rows_of items own rises = run_keys-flat id key rows_of items own rises
