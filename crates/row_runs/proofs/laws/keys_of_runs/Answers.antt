use Rattle.std.proofs.Common.{refl}
use Rattle.row_runs.specs.Runs.{run_keys}
use Rattle.row_runs.proofs.KeyRuns.{keys_rise, runs_are_all, run_keys-cons}
use Rattle.row_runs.proofs.laws.keys_of_runs.Goals as goal

pub returns-clause-rise : goal.returns-clause-rise
returns-clause-rise g c key rows climbs = keys_rise key rows climbs

pub returns-clause-all : goal.returns-clause-all
returns-clause-all g c key rows climbs = runs_are_all key rows climbs

pub returns-clause-none : goal.returns-clause-none
unfolding run_keys
returns-clause-none g c key = refl

pub returns-clause-first : goal.returns-clause-first
returns-clause-first g c key row rows = run_keys-cons key row rows
