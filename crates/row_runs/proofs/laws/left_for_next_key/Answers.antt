use Rattle.row_runs.proofs.KeyRuns.{all_sought, all_after, run_is_all}
use Rattle.row_runs.proofs.laws.left_for_next_key.Goals as goal

pub returns-clause-sought : goal.returns-clause-sought
returns-clause-sought g c key k next left rows le all = all_sought key k next le left rows all

pub returns-clause-run : goal.returns-clause-run
returns-clause-run g c key k left rows climbs all = run_is_all key k left rows climbs all

pub returns-clause-behind : goal.returns-clause-behind
returns-clause-behind g c key k left rows all = all_after key k left rows all
