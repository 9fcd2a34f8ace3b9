use Rattle.osm_model.proofs.TagRunLaws.{run-closed, run-open, run-cut}
use Rattle.osm_model.proofs.laws.one_run_of_tags.Goals as goal

pub returns-clause-closed : goal.returns-clause-closed
returns-clause-closed c = run-closed

pub returns-clause-open_end : goal.returns-clause-open_end
returns-clause-open_end c = run-open

pub returns-clause-cut : goal.returns-clause-cut
returns-clause-cut c = run-cut
