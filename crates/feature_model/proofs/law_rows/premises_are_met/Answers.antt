use Rattle.feature_model.proofs.LawRows.{bench-rises, bench-accepted}
use Rattle.feature_model.proofs.law_rows.premises_are_met.Goals as goal

pub returns-clause-rises : goal.returns-clause-rises
returns-clause-rises c = bench-rises

pub returns-clause-accepted : goal.returns-clause-accepted
returns-clause-accepted c = bench-accepted
