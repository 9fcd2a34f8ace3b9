use Rattle.mf_run.proofs.Alike.{alike}
use Rattle.mf_run.proofs.laws.same_for_all_that_suffice.Goals as goal

pub returns : goal.returns
returns c = alike
