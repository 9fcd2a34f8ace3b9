use Rattle.mf_run.proofs.Judged.{decided}
use Rattle.mf_run.proofs.laws.headline.Goals as goal

pub returns : goal.returns
returns c = decided
