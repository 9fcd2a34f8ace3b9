use Rattle.mf_run.proofs.Preparing.{prepared-right}
use Rattle.mf_run.proofs.laws.right_words_are_prepared.Goals as goal

pub returns : goal.returns
returns c = prepared-right
