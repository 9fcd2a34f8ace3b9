use Rattle.mf_base.proofs.NumberLemmas.{zigzag-there, zigzag-back}
use Rattle.mf_base.proofs.laws.zigzag_both_ways.Goals as goal

pub returns-clause-there : goal.returns-clause-there
returns-clause-there c = zigzag-there

pub returns-clause-back : goal.returns-clause-back
returns-clause-back c = zigzag-back
