use Rattle.mf_rows.proofs.PartsAgain.{parts_again}
use Rattle.mf_rows.proofs.laws.parts_are_read_back.Goals as goal

pub returns : goal.returns
returns c = parts_again
