use Rattle.mf_rows.proofs.HeadAgain.{head-again}
use Rattle.mf_rows.proofs.laws.a_head_is_read_back.Goals as goal

pub returns : goal.returns
returns c = head-again
