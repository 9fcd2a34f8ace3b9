use Rattle.mf_base.proofs.Decimals.{cut-found, cut-absent}
use Rattle.mf_base.proofs.texts.cut_bytes.Goals as goal

pub returns-in_err-at : goal.returns-in_err-at
returns-in_err-at c = rw c.from_residual.ensures (cut-absent c.args.byte c.args.text.now c.in_err-at.ensures.place)

pub returns : goal.returns
returns c = cut-found c.args.byte c.args.text.now c.in_ok-at.at c.in_ok-at.ensures.place
