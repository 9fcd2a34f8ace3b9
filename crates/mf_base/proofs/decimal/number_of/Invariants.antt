use Rattle.mf_base.proofs.Decimals.{HasRead}
use Rattle.mf_base.proofs.decimal.number_of.Given as goal

abbrev pub invariant-loop-digit : goal.invariant-loop-digit
invariant-loop-digit l = HasRead l.digits l.digit-index l.number
