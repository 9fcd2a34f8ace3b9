use Rattle.std.proofs.Common.{w64}
use Rattle.std.proofs.lemmas.Int.{to_z-of_z}
use Rattle.mf_base.proofs.Decimals.{whole-none, whole-is}
use Rattle.mf_base.proofs.decimal.read_whole.Goals as goal

pub returns-in_err-magnitude : goal.returns-in_err-magnitude
returns-in_err-magnitude c =
    rw c.from_residual.ensures (whole-none c.args.bytes.now _ c.without_minus-negative.ensures.rest
    c.in_err-magnitude.ensures.number)

pub returns : goal.returns
returns c = rw (to_z-of_z w64 c.with_sign.result record { sfits = c.with_sign.type_inv })
    (whole-is c.args.bytes.now _ _ c.in_ok-magnitude.magnitude c.with_sign.result c.without_minus-negative.ensures.sign
    c.without_minus-negative.ensures.rest c.in_ok-magnitude.ensures.number c.with_sign.ensures)
