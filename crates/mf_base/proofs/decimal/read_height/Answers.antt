use Rattle.std.proofs.Common.{arith, w32, w64}
use Rattle.std.proofs.lemmas.Int.{to_z-of_z}
use Rattle.mf_base.proofs.Decimals.{height-none, height-is, sign-fits}
use Rattle.mf_base.proofs.decimal.read_height.Goals as goal

pub returns-in_err-metres : goal.returns-in_err-metres
returns-in_err-metres c =
    rw c.from_residual.ensures (height-none c.args.bytes.now _ c.without_sign-negative.ensures.rest
    c.in_err-metres.ensures.metres)

pub returns : goal.returns
returns c = rw (
  to_z-of_z w64 c.with_sign.result record { sfits = c.with_sign.type_inv },
  to_z-of_z w32 c.with_sign.result (sign-fits w32 _ _ c.with_sign.result (omega (arith, c.in_ok-metres.ensures.few))
      c.with_sign.ensures),
)
    (height-is c.args.bytes.now _ _ c.in_ok-metres.metres c.with_sign.result c.without_sign-negative.ensures.sign
    c.without_sign-negative.ensures.rest c.in_ok-metres.ensures.metres c.with_sign.ensures)
