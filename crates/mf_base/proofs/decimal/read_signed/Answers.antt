use Rattle.std.proofs.Common.{w32, w64}
use Rattle.std.proofs.lemmas.Int.{to_z-of_z}
use Rattle.mf_base.proofs.Decimals.{signed-none, signed-far, signed-is}
use Rattle.mf_base.proofs.decimal.read_signed.Goals as goal

pub returns-in_err-magnitude : goal.returns-in_err-magnitude
returns-in_err-magnitude c =
    rw c.from_residual.ensures (signed-none c.args.least c.args.greatest c.args.text.now c.requires c.ranges.least
    c.ranges.greatest (rw c.without_minus-negative.ensures.rest at c.in_err-magnitude.ensures))

pub returns-then-magnitude : goal.returns-then-magnitude
returns-then-magnitude c =
    signed-far c.args.least c.args.greatest c.args.text.now c.in_ok-magnitude.magnitude c.requires c.ranges.least
    c.ranges.greatest (rw c.without_minus-negative.ensures.rest at c.in_ok-magnitude.ensures) c.if-magnitude.true

pub returns : goal.returns
returns c =
    let is = rw c.without_minus-negative.ensures.rest at c.in_ok-magnitude.ensures in
    let found = rw (
      to_z-of_z w32 c.args.least c.ranges.least,
      to_z-of_z w32 c.args.greatest c.ranges.greatest,
      to_z-of_z w64 c.with_sign.result record { sfits = c.with_sign.type_inv },
    ) at c.in_range.ensures in
    signed-is c.args.least c.args.greatest c.args.text.now _ c.in_ok-magnitude.magnitude c.with_sign.result
    c.in_range.result c.requires c.without_minus-negative.ensures.sign is c.with_sign.ensures found
