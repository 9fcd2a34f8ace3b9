use Rattle.std.proofs.Common.{arith, inl, inr}
use Rattle.mf_base.proofs.Decimals.{number-none, number-out, number-in}
use Rattle.mf_base.proofs.decimal.read_number.Goals.{then-number-least-via-then-number-least}
use Rattle.mf_base.proofs.decimal.read_number.Goals.{then-number-least-via-else-number-least+then-greatest-number}
use Rattle.mf_base.proofs.decimal.read_number.Goals as goal

pub returns-in_err-number : goal.returns-in_err-number
returns-in_err-number c =
    rw c.from_residual.ensures
    (number-none c.args.least c.args.greatest c.args.text.now (omega (arith, c.ranges.greatest.fits))
    c.in_err-number.ensures)

pub returns-then-number-least : goal.returns-then-number-least
returns-then-number-least c = elim c.then-number-least.branch [
  | then-number-least-via-then-number-least w ↦ number-out c.args.least c.args.greatest c.args.text.now
      c.in_ok-number.number c.in_ok-number.ensures (inl w.if-number-least.true)
  | then-number-least-via-else-number-least+then-greatest-number w ↦ number-out c.args.least c.args.greatest
      c.args.text.now c.in_ok-number.number c.in_ok-number.ensures (inr w.if-greatest-number.true)
]

pub returns : goal.returns
returns c = number-in c.args.least c.args.greatest c.args.text.now c.in_ok-number.number c.in_ok-number.ensures
    (omega arith) (omega arith)
