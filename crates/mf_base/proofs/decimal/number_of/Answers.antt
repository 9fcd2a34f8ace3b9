use Rattle.std.proofs.Common.{rules, arith, refl, length, ◌≡◌, ◌≤◌}
use Rattle.mf_base.proofs.Decimals.{digits-empty, digits-long, read-none, read-more, read-stopped, read-all}
use Rattle.mf_base.proofs.decimal.number_of.Goals.{then-is_empty-via-then-is_empty}
use Rattle.mf_base.proofs.decimal.number_of.Goals.{then-is_empty-via-else-is_empty+then-most-digits}
use Rattle.mf_base.proofs.decimal.number_of.Goals as goal

pub returns-then-is_empty : goal.returns-then-is_empty
returns-then-is_empty c = elim c.then-is_empty.branch [
  | then-is_empty-via-then-is_empty w ↦ rw (digits-empty c.args.most c.args.digits.now (search rules)) (search rules)
  | then-is_empty-via-else-is_empty+then-most-digits w ↦ rw
      (digits-long c.args.most c.args.digits.now w.if-most-digits.true) (search rules)
]

pub loop-digit-init : goal.loop-digit-init
loop-digit-init c = read-none c.args.digits.now

pub loop-digit-preserved : goal.loop-digit-preserved
loop-digit-preserved c =
    read-more c.args.digits.now c.loop-digit.digit-index c.loop-digit.number _ c.loop-digit-test.true
    c.loop-digit.invariant refl c.in_ok-number.number c.in_ok-number.ensures

pub returns-in_err-number : goal.returns-in_err-number
returns-in_err-number c = rw c.from_residual.ensures
    (read-stopped c.args.most c.args.digits.now c.loop-digit.digit-index c.loop-digit.number _ c.loop-digit-test.true
    c.if-most-digits.false c.loop-digit.invariant refl c.in_err-number.ensures)

pub returns : goal.returns
returns c =
    let whole : c.loop-digit.digit-index ≡ length c.args.digits.now = omega arith in
    let some : 1 ≤ length c.args.digits.now = search rules in
    read-all c.args.most c.args.digits.now c.loop-digit.number some c.if-most-digits.false
    (rw whole at c.loop-digit.invariant)
