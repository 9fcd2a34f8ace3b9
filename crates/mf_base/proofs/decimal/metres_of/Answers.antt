use Rattle.std.proofs.Common.{sym, ◌∙◌}
use Rattle.mf_base.proofs.Decimals.{metres-whole, metres-dropped, metres-other}
use Rattle.mf_base.proofs.decimal.metres_of.Goals as goal

pub returns-in-None-clause-metres : goal.returns-in-None-clause-metres
returns-in-None-clause-metres c = c.short_number.ensures.number ∙ metres-whole c.args.text.now c.in-None.ensures

pub returns-in-Some-clause-metres : goal.returns-in-Some-clause-metres
returns-in-Some-clause-metres c = c.short_number-in-Some.ensures.number
    ∙ metres-dropped c.args.text.now _ _ c.in-Some.ensures (sym c.if-are_digits.ensures)

pub returns-in-Some-2-clause-metres : goal.returns-in-Some-2-clause-metres
returns-in-Some-2-clause-metres c = metres-other c.args.text.now _ _ c.in-Some.ensures (sym c.if-are_digits.ensures)
