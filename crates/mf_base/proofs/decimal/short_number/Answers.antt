use Rattle.std.proofs.Common.{◌∙◌}
use Rattle.mf_base.proofs.Decimals.{narrow-short, few-digits}
use Rattle.mf_base.proofs.decimal.short_number.Goals as goal

pub returns-clause-number : goal.returns-clause-number
returns-clause-number c = c.number_of.ensures ∙ narrow-short c.args.most c.args.digits.now c.requires

pub returns-clause-few : goal.returns-clause-few
returns-clause-few c =
    few-digits c.args.most c.args.digits.now _ (c.number_of.ensures
    ∙ narrow-short c.args.most c.args.digits.now c.requires)
