use Rattle.std.proofs.Common.{◌∙◌, sym, ap}
use Rattle.mf_base.specs.Packed.{packed_numbers}
use Rattle.mf_base.proofs.PackedFront.{numbers-nil, first-numbers, first-whole, whole-end}
use Rattle.mf_base.proofs.packed.first_packed.Goals as goal

pub returns-in-Ok-clause-numbers : goal.returns-in-Ok-clause-numbers
returns-in-Ok-clause-numbers c = first-numbers c.args.bytes.now _ _ c.in-Ok.ensures.exact

pub returns-in-Ok-clause-whole : goal.returns-in-Ok-clause-whole
returns-in-Ok-clause-whole c = first-whole c.args.bytes.now _ _ c.requires c.in-Ok.ensures.exact

pub returns-in-Err-clause-numbers : goal.returns-in-Err-clause-numbers
returns-in-Err-clause-numbers c =
    ap packed_numbers (whole-end c.args.bytes.now _ c.requires (sym c.in-Err.ensures.exact)) ∙ numbers-nil

pub returns-in-Err-clause-whole : goal.returns-in-Err-clause-whole
returns-in-Err-clause-whole c = whole-end c.args.bytes.now _ c.requires (sym c.in-Err.ensures.exact)
