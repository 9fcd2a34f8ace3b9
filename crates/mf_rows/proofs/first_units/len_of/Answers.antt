use Rattle.std.proofs.Common.{◌≤◌, ◌∙◌, sym, arith}
use Rattle.mf_rows.specs.Records.{same_slot}
use Rattle.mf_rows.specs.FirstUnits.{IsShort}
use Rattle.mf_rows.specs.declared.head.TextSpan.{TextSpan}
use Rattle.mf_rows.proofs.FirstUnits.{found-all, size-found, none-found}
use Rattle.mf_rows.proofs.first_units.len_of.Goals as goal

pub overflow_cast-result : goal.overflow_cast-result
overflow_cast-result c =
    let short : c.in-Some.span.len ≤ 1020 =
    found-all IsShort (λ (s : TextSpan). same_slot s.slot c.args.slot) c.args.spans.now c.in-Some.span c.requires.short
    (sym c.span_of.ensures ∙ c.in-Some.is) in
    omega (arith, short)

pub returns-in-Some : goal.returns-in-Some
returns-in-Some c =
    size-found c.args.block.now c.args.spans.now c.args.slot c.in-Some.span c.requires.lies
    (sym c.span_of.ensures ∙ c.in-Some.is)

pub returns-in-None : goal.returns-in-None
returns-in-None c =
    none-found c.args.block.now c.args.spans.now c.args.slot (sym c.span_of.ensures ∙ c.in-None.is)
