use Rattle.std.proofs.Common.{◌≡◌, ◌∙◌, ◌∷◌, sym, ap, subst, rules, Err}
use Rattle.mf_base.specs.Steps.{fault_of}
use Rattle.pbf_wire.specs.Check.{Notes}
use Rattle.pbf_wire.proofs.CheckReads.{CheckedSoFar, checked-none, checked-all, checked-fault, checked-more, checked-no}
use Rattle.pbf_wire.proofs.check.check_fields.Goals as goal

pub loop-field-init : goal.loop-field-init
loop-field-init c =
    subst (CheckedSoFar c.args.rules.now c.args.bytes.now c.args.seen.now) (sym c.new-fields.ensures)
    (checked-none c.args.rules.now c.args.bytes.now c.args.seen.now c.requires.none)

pub loop-field-preserved : goal.loop-field-preserved
loop-field-preserved c =
    let (f, shows, read) = rw c.in-Ok-Some.field-0-is at c.in-Ok-Some.ensures.reads in
    let so = c.loop-field.invariant in
    checked-more _ _ _ _ _ _ f so read
    ((c.in_ok-check_field-in-Ok-Some.ensures {u = tt}).exact so.before f shows so.noted)
    (subst (λ k. Notes c.args.rules.now (k ∷ so.before) c.check_field.new.seen) shows.0
    (c.check_field.ensures.notes so.before so.noted))

pub returns-in_err-check_field-in-Ok-Some : goal.returns-in_err-check_field-in-Ok-Some
returns-in_err-check_field-in-Ok-Some c =
    let (f, shows, read) = rw c.in-Ok-Some.field-0-is at c.in-Ok-Some.ensures.reads in
    let so = c.loop-field.invariant in
    let e : c.from_residual.result ≡ Err c.in_err-check_field-in-Ok-Some.field-0.0 = search rules in
    ap fault_of e
    ∙ checked-no _ _ _ _ _ f _ so read
    ((c.in_err-check_field-in-Ok-Some.ensures {u = tt}).exact so.before f shows so.noted)

pub returns-in-Ok-None : goal.returns-in-Ok-None
returns-in-Ok-None c =
    let reads = rw c.in-Ok-None.field-0-is at c.in-Ok-None.ensures.reads in
    checked-all _ _ _ _ c.loop-field.invariant reads.0

pub returns-in-Err : goal.returns-in-Err
returns-in-Err c = checked-fault _ _ _ _ _ c.loop-field.invariant c.in-Err.ensures.reads.0
