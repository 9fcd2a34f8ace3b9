use Rattle.std.proofs.Common.{arith, ◌-◌}
use Rattle.mf_base.proofs.VarintRead.{read-none, read-more, answer-within, answer-tenth, answer-long, answer-short}
use Rattle.mf_base.proofs.VarintRead.{weighed-within, scale-more}
use Rattle.mf_base.proofs.varint.long_varint.Goals as goal

pub loop-run-init : goal.loop-run-init
loop-run-init c = read-none c.args.bytes.now

pub returns-then-byte-lt2-clause-exact : goal.returns-then-byte-lt2-clause-exact
returns-then-byte-lt2-clause-exact c =
    answer-tenth _ _ _ _ _ c.loop-run.invariant c.loop-run-test.true c.if-run-eq9.true c.from-byte.ensures
    c.if-byte-lt2.true

pub returns-else-byte-lt2-clause-exact : goal.returns-else-byte-lt2-clause-exact
returns-else-byte-lt2-clause-exact c =
    answer-long _ _ _ _ _ c.loop-run.invariant c.loop-run-test.true c.if-run-eq9.true c.from-byte.ensures
    c.if-byte-lt2.false

pub overflow_mul-result-then-byte-lt128 : goal.overflow_mul-result-then-byte-lt128
overflow_mul-result-then-byte-lt128 c =
    let fits = weighed-within _ _ _ _ c.from-byte.result c.loop-run.invariant
    (omega (arith, c.loop-run.invariant.few, c.if-run-eq9.false)) c.if-byte-lt128.true in omega (arith, fits)

pub overflow_add-result-then-byte-lt128 : goal.overflow_add-result-then-byte-lt128
overflow_add-result-then-byte-lt128 c =
    let fits = weighed-within _ _ _ _ c.from-byte.result c.loop-run.invariant
    (omega (arith, c.loop-run.invariant.few, c.if-run-eq9.false)) c.if-byte-lt128.true in omega (arith, fits)

pub returns-then-byte-lt128-clause-exact : goal.returns-then-byte-lt128-clause-exact
returns-then-byte-lt128-clause-exact c =
    answer-within _ _ _ _ _ c.loop-run.invariant c.loop-run-test.true
    (omega (arith, c.loop-run.invariant.few, c.if-run-eq9.false)) c.from-byte.ensures c.if-byte-lt128.true

pub overflow_add-value : goal.overflow_add-value
overflow_add-value c =
    let small = c.type_inv.bytes c.loop-run.run in
    let fits = weighed-within _ _ _ _ (c.from-byte.result - 128) c.loop-run.invariant
    (omega (arith, c.loop-run.invariant.few, c.if-run-eq9.false)) (omega (arith, small, c.from-byte.ensures)) in
    omega (arith, fits)

pub overflow_mul-scale : goal.overflow_mul-scale
overflow_mul-scale c = let fits =
    scale-more _ _ _ _ c.loop-run.invariant (omega (arith, c.loop-run.invariant.few, c.if-run-eq9.false)) in
    omega (arith, fits)

pub loop-run-preserved : goal.loop-run-preserved
loop-run-preserved c =
    let small = c.type_inv.bytes c.loop-run.run in
    read-more _ _ _ _ _ c.loop-run.invariant c.loop-run-test.true
    (omega (arith, c.loop-run.invariant.few, c.if-run-eq9.false)) c.from-byte.ensures c.if-byte-lt128.false
    (omega (arith, small, c.from-byte.ensures))

pub returns-clause-exact : goal.returns-clause-exact
returns-clause-exact c = answer-short _ _ _ _ c.loop-run.invariant c.loop-run-test.false
