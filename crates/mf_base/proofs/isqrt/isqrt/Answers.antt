use Rattle.std.proofs.Common.{◌+◌, ◌/◌, arith}
use Rattle.mf_base.proofs.RootSteps.{step-above, above-some, step-root, root-zero}
use Rattle.mf_base.proofs.isqrt.isqrt.Goals as goal

pub returns-then-v-eq0 : goal.returns-then-v-eq0
returns-then-v-eq0 c = rw c.if-v-eq0.true root-zero

pub returns-then-next-root : goal.returns-then-next-root
returns-then-next-root c =
    step-root c.args.v c.loop-root.root c.loop-root.invariant.some c.loop-root.invariant.above c.if-next-root.true

pub loop-root-preserved : goal.loop-root-preserved
loop-root-preserved c =
    let above = step-above c.args.v c.loop-root.root c.loop-root.invariant.some in
    record {
      some = above-some c.args.v ((c.loop-root.root + c.args.v / c.loop-root.root) / 2)
          (omega (arith, c.if-v-eq0.false)) above;
      bound = omega (arith, c.loop-root.invariant.bound, c.if-next-root.false);
      above = above;
    }
