use Rattle.std.proofs.Common.{arith}
use Rattle.mercator_rows.proofs.Series.{sums-start, sums-more, sums-end}
use Rattle.mercator_rows.proofs.latitude.arc_tangent.Goals as goal

pub loop-i-init : goal.loop-i-init
loop-i-init c = sums-start c.args.t

pub loop-i-preserved : goal.loop-i-preserved
loop-i-preserved c =
    sums-more c.args.t c.product-square.result c.loop-i.power c.product-power.result c.product-power-in-loop-i.result
    c.loop-i.added c.loop-i.subtracted c.loop-i.i
    c.requires c.product-square.ensures.value c.product-power.ensures.value c.product-power-in-loop-i.ensures.value
    c.loop-i.invariant

pub returns-clause-value : goal.returns-clause-value
returns-clause-value c =
    sums-end c.args.t c.loop-i.power c.loop-i.added c.loop-i.subtracted c.loop-i.i (omega arith) c.loop-i.invariant
