use Rattle.std.proofs.Common.{true, false, arith}
use Rattle.way_delta.proofs.Rings.{measures-ring, no-rings}
use Rattle.way_delta.proofs.measure.measure_rings.Goals as goal

pub loop-points-preserved : goal.loop-points-preserved
loop-points-preserved c =
    measures-ring _ _ _ _ c.args.corner c.in-Some.field-0-0 c.in-Some.points _ _ _ c.in-Some.ensures.first
    c.in-Some.ensures.rest c.measure_ring-sizes.ensures.single c.measure_ring-sizes.ensures.double
    c.measure_ring-sizes.ensures.most c.loop-points.invariant

pub returns-clause-single : goal.returns-clause-single
returns-clause-single c =
    let none = no-rings c.args.corner false c.loop-points.rings c.in_default.ensures.first in
    omega (arith, none, c.loop-points.invariant.single_size)

pub returns-clause-double : goal.returns-clause-double
returns-clause-double c =
    let none = no-rings c.args.corner true c.loop-points.rings c.in_default.ensures.first in
    omega (arith, none, c.loop-points.invariant.double_size)
