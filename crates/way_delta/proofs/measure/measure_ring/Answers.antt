use Rattle.std.proofs.Common.{true, false}
use Rattle.way_delta.proofs.Walked.{ring_size-next, ring_size-none}
use Rattle.way_delta.proofs.measure.measure_ring.Goals as goal

pub returns-in-Some-clause-single : goal.returns-in-Some-clause-single
returns-in-Some-clause-single c =
    ring_size-next c.args.corner false c.step_between.result c.args.points c.next.new.self
    (c.in-Some.field-0-0, c.in-Some.first) _ _ c.in-Some.ensures.first c.in-Some.ensures.rest
    c.step_between.ensures.step c.size_step-size.ensures.size c.measure_later-single.ensures.single

pub returns-in-Some-clause-double : goal.returns-in-Some-clause-double
returns-in-Some-clause-double c =
    ring_size-next c.args.corner true c.step_between.result c.args.points c.next.new.self
    (c.in-Some.field-0-0, c.in-Some.first) _ _ c.in-Some.ensures.first c.in-Some.ensures.rest
    c.step_between.ensures.step c.size_step-size.ensures.size c.measure_later-single.ensures.double

pub returns-in-None-clause-single : goal.returns-in-None-clause-single
returns-in-None-clause-single c = ring_size-none c.args.corner false c.args.points c.in-None.ensures.first

pub returns-in-None-clause-double : goal.returns-in-None-clause-double
returns-in-None-clause-double c = ring_size-none c.args.corner true c.args.points c.in-None.ensures.first
