use Rattle.way_delta.proofs.Walked.{puts-none, puts-room, puts-more}
use Rattle.way_delta.proofs.put.put_later.Goals as goal

pub loop-place-init : goal.loop-place-init
loop-place-init c = puts-none c.args.out.now c.args.double c.args.first c.args.points

pub put_step-requires-clause-room : goal.put_step-requires-clause-room
put_step-requires-clause-room c =
    puts-room _ _ c.args.double c.loop-place.before c.loop-place.last c.step_between-next.result c.written.result
    c.loop-place.points c.next.new.self (c.in-Some.field-0-0, c.in-Some.place) _ c.in-Some.ensures.first
    c.in-Some.ensures.rest c.step_between-next.ensures.step c.written.ensures.written c.loop-place.invariant
    c.requires.room

pub loop-place-preserved : goal.loop-place-preserved
loop-place-preserved c =
    puts-more _ _ _ c.args.double c.loop-place.before c.loop-place.last c.step_between-next.result c.written.result
    c.loop-place.points c.next.new.self (c.in-Some.field-0-0, c.in-Some.place) _ c.in-Some.ensures.first
    c.in-Some.ensures.rest c.step_between-next.ensures.step c.written.ensures.written
    c.step_between-next.ensures.small c.put_step.ensures.appends c.loop-place.invariant
