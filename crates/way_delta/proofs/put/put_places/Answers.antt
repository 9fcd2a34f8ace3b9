use Rattle.map_model.specs.Layout.{step_bytes}
use Rattle.way_delta.specs.Steps.{shown}
use Rattle.way_delta.specs.Rings.{ring_told, later_bytes}
use Rattle.way_delta.proofs.Lists.{no-point}
use Rattle.way_delta.proofs.Walked.{coordinates-next, coordinates-none}
use Rattle.way_delta.proofs.Writing.{room-front, room-rest, puts-whole, puts-nothing}
use Rattle.way_delta.proofs.put.put_places.Goals as goal

pub put_step-requires-clause-room : goal.put_step-requires-clause-room
put_step-requires-clause-room c =
    room-front _ _ (step_bytes (shown c.step_between.result))
    (later_bytes c.args.double c.in-Some.first (ring_told c.next.new.self)) 10
    (coordinates-next c.args.corner c.args.double c.step_between.result c.args.points c.next.new.self
    (c.in-Some.field-0-0, c.in-Some.first) c.in-Some.ensures.first c.in-Some.ensures.rest c.step_between.ensures.step)
    c.requires.room

pub put_later-requires : goal.put_later-requires
put_later-requires c = record {
  room = room-rest _ _ _ (step_bytes (shown c.step_between.result))
      (later_bytes c.args.double c.in-Some.first (ring_told c.next.new.self)) 10
      (coordinates-next c.args.corner c.args.double c.step_between.result c.args.points c.next.new.self
      (c.in-Some.field-0-0, c.in-Some.first) c.in-Some.ensures.first c.in-Some.ensures.rest
      c.step_between.ensures.step) c.put_step.ensures.appends c.requires.room;
}

pub returns-in-Some : goal.returns-in-Some
returns-in-Some c = record {
  appends = puts-whole _ _ _ _ (step_bytes (shown c.step_between.result))
      (later_bytes c.args.double c.in-Some.first (ring_told c.next.new.self))
      (coordinates-next c.args.corner c.args.double c.step_between.result c.args.points c.next.new.self
      (c.in-Some.field-0-0, c.in-Some.first) c.in-Some.ensures.first c.in-Some.ensures.rest
      c.step_between.ensures.step) c.put_step.ensures.appends c.put_later.ensures.appends;
}

pub returns-in_default : goal.returns-in_default
returns-in_default c = record {
  appends = puts-nothing _ _
      (coordinates-none c.args.corner c.args.double c.args.points (no-point c.args.points c.in_default.ensures.first));
}
