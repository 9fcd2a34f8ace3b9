use Rattle.std.proofs.Common.{arith, ap, ◌∙◌}
use Rattle.mf_compile.specs.Jobs.{desk_rooms}
use Rattle.mf_compile.proofs.Rooms.{rooms-next}
use Rattle.mf_compile.proofs.job.new_desks.Goals as goal

pub loop-preserved : goal.loop-preserved
loop-preserved c = record {
  rooms = ap desk_rooms c.push_reserved.ensures.items
      ∙ rooms-next c.loop.counter c.args.rows c.loop.desks.items c.in_ok-new.field-0 c.loop.invariant.rooms
      (ap (λ d. d.capacity) c.in_ok-new.ensures.records);
  many = omega (arith, c.push_reserved.ensures.len);
  room = omega (arith, c.push_reserved.ensures.capacity);
}
