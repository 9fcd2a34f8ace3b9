use Rattle.std.proofs.Common.{ap, arith}
use Rattle.mf_base.specs.Buffer.{Buffer}
use Rattle.map_header.proofs.Putting.{length-place}
use Rattle.map_header.proofs.options.put_start.Goals as goal

pub put_signed-requires : goal.put_signed-requires
put_signed-requires c =
    let room = rw c.in-Some.is at c.requires.room in
    record { room = omega (arith, room, length-place c.in-Some.place.lat c.in-Some.place.lon) }

pub put_signed-requires-in-Some : goal.put_signed-requires-in-Some
put_signed-requires-in-Some c =
    let room = rw c.in-Some.is at c.requires.room in
    let same = ap (λ (b : Buffer). b.capacity) c.put_signed.ensures.appends in
    record {
      room =
          omega (arith, room, same, c.put_signed.ensures.most, length-place c.in-Some.place.lat c.in-Some.place.lon);
    }
