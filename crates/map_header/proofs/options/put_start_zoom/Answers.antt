use Rattle.std.proofs.Common.{arith}
use Rattle.mf_base.proofs.ByteLaws.{length-big_endian}
use Rattle.map_header.proofs.options.put_start_zoom.Goals as goal

pub put_be-requires-clause-room : goal.put_be-requires-clause-room
put_be-requires-clause-room c =
    let room = rw c.in-Some.is at c.requires.room in
    omega (arith, room, length-big_endian 1 c.in-Some.zoom)
