use Rattle.std.proofs.Common.{length, arith, refl}
use Rattle.mf_base.specs.Spelling.{vbe_unsigned, string}
use Rattle.way_delta.proofs.Writing.{room-rest, puts-two}
use Rattle.tile_body.proofs.texts.put_string.Goals as goal

pub put-requires : goal.put-requires
unfolding string
put-requires c =
    let rest = room-rest c.args.out.now c.put_vbe_u.new.out (string c.args.text.now)
    (vbe_unsigned (length c.args.text.now)) c.args.text.now 10 refl c.put_vbe_u.ensures.appends c.requires.room in
    omega (arith, rest)

pub returns : goal.returns
unfolding string
returns c = record {
  appends = puts-two c.args.out.now c.put_vbe_u.new.out c.put.new.self (vbe_unsigned (length c.args.text.now))
      c.args.text.now c.put_vbe_u.ensures.appends c.put.ensures;
}
