use Rattle.std.proofs.Common.{length, arith, subst}
use Rattle.mf_base.specs.Buffer.{AppendsTo}
use Rattle.mf_base.specs.Spelling.{vbe_unsigned}
use Rattle.tile_body.specs.Ways.{body_of}
use Rattle.way_delta.proofs.Writing.{room-rest, puts-whole}
use Rattle.tile_body.proofs.Bodies.{way-parts}
use Rattle.tile_body.proofs.Wholes.{body-fits, few-blocks}
use Rattle.tile_body.proofs.way.put_way.Goals as goal

pub size_body-requires-clause-fits : goal.size_body-requires-clause-fits
size_body-requires-clause-fits c =
    body-fits c.args.tile.now c.args.view.now c.drawn_of-drawn.result c.requires.way c.drawn_of-drawn.ensures

pub put_vbe_u-requires-clause-fits : goal.put_vbe_u-requires-clause-fits
put_vbe_u-requires-clause-fits c =
    let fits = body-fits c.args.tile.now c.args.view.now c.drawn_of-drawn.result c.requires.way c.drawn_of-drawn.ensures
    in omega (arith, fits, c.size_body.ensures.size)

pub put_body-requires-clause-room : goal.put_body-requires-clause-room
put_body-requires-clause-room c =
    let d = c.drawn_of-drawn.result in
    room-rest c.args.out.now c.put_vbe_u.new.out _ (vbe_unsigned (length (body_of c.args.view.now d)))
    (body_of c.args.view.now d) 10 (way-parts c.args.tile.now c.args.view.now d c.drawn_of-drawn.ensures)
    (subst (λ n. AppendsTo c.args.out.now c.put_vbe_u.new.out (vbe_unsigned n)) c.size_body.ensures.size
    c.put_vbe_u.ensures.appends) c.requires.room

pub returns : goal.returns
returns c =
    let d = c.drawn_of-drawn.result in
    record {
      appends = puts-whole c.args.out.now c.put_vbe_u.new.out c.put_body.new.out _
          (vbe_unsigned (length (body_of c.args.view.now d))) (body_of c.args.view.now d)
          (way-parts c.args.tile.now c.args.view.now d c.drawn_of-drawn.ensures)
          (subst (λ n. AppendsTo c.args.out.now c.put_vbe_u.new.out (vbe_unsigned n)) c.size_body.ensures.size
          c.put_vbe_u.ensures.appends) c.put_body.ensures.appends;
    }

pub size_body-requires-clause-blocks : goal.size_body-requires-clause-blocks
size_body-requires-clause-blocks c =
    let few = few-blocks c.args.view.now c.requires.way.member c.requires.way.light in
    let same = c.drawn_of-drawn.ensures.sized.blocks in
    omega (arith, few, same)
