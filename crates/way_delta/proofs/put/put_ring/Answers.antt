use Rattle.std.proofs.Common.{length, subst}
use Rattle.mf_base.specs.Buffer.{AppendsTo}
use Rattle.mf_base.specs.Spelling.{vbe_unsigned}
use Rattle.map_model.specs.Layout.{coordinate_bytes}
use Rattle.way_delta.specs.Rings.{ring_told}
use Rattle.way_delta.proofs.Rings.{ring-parts}
use Rattle.way_delta.proofs.Writing.{room-rest, puts-whole}
use Rattle.way_delta.proofs.put.put_ring.Goals as goal

pub put_places-requires : goal.put_places-requires
put_places-requires c = record {
  room = room-rest _ _ _ (vbe_unsigned (length c.args.points))
      (coordinate_bytes c.args.corner c.args.double (ring_told c.args.points)) 10
      (ring-parts c.args.corner c.args.double c.args.points)
      (subst (λ n. AppendsTo c.args.out.now c.put_vbe_u.new.out (vbe_unsigned n)) c.len.ensures
      c.put_vbe_u.ensures.appends) c.requires.room;
}

pub returns : goal.returns
returns c = record {
  appends = puts-whole _ _ _ _ (vbe_unsigned (length c.args.points))
      (coordinate_bytes c.args.corner c.args.double (ring_told c.args.points))
      (ring-parts c.args.corner c.args.double c.args.points)
      (subst (λ n. AppendsTo c.args.out.now c.put_vbe_u.new.out (vbe_unsigned n)) c.len.ensures
      c.put_vbe_u.ensures.appends) c.put_places.ensures.appends;
}
