use Rattle.std.proofs.Common.{arith, subst}
use Rattle.mf_base.specs.Buffer.{AppendsTo}
use Rattle.mf_base.specs.Spelling.{vbe_unsigned}
use Rattle.mf_base.specs.declared.kept.KeptValue.TheVariants.{Plain}
use Rattle.tile_body.proofs.TagBytes.{ids-none, ids-room, ids-more, ids-all}
use Rattle.tile_body.proofs.tags.put_ids.Goals as goal

pub loop-kept-init : goal.loop-kept-init
loop-kept-init c = ids-none c.args.out.now c.args.tags.now

pub put_vbe_u-requires-clause-room : goal.put_vbe_u-requires-clause-room
put_vbe_u-requires-clause-room c =
    let room = ids-room c.loop-kept.out c.args.out.now c.args.tags.now c.loop-kept.kept-index
    (record { tag = 0; value = Plain }) c.loop-kept-test.true c.loop-kept.invariant c.requires.room in
    omega (arith, room)

pub loop-kept-preserved : goal.loop-kept-preserved
loop-kept-preserved c =
    ids-more c.loop-kept.out c.put_vbe_u.new.out c.args.out.now c.args.tags.now c.loop-kept.kept-index _
    c.loop-kept-test.true c.loop-kept.invariant
    (subst (λ n. AppendsTo c.loop-kept.out c.put_vbe_u.new.out (vbe_unsigned n)) c.from.ensures
    c.put_vbe_u.ensures.appends)

pub returns : goal.returns
returns c = record {
  appends = ids-all c.loop-kept.out c.args.out.now c.args.tags.now c.loop-kept.kept-index c.loop-kept-test.false
      c.loop-kept.invariant;
}
