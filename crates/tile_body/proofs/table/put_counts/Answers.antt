use Rattle.std.proofs.Common.{◌∙◌, ap, get_or, subst}
use Rattle.mf_base.specs.Buffer.{AppendsTo}
use Rattle.mf_base.specs.Spelling.{vbe_unsigned}
use Rattle.tile_body.proofs.Counting.{levels-none, first-room, second-room, levels-more, levels-all}
use Rattle.tile_body.proofs.table.put_counts.Goals as goal

pub loop-zoom-init : goal.loop-zoom-init
loop-zoom-init c = levels-none c.args.out.now c.args.pois.now c.args.ways.now c.args.interval.now c.requires.zooms.0

pub put_vbe_u-requires-clause-room : goal.put_vbe_u-requires-clause-room
put_vbe_u-requires-clause-room c =
    first-room c.loop-zoom.out c.args.out.now c.args.pois.now c.args.ways.now c.args.interval.now c.loop-zoom.zoom
    c.loop-zoom-test.true c.loop-zoom.invariant c.requires.room

pub put_vbe_u-requires-in-loop-zoom-clause-room : goal.put_vbe_u-requires-in-loop-zoom-clause-room
put_vbe_u-requires-in-loop-zoom-clause-room c =
    second-room c.loop-zoom.out c.args.out.now c.args.pois.now c.args.ways.now c.args.interval.now c.loop-zoom.zoom
    c.loop-zoom-test.true c.loop-zoom.invariant c.put_vbe_u.new.out
    (subst (λ n. AppendsTo c.loop-zoom.out c.put_vbe_u.new.out (vbe_unsigned n))
    (c.from.ensures ∙ ap (λ k. get_or c.args.pois.now k 0) c.from-level.ensures) c.put_vbe_u.ensures.appends)
    c.requires.room

pub loop-zoom-preserved : goal.loop-zoom-preserved
loop-zoom-preserved c =
    levels-more c.loop-zoom.out c.args.out.now c.args.pois.now c.args.ways.now c.args.interval.now c.loop-zoom.zoom
    c.loop-zoom-test.true c.loop-zoom.invariant c.put_vbe_u.new.out c.put_vbe_u-in-loop-zoom.new.out
    (subst (λ n. AppendsTo c.loop-zoom.out c.put_vbe_u.new.out (vbe_unsigned n))
    (c.from.ensures ∙ ap (λ k. get_or c.args.pois.now k 0) c.from-level.ensures) c.put_vbe_u.ensures.appends)
    (subst (λ n. AppendsTo c.put_vbe_u.new.out c.put_vbe_u-in-loop-zoom.new.out (vbe_unsigned n))
    (c.from-in-loop-zoom.ensures ∙ ap (λ k. get_or c.args.ways.now k 0) c.from-level.ensures)
    c.put_vbe_u-in-loop-zoom.ensures.appends)

pub returns : goal.returns
returns c = record {
  appends = levels-all c.loop-zoom.out c.args.out.now c.args.pois.now c.args.ways.now c.args.interval.now
      c.loop-zoom.zoom c.loop-zoom-test.false c.loop-zoom.invariant;
}
