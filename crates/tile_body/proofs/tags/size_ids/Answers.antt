use Rattle.std.proofs.Common.{length, arith, ◌∙◌, ap}
use Rattle.mf_base.specs.Spelling.{vbe_unsigned}
use Rattle.tile_body.proofs.TagBytes.{measures_ids-none, measures_ids-low, measures_ids-more, measures_ids-all}
use Rattle.tile_body.proofs.tags.size_ids.Goals as goal

pub loop-kept-init : goal.loop-kept-init
loop-kept-init c = measures_ids-none c.args.tags.now

pub overflow_add-size : goal.overflow_add-size
overflow_add-size c =
    let low = measures_ids-low c.loop-kept.size c.args.tags.now c.loop-kept.kept-index c.loop-kept.invariant in
    omega (arith, low, c.loop-kept-test.true, c.requires.few, c.from-size.ensures, c.size_vbe_u.ensures.most)

pub loop-kept-preserved : goal.loop-kept-preserved
loop-kept-preserved c =
    measures_ids-more c.loop-kept.size c.from-size.result c.args.tags.now c.loop-kept.kept-index _
    c.loop-kept-test.true c.loop-kept.invariant
    (c.from-size.ensures ∙ c.size_vbe_u.ensures.size ∙ ap (λ n. length (vbe_unsigned n)) c.from.ensures)
    (omega (arith, c.from-size.ensures, c.size_vbe_u.ensures.most))

pub returns : goal.returns
returns c = record {
  size = measures_ids-all c.loop-kept.size c.args.tags.now c.loop-kept.kept-index c.loop-kept-test.false
      c.loop-kept.invariant;
}
