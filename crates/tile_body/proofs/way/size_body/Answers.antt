use Rattle.std.proofs.Common.{arith}
use Rattle.tile_body.proofs.Bodies.{body-length}
use Rattle.tile_body.proofs.way.size_body.Goals as goal

pub size_tags-requires-clause-fits : goal.size_tags-requires-clause-fits
size_tags-requires-clause-fits c =
    let all = body-length c.args.view.now c.args.drawn.now in omega (arith, all, c.requires.fits)

pub size_block_count-requires : goal.size_block_count-requires
size_block_count-requires c = record { fits = omega (arith, c.requires.blocks) }

pub overflow_add-result : goal.overflow_add-result
overflow_add-result c =
    let all = body-length c.args.view.now c.args.drawn.now in
    omega (arith, all, c.size_tags.ensures.size, c.requires.fits)

pub overflow_add-result-2 : goal.overflow_add-result-2
overflow_add-result-2 c =
    let all = body-length c.args.view.now c.args.drawn.now in
    omega (arith, all, c.size_tags.ensures.size, c.size_text.ensures.size, c.requires.fits)

pub overflow_add-result-3 : goal.overflow_add-result-3
overflow_add-result-3 c =
    let all = body-length c.args.view.now c.args.drawn.now in
    omega (arith, all, c.size_tags.ensures.size, c.size_text.ensures.size, c.size_text-2.ensures.size, c.requires.fits)

pub overflow_add-result-4 : goal.overflow_add-result-4
overflow_add-result-4 c =
    let all = body-length c.args.view.now c.args.drawn.now in
    omega (
      arith,
      all,
      c.size_tags.ensures.size,
      c.size_text.ensures.size,
      c.size_text-2.ensures.size,
      c.size_text-3.ensures.size,
      c.requires.fits,
    )

pub overflow_add-result-5 : goal.overflow_add-result-5
overflow_add-result-5 c =
    let all = body-length c.args.view.now c.args.drawn.now in
    omega (
      arith,
      all,
      c.size_tags.ensures.size,
      c.size_text.ensures.size,
      c.size_text-2.ensures.size,
      c.size_text-3.ensures.size,
      c.size_label.ensures.size,
      c.requires.fits,
    )

pub overflow_add-result-6 : goal.overflow_add-result-6
overflow_add-result-6 c =
    let all = body-length c.args.view.now c.args.drawn.now in
    omega (
      arith,
      all,
      c.size_tags.ensures.size,
      c.size_text.ensures.size,
      c.size_text-2.ensures.size,
      c.size_text-3.ensures.size,
      c.size_label.ensures.size,
      c.size_block_count.ensures.size,
      c.requires.fits,
    )

pub overflow_add-result-7 : goal.overflow_add-result-7
overflow_add-result-7 c =
    let all = body-length c.args.view.now c.args.drawn.now in
    omega (
      arith,
      all,
      c.size_tags.ensures.size,
      c.size_text.ensures.size,
      c.size_text-2.ensures.size,
      c.size_text-3.ensures.size,
      c.size_label.ensures.size,
      c.size_block_count.ensures.size,
      c.requires.sized.size,
      c.requires.fits,
    )

pub returns : goal.returns
returns c =
    let all = body-length c.args.view.now c.args.drawn.now in
    record {
      size = omega (
        arith,
        all,
        c.size_tags.ensures.size,
        c.size_text.ensures.size,
        c.size_text-2.ensures.size,
        c.size_text-3.ensures.size,
        c.size_label.ensures.size,
        c.size_block_count.ensures.size,
        c.requires.sized.size,
      );
    }
