use Rattle.std.proofs.Common.{◌∙◌, ap, length, arith}
use Rattle.mf_base.specs.Spelling.{vbe_signed}
use Rattle.map_model.specs.Layout.{step, step_bytes, optional}
use Rattle.mf_rows.specs.declared.head.Head.{Head}
use Rattle.tile_body.proofs.Bodies.{poi-length}
use Rattle.tile_body.proofs.poi.size_poi.Goals as goal

pub size_tags-requires-clause-fits : goal.size_tags-requires-clause-fits
size_tags-requires-clause-fits c =
    let all = poi-length c.args.corner c.args.view.now c.requires.node in
    omega (arith, all, c.requires.few)

pub overflow_add-result : goal.overflow_add-result
overflow_add-result c =
    let all = poi-length c.args.corner c.args.view.now c.requires.node in
    let step_is = c.step_between.ensures.step ∙ ap (step c.args.corner) c.place_of.ensures in
    let size = c.size_step.ensures.size ∙ ap (λ s. length (step_bytes s)) step_is in
    omega (arith, all, size, c.size_tags.ensures.size, c.requires.few)

pub overflow_add-result-2 : goal.overflow_add-result-2
overflow_add-result-2 c =
    let all = poi-length c.args.corner c.args.view.now c.requires.node in
    let step_is = c.step_between.ensures.step ∙ ap (step c.args.corner) c.place_of.ensures in
    let size = c.size_step.ensures.size ∙ ap (λ s. length (step_bytes s)) step_is in
    omega (arith, all, size, c.size_tags.ensures.size, c.requires.few)

pub overflow_add-result-3 : goal.overflow_add-result-3
overflow_add-result-3 c =
    let all = poi-length c.args.corner c.args.view.now c.requires.node in
    let step_is = c.step_between.ensures.step ∙ ap (step c.args.corner) c.place_of.ensures in
    let size = c.size_step.ensures.size ∙ ap (λ s. length (step_bytes s)) step_is in
    omega (arith, all, size, c.size_tags.ensures.size, c.size_text.ensures.size, c.requires.few)

pub overflow_add-result-4 : goal.overflow_add-result-4
overflow_add-result-4 c =
    let all = poi-length c.args.corner c.args.view.now c.requires.node in
    let step_is = c.step_between.ensures.step ∙ ap (step c.args.corner) c.place_of.ensures in
    let size = c.size_step.ensures.size ∙ ap (λ s. length (step_bytes s)) step_is in
    omega (
      arith,
      all,
      size,
      c.size_tags.ensures.size,
      c.size_text.ensures.size,
      c.size_text-2.ensures.size,
      c.requires.few,
    )

pub overflow_add-result-5 : goal.overflow_add-result-5
overflow_add-result-5 c =
    let all = poi-length c.args.corner c.args.view.now c.requires.node in
    let step_is = c.step_between.ensures.step ∙ ap (step c.args.corner) c.place_of.ensures in
    let size = c.size_step.ensures.size ∙ ap (λ s. length (step_bytes s)) step_is in
    let height = c.size_height.ensures.size ∙ ap (λ (g : Head). length (optional vbe_signed g.height)) c.head.ensures in
    omega (
      arith,
      all,
      size,
      c.size_tags.ensures.size,
      c.size_text.ensures.size,
      c.size_text-2.ensures.size,
      height,
      c.requires.few,
    )

pub returns : goal.returns
returns c =
    let all = poi-length c.args.corner c.args.view.now c.requires.node in
    let step_is = c.step_between.ensures.step ∙ ap (step c.args.corner) c.place_of.ensures in
    let size = c.size_step.ensures.size ∙ ap (λ s. length (step_bytes s)) step_is in
    let height = c.size_height.ensures.size ∙ ap (λ (g : Head). length (optional vbe_signed g.height)) c.head.ensures in
    record {
      size = omega (
        arith,
        all,
        size,
        c.size_tags.ensures.size,
        c.size_text.ensures.size,
        c.size_text-2.ensures.size,
        height,
      );
    }
