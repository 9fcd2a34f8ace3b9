use Rattle.std.proofs.Common.{◌∙◌, ap, length, arith, subst, [], ◌∷◌}
use Rattle.mf_base.specs.Buffer.{AppendsTo}
use Rattle.mf_base.specs.Spelling.{vbe_signed, string}
use Rattle.map_model.specs.Layout.{step, step_bytes, optional, tag_bytes}
use Rattle.mf_rows.specs.declared.head.Head.{Head}
use Rattle.mf_rows.specs.declared.head.TextSlot.TheVariants.{Name, House}
use Rattle.mf_rows.specs.Records.{text_in}
use Rattle.way_delta.specs.Steps.{shown}
use Rattle.tile_body.specs.Tags.{tags_told}
use Rattle.tile_body.proofs.Bodies.{size-after, poi-length, puts-poi}
use Rattle.tile_body.proofs.poi.put_poi.Goals as goal

pub put_step-requires-clause-room : goal.put_step-requires-clause-room
put_step-requires-clause-room c =
    let all = poi-length c.args.corner c.args.view.now c.requires.node in
    let step_is = c.step_between.ensures.step ∙ ap (step c.args.corner) c.place_of.ensures in
    let size = ap (λ s. length (step_bytes s)) step_is in
    omega (arith, all, size, c.requires.room)

pub put_tags-requires-clause-room : goal.put_tags-requires-clause-room
put_tags-requires-clause-room c =
    let all = poi-length c.args.corner c.args.view.now c.requires.node in
    let step_is = c.step_between.ensures.step ∙ ap (step c.args.corner) c.place_of.ensures in
    let size = ap (λ s. length (step_bytes s)) step_is in
    let a = size-after c.args.out.now c.put_step.new.out (step_bytes (shown c.step_between.result))
    c.put_step.ensures.appends in
    let a0 = a.0 in
    let a1 = a.1 in
    omega (arith, all, size, a0, a1, c.requires.room)

pub put-requires : goal.put-requires
put-requires c =
    let all = poi-length c.args.corner c.args.view.now c.requires.node in
    let step_is = c.step_between.ensures.step ∙ ap (step c.args.corner) c.place_of.ensures in
    let size = ap (λ s. length (step_bytes s)) step_is in
    let a = size-after c.args.out.now c.put_step.new.out (step_bytes (shown c.step_between.result))
    c.put_step.ensures.appends in
    let b = size-after c.put_step.new.out c.put_tags.new.out
    (tag_bytes c.args.view.now.head.layer (tags_told c.args.view.now)) c.put_tags.ensures.appends in
    let a0 = a.0 in
    let a1 = a.1 in
    let b0 = b.0 in
    let b1 = b.1 in
    omega (arith, all, size, a0, a1, b0, b1, c.requires.room)

pub put_text-requires : goal.put_text-requires
put_text-requires c =
    let all = poi-length c.args.corner c.args.view.now c.requires.node in
    let step_is = c.step_between.ensures.step ∙ ap (step c.args.corner) c.place_of.ensures in
    let size = ap (λ s. length (step_bytes s)) step_is in
    let a = size-after c.args.out.now c.put_step.new.out (step_bytes (shown c.step_between.result))
    c.put_step.ensures.appends in
    let b = size-after c.put_step.new.out c.put_tags.new.out
    (tag_bytes c.args.view.now.head.layer (tags_told c.args.view.now)) c.put_tags.ensures.appends in
    let f = size-after c.put_tags.new.out c.put.new.self (c.flags.result ∷ []) c.put.ensures in
    let a0 = a.0 in
    let a1 = a.1 in
    let b0 = b.0 in
    let b1 = b.1 in
    let f0 = f.0 in
    let f1 = f.1 in
    record { room = omega (arith, all, size, a0, a1, b0, b1, f0, f1, c.requires.room) }

pub put_text-requires-2 : goal.put_text-requires-2
put_text-requires-2 c =
    let all = poi-length c.args.corner c.args.view.now c.requires.node in
    let step_is = c.step_between.ensures.step ∙ ap (step c.args.corner) c.place_of.ensures in
    let size = ap (λ s. length (step_bytes s)) step_is in
    let a = size-after c.args.out.now c.put_step.new.out (step_bytes (shown c.step_between.result))
    c.put_step.ensures.appends in
    let b = size-after c.put_step.new.out c.put_tags.new.out
    (tag_bytes c.args.view.now.head.layer (tags_told c.args.view.now)) c.put_tags.ensures.appends in
    let f = size-after c.put_tags.new.out c.put.new.self (c.flags.result ∷ []) c.put.ensures in
    let n = size-after c.put.new.self c.put_text.new.out (optional string (text_in c.args.view.now.texts Name))
    c.put_text.ensures.appends in
    let a0 = a.0 in
    let a1 = a.1 in
    let b0 = b.0 in
    let b1 = b.1 in
    let f0 = f.0 in
    let f1 = f.1 in
    let n0 = n.0 in
    let n1 = n.1 in
    record { room = omega (arith, all, size, a0, a1, b0, b1, f0, f1, n0, n1, c.requires.room) }

pub put_height-requires : goal.put_height-requires
put_height-requires c =
    let all = poi-length c.args.corner c.args.view.now c.requires.node in
    let step_is = c.step_between.ensures.step ∙ ap (step c.args.corner) c.place_of.ensures in
    let size = ap (λ s. length (step_bytes s)) step_is in
    let a = size-after c.args.out.now c.put_step.new.out (step_bytes (shown c.step_between.result))
    c.put_step.ensures.appends in
    let b = size-after c.put_step.new.out c.put_tags.new.out
    (tag_bytes c.args.view.now.head.layer (tags_told c.args.view.now)) c.put_tags.ensures.appends in
    let f = size-after c.put_tags.new.out c.put.new.self (c.flags.result ∷ []) c.put.ensures in
    let n = size-after c.put.new.self c.put_text.new.out (optional string (text_in c.args.view.now.texts Name))
    c.put_text.ensures.appends in
    let h = size-after c.put_text.new.out c.put_text-2.new.out (optional string (text_in c.args.view.now.texts House))
    c.put_text-2.ensures.appends in
    let a0 = a.0 in
    let a1 = a.1 in
    let b0 = b.0 in
    let b1 = b.1 in
    let f0 = f.0 in
    let f1 = f.1 in
    let n0 = n.0 in
    let n1 = n.1 in
    let h0 = h.0 in
    let h1 = h.1 in
    let height = ap (λ (g : Head). length (optional vbe_signed g.height)) c.head.ensures in
    record { room = omega (arith, all, size, a0, a1, b0, b1, f0, f1, n0, n1, h0, h1, height, c.requires.room) }

pub returns : goal.returns
returns c =
    let step_is = c.step_between.ensures.step ∙ ap (step c.args.corner) c.place_of.ensures in
    record {
      appends = puts-poi c.args.corner c.args.view.now c.requires.node c.args.out.now c.put_step.new.out
          c.put_tags.new.out c.put.new.self c.put_text.new.out c.put_text-2.new.out c.put_height.new.out
          (subst (λ s. AppendsTo c.args.out.now c.put_step.new.out (step_bytes s)) step_is c.put_step.ensures.appends)
          c.put_tags.ensures.appends
          (subst (λ f. AppendsTo c.put_tags.new.out c.put.new.self (f ∷ [])) c.flags.ensures c.put.ensures)
          c.put_text.ensures.appends c.put_text-2.ensures.appends
          (subst (λ (g : Head). AppendsTo c.put_text-2.new.out c.put_height.new.out (optional vbe_signed g.height))
          c.head.ensures c.put_height.ensures.appends);
    }
