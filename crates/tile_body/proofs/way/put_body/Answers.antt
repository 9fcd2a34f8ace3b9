use Rattle.std.proofs.Common.{arith, subst, [], ◌∷◌}
use Rattle.mf_base.specs.Buffer.{AppendsTo}
use Rattle.mf_base.proofs.ByteLaws.{length-big_endian}
use Rattle.std.specs.Prelude.{option_map}
use Rattle.mf_base.specs.Spelling.{string, big_endian}
use Rattle.map_model.specs.Layout.{optional, step_bytes, tag_bytes}
use Rattle.mf_rows.specs.Records.{text_in}
use Rattle.mf_rows.specs.declared.head.TextSlot.TheVariants.{Name, House, Reference}
use Rattle.way_delta.specs.Steps.{shown}
use Rattle.tile_body.specs.Tags.{tags_told}
use Rattle.tile_body.specs.Ways.{block_count_bytes}
use Rattle.tile_body.proofs.Bodies.{size-after, body-length, puts-body}
use Rattle.tile_body.proofs.Wholes.{few-blocks}
use Rattle.tile_body.proofs.way.put_body.Goals as goal

pub put_block_count-requires-clause-fits : goal.put_block_count-requires-clause-fits
put_block_count-requires-clause-fits c =
    let few = few-blocks c.args.view.now c.requires.member c.requires.light in
    omega (arith, few, c.requires.sized.blocks)

pub put_tags-requires-clause-room : goal.put_tags-requires-clause-room
put_tags-requires-clause-room c =
    let all = body-length c.args.view.now c.args.drawn.now in
    let s0 = size-after c.args.out.now c.put_be.new.out (big_endian 2 c.from.result) c.put_be.ensures.appends in
    let a0 = s0.0 in
    let b0 = s0.1 in
    let bits = length-big_endian 2 c.from.result in
    omega (arith, all, a0, b0, bits, c.requires.room)

pub put-requires : goal.put-requires
put-requires c =
    let all = body-length c.args.view.now c.args.drawn.now in
    let s0 = size-after c.args.out.now c.put_be.new.out (big_endian 2 c.from.result) c.put_be.ensures.appends in
    let a0 = s0.0 in
    let b0 = s0.1 in
    let s1 = size-after c.put_be.new.out c.put_tags.new.out
    (tag_bytes c.args.view.now.head.layer (tags_told c.args.view.now)) c.put_tags.ensures.appends in
    let a1 = s1.0 in
    let b1 = s1.1 in
    let bits = length-big_endian 2 c.from.result in
    omega (arith, all, a0, b0, a1, b1, bits, c.requires.room)

pub put_text-requires : goal.put_text-requires
put_text-requires c =
    let all = body-length c.args.view.now c.args.drawn.now in
    let s0 = size-after c.args.out.now c.put_be.new.out (big_endian 2 c.from.result) c.put_be.ensures.appends in
    let a0 = s0.0 in
    let b0 = s0.1 in
    let s1 = size-after c.put_be.new.out c.put_tags.new.out
    (tag_bytes c.args.view.now.head.layer (tags_told c.args.view.now)) c.put_tags.ensures.appends in
    let a1 = s1.0 in
    let b1 = s1.1 in
    let s2 = size-after c.put_tags.new.out c.put.new.self (c.flags.result ∷ []) c.put.ensures in
    let a2 = s2.0 in
    let b2 = s2.1 in
    let bits = length-big_endian 2 c.from.result in
    record { room = omega (arith, all, a0, b0, a1, b1, a2, b2, bits, c.requires.room) }

pub put_text-requires-2 : goal.put_text-requires-2
put_text-requires-2 c =
    let all = body-length c.args.view.now c.args.drawn.now in
    let s0 = size-after c.args.out.now c.put_be.new.out (big_endian 2 c.from.result) c.put_be.ensures.appends in
    let a0 = s0.0 in
    let b0 = s0.1 in
    let s1 = size-after c.put_be.new.out c.put_tags.new.out
    (tag_bytes c.args.view.now.head.layer (tags_told c.args.view.now)) c.put_tags.ensures.appends in
    let a1 = s1.0 in
    let b1 = s1.1 in
    let s2 = size-after c.put_tags.new.out c.put.new.self (c.flags.result ∷ []) c.put.ensures in
    let a2 = s2.0 in
    let b2 = s2.1 in
    let s3 = size-after c.put.new.self c.put_text.new.out (optional string (text_in c.args.view.now.texts Name))
    c.put_text.ensures.appends in
    let a3 = s3.0 in
    let b3 = s3.1 in
    let bits = length-big_endian 2 c.from.result in
    record { room = omega (arith, all, a0, b0, a1, b1, a2, b2, a3, b3, bits, c.requires.room) }

pub put_text-requires-3 : goal.put_text-requires-3
put_text-requires-3 c =
    let all = body-length c.args.view.now c.args.drawn.now in
    let s0 = size-after c.args.out.now c.put_be.new.out (big_endian 2 c.from.result) c.put_be.ensures.appends in
    let a0 = s0.0 in
    let b0 = s0.1 in
    let s1 = size-after c.put_be.new.out c.put_tags.new.out
    (tag_bytes c.args.view.now.head.layer (tags_told c.args.view.now)) c.put_tags.ensures.appends in
    let a1 = s1.0 in
    let b1 = s1.1 in
    let s2 = size-after c.put_tags.new.out c.put.new.self (c.flags.result ∷ []) c.put.ensures in
    let a2 = s2.0 in
    let b2 = s2.1 in
    let s3 = size-after c.put.new.self c.put_text.new.out (optional string (text_in c.args.view.now.texts Name))
    c.put_text.ensures.appends in
    let a3 = s3.0 in
    let b3 = s3.1 in
    let s4 = size-after c.put_text.new.out c.put_text-2.new.out
    (optional string (text_in c.args.view.now.texts House)) c.put_text-2.ensures.appends in
    let a4 = s4.0 in
    let b4 = s4.1 in
    let bits = length-big_endian 2 c.from.result in
    record { room = omega (arith, all, a0, b0, a1, b1, a2, b2, a3, b3, a4, b4, bits, c.requires.room) }

pub put_label-requires-clause-room : goal.put_label-requires-clause-room
put_label-requires-clause-room c =
    let all = body-length c.args.view.now c.args.drawn.now in
    let s0 = size-after c.args.out.now c.put_be.new.out (big_endian 2 c.from.result) c.put_be.ensures.appends in
    let a0 = s0.0 in
    let b0 = s0.1 in
    let s1 = size-after c.put_be.new.out c.put_tags.new.out
    (tag_bytes c.args.view.now.head.layer (tags_told c.args.view.now)) c.put_tags.ensures.appends in
    let a1 = s1.0 in
    let b1 = s1.1 in
    let s2 = size-after c.put_tags.new.out c.put.new.self (c.flags.result ∷ []) c.put.ensures in
    let a2 = s2.0 in
    let b2 = s2.1 in
    let s3 = size-after c.put.new.self c.put_text.new.out (optional string (text_in c.args.view.now.texts Name))
    c.put_text.ensures.appends in
    let a3 = s3.0 in
    let b3 = s3.1 in
    let s4 = size-after c.put_text.new.out c.put_text-2.new.out
    (optional string (text_in c.args.view.now.texts House)) c.put_text-2.ensures.appends in
    let a4 = s4.0 in
    let b4 = s4.1 in
    let s5 = size-after c.put_text-2.new.out c.put_text-3.new.out
    (optional string (text_in c.args.view.now.texts Reference)) c.put_text-3.ensures.appends in
    let a5 = s5.0 in
    let b5 = s5.1 in
    let bits = length-big_endian 2 c.from.result in
    omega (arith, all, a0, b0, a1, b1, a2, b2, a3, b3, a4, b4, a5, b5, bits, c.requires.room)

pub put_block_count-requires-clause-room : goal.put_block_count-requires-clause-room
put_block_count-requires-clause-room c =
    let all = body-length c.args.view.now c.args.drawn.now in
    let s0 = size-after c.args.out.now c.put_be.new.out (big_endian 2 c.from.result) c.put_be.ensures.appends in
    let a0 = s0.0 in
    let b0 = s0.1 in
    let s1 = size-after c.put_be.new.out c.put_tags.new.out
    (tag_bytes c.args.view.now.head.layer (tags_told c.args.view.now)) c.put_tags.ensures.appends in
    let a1 = s1.0 in
    let b1 = s1.1 in
    let s2 = size-after c.put_tags.new.out c.put.new.self (c.flags.result ∷ []) c.put.ensures in
    let a2 = s2.0 in
    let b2 = s2.1 in
    let s3 = size-after c.put.new.self c.put_text.new.out (optional string (text_in c.args.view.now.texts Name))
    c.put_text.ensures.appends in
    let a3 = s3.0 in
    let b3 = s3.1 in
    let s4 = size-after c.put_text.new.out c.put_text-2.new.out
    (optional string (text_in c.args.view.now.texts House)) c.put_text-2.ensures.appends in
    let a4 = s4.0 in
    let b4 = s4.1 in
    let s5 = size-after c.put_text-2.new.out c.put_text-3.new.out
    (optional string (text_in c.args.view.now.texts Reference)) c.put_text-3.ensures.appends in
    let a5 = s5.0 in
    let b5 = s5.1 in
    let s6 = size-after c.put_text-3.new.out c.put_label.new.out
    (optional step_bytes (option_map shown c.args.drawn.now.label)) c.put_label.ensures.appends in
    let a6 = s6.0 in
    let b6 = s6.1 in
    let bits = length-big_endian 2 c.from.result in
    omega (arith, all, a0, b0, a1, b1, a2, b2, a3, b3, a4, b4, a5, b5, a6, b6, bits, c.requires.room)

pub put_blocks-requires-clause-room : goal.put_blocks-requires-clause-room
put_blocks-requires-clause-room c =
    let all = body-length c.args.view.now c.args.drawn.now in
    let s0 = size-after c.args.out.now c.put_be.new.out (big_endian 2 c.from.result) c.put_be.ensures.appends in
    let a0 = s0.0 in
    let b0 = s0.1 in
    let s1 = size-after c.put_be.new.out c.put_tags.new.out
    (tag_bytes c.args.view.now.head.layer (tags_told c.args.view.now)) c.put_tags.ensures.appends in
    let a1 = s1.0 in
    let b1 = s1.1 in
    let s2 = size-after c.put_tags.new.out c.put.new.self (c.flags.result ∷ []) c.put.ensures in
    let a2 = s2.0 in
    let b2 = s2.1 in
    let s3 = size-after c.put.new.self c.put_text.new.out (optional string (text_in c.args.view.now.texts Name))
    c.put_text.ensures.appends in
    let a3 = s3.0 in
    let b3 = s3.1 in
    let s4 = size-after c.put_text.new.out c.put_text-2.new.out
    (optional string (text_in c.args.view.now.texts House)) c.put_text-2.ensures.appends in
    let a4 = s4.0 in
    let b4 = s4.1 in
    let s5 = size-after c.put_text-2.new.out c.put_text-3.new.out
    (optional string (text_in c.args.view.now.texts Reference)) c.put_text-3.ensures.appends in
    let a5 = s5.0 in
    let b5 = s5.1 in
    let s6 = size-after c.put_text-3.new.out c.put_label.new.out
    (optional step_bytes (option_map shown c.args.drawn.now.label)) c.put_label.ensures.appends in
    let a6 = s6.0 in
    let b6 = s6.1 in
    let s7 = size-after c.put_label.new.out c.put_block_count.new.out (block_count_bytes c.args.drawn.now.blocks)
    c.put_block_count.ensures.appends in
    let a7 = s7.0 in
    let b7 = s7.1 in
    let bits = length-big_endian 2 c.from.result in
    omega (arith, all, a0, b0, a1, b1, a2, b2, a3, b3, a4, b4, a5, b5, a6, b6, a7, b7, bits, c.requires.room)

pub returns : goal.returns
returns c = record {
  appends = puts-body c.args.view.now c.args.drawn.now c.args.out.now c.put_be.new.out c.put_tags.new.out
      c.put.new.self c.put_text.new.out c.put_text-2.new.out c.put_text-3.new.out c.put_label.new.out
      c.put_block_count.new.out c.put_blocks.new.out (subst
      (λ n. AppendsTo c.args.out.now c.put_be.new.out (big_endian 2 n)) c.from.ensures c.put_be.ensures.appends)
      c.put_tags.ensures.appends
      (subst (λ f. AppendsTo c.put_tags.new.out c.put.new.self (f ∷ [])) c.flags.ensures c.put.ensures)
      c.put_text.ensures.appends c.put_text-2.ensures.appends c.put_text-3.ensures.appends
      c.put_label.ensures.appends c.put_block_count.ensures.appends c.put_blocks.ensures.appends;
}
