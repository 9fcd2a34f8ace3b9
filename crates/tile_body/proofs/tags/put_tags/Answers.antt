use Rattle.std.proofs.Common.{rules, ◌≡◌, ◌∙◌, ap, length, to_z, of_z, w8}
use Rattle.mf_rows.specs.declared.head.Head.{Head}
use Rattle.map_model.specs.Layout.{layer_byte}
use Rattle.tile_body.proofs.TagBytes.{ids-after, values-after, puts-tags}
use Rattle.tile_body.proofs.tags.put_tags.Goals as goal

pub put_ids-requires : goal.put_ids-requires
put_ids-requires c =
    let tags = c.as_slice.ensures.value ∙ ap (λ (h : Head). h.tags.items) c.head-head.ensures in
    let layer : to_z w8 (of_z w8 c.head-head.result.now.layer) ≡ c.head-head.result.now.layer = search rules in
    let byte = c.layer_byte.ensures ∙ ap (λ z. layer_byte z c.len.result) layer
    ∙ ap (layer_byte c.head-head.result.now.layer) c.len.ensures.value ∙ ap
    (λ (h : Head). layer_byte h.layer (length h.tags.items)) c.head-head.ensures in
    record { room = ids-after c.args.view.now _ _ byte tags _ _ c.put.ensures c.requires.room }

pub put_values-requires-clause-room : goal.put_values-requires-clause-room
put_values-requires-clause-room c =
    let tags = c.as_slice.ensures.value ∙ ap (λ (h : Head). h.tags.items) c.head-head.ensures in
    let layer : to_z w8 (of_z w8 c.head-head.result.now.layer) ≡ c.head-head.result.now.layer = search rules in
    let byte = c.layer_byte.ensures ∙ ap (λ z. layer_byte z c.len.result) layer
    ∙ ap (layer_byte c.head-head.result.now.layer) c.len.ensures.value ∙ ap
    (λ (h : Head). layer_byte h.layer (length h.tags.items)) c.head-head.ensures in
    values-after c.args.view.now _ _ byte tags _ _ _ c.put.ensures c.put_ids.ensures.appends c.requires.room

pub returns : goal.returns
returns c =
    let tags = c.as_slice.ensures.value ∙ ap (λ (h : Head). h.tags.items) c.head-head.ensures in
    let layer : to_z w8 (of_z w8 c.head-head.result.now.layer) ≡ c.head-head.result.now.layer = search rules in
    let byte = c.layer_byte.ensures ∙ ap (λ z. layer_byte z c.len.result) layer
    ∙ ap (layer_byte c.head-head.result.now.layer) c.len.ensures.value ∙ ap
    (λ (h : Head). layer_byte h.layer (length h.tags.items)) c.head-head.ensures in
    record {
      appends = puts-tags c.args.view.now _ _ byte tags _ _ _ _ c.put.ensures c.put_ids.ensures.appends
          c.put_values.ensures.appends;
    }
