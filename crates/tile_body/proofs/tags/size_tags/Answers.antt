use Rattle.std.proofs.Common.{◌∙◌, ap, length, arith}
use Rattle.mf_rows.specs.declared.head.Head.{Head}
use Rattle.tile_body.specs.Tags.{ids_bytes}
use Rattle.tile_body.proofs.TagBytes.{tags-length}
use Rattle.tile_body.proofs.tags.size_tags.Goals as goal

pub overflow_add-result : goal.overflow_add-result
overflow_add-result c =
    let tags = c.as_slice.ensures.value ∙ ap (λ (h : Head). h.tags.items) c.head.ensures in
    let ids = c.size_ids.ensures.size ∙ ap (λ l. length (ids_bytes l)) tags in
    let all = tags-length c.args.view.now in
    omega (arith, ids, all, c.requires.fits)

pub size_values-requires-clause-fits : goal.size_values-requires-clause-fits
size_values-requires-clause-fits c = let all = tags-length c.args.view.now in omega (arith, all, c.requires.fits)

pub overflow_add-result-2 : goal.overflow_add-result-2
overflow_add-result-2 c =
    let tags = c.as_slice.ensures.value ∙ ap (λ (h : Head). h.tags.items) c.head.ensures in
    let ids = c.size_ids.ensures.size ∙ ap (λ l. length (ids_bytes l)) tags in
    let all = tags-length c.args.view.now in
    omega (arith, ids, all, c.requires.fits, c.size_values.ensures.size)

pub returns : goal.returns
returns c =
    let tags = c.as_slice.ensures.value ∙ ap (λ (h : Head). h.tags.items) c.head.ensures in
    let ids = c.size_ids.ensures.size ∙ ap (λ l. length (ids_bytes l)) tags in
    let all = tags-length c.args.view.now in
    record { size = omega (arith, ids, all, c.size_values.ensures.size) }
