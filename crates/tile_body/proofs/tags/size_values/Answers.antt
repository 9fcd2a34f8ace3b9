use Rattle.std.proofs.Common.{◌≡◌, ◌<◌, ◌≤◌, List, length, arith, ◌∙◌, ap, subst, slice_index_or}
use Rattle.mf_base.specs.declared.kept.Kept.{Kept}
use Rattle.mf_base.specs.declared.kept.KeptValue.TheVariants.{Plain}
use Rattle.mf_rows.specs.declared.head.Head.{Head}
use Rattle.tile_body.specs.Tags.{value_told}
use Rattle.tile_body.proofs.TagBytes.{measures_values-none, measures_values-fit, measures_values-more}
use Rattle.tile_body.proofs.TagBytes.{measures_values-all}
use Rattle.tile_body.proofs.tags.size_values.Goals as goal

pub loop-at-init : goal.loop-at-init
loop-at-init c = measures_values-none c.args.view.now.texts c.args.view.now.head.tags.items

pub overflow_add-size : goal.overflow_add-size
overflow_add-size c =
    let tags = c.as_slice-tags.ensures.value ∙ ap (λ (h : Head). h.tags.items) c.head.ensures in
    let fit = measures_values-fit c.args.view.now.texts c.args.view.now.head.tags.items c.loop-at.size
    c.size_value-size.result c.loop-at.at (record { tag = 0; value = Plain })
    (subst (λ (l : List Kept). c.loop-at.at < length l) tags c.loop-at-test.true) c.loop-at.invariant
    (subst (λ (l : List Kept). c.size_value-size.result ≡ length (value_told c.args.view.now.texts c.loop-at.at
    (slice_index_or l c.loop-at.at (record { tag = 0; value = Plain })).value)) tags
    c.size_value-size.ensures.size) in
    omega (arith, fit, c.requires.fits)

pub loop-at-preserved : goal.loop-at-preserved
loop-at-preserved c =
    let tags = c.as_slice-tags.ensures.value ∙ ap (λ (h : Head). h.tags.items) c.head.ensures in
    measures_values-more c.args.view.now.texts c.args.view.now.head.tags.items c.loop-at.size c.size_value-size.result
    c.loop-at.at (record { tag = 0; value = Plain })
    (subst (λ (l : List Kept). c.loop-at.at < length l) tags c.loop-at-test.true) c.loop-at.invariant
    (subst (λ (l : List Kept). c.size_value-size.result ≡ length (value_told c.args.view.now.texts c.loop-at.at
    (slice_index_or l c.loop-at.at (record { tag = 0; value = Plain })).value)) tags
    c.size_value-size.ensures.size)

pub returns : goal.returns
returns c =
    let tags = c.as_slice-tags.ensures.value ∙ ap (λ (h : Head). h.tags.items) c.head.ensures in
    record {
      size = measures_values-all c.args.view.now.texts c.args.view.now.head.tags.items c.loop-at.size c.loop-at.at
          (subst (λ (l : List Kept). length l ≤ c.loop-at.at) tags c.loop-at-test.false) c.loop-at.invariant;
    }
