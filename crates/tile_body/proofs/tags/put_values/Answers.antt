use Rattle.std.proofs.Common.{◌<◌, ◌≤◌, ◌+◌, List, length, ◌∙◌, ap, sym, subst, slice_index_or}
use Rattle.mf_base.specs.Buffer.{HasRoom, AppendsTo}
use Rattle.mf_base.specs.declared.kept.Kept.{Kept}
use Rattle.mf_base.specs.declared.kept.KeptValue.TheVariants.{Plain}
use Rattle.mf_rows.specs.declared.head.Head.{Head}
use Rattle.tile_body.specs.Tags.{value_told}
use Rattle.tile_body.proofs.TagBytes.{values-none, values-room, values-more, values-all}
use Rattle.tile_body.proofs.tags.put_values.Goals as goal

pub loop-at-init : goal.loop-at-init
loop-at-init c = values-none c.args.view.now.texts c.args.view.now.head.tags.items c.args.out.now

pub put_value-requires : goal.put_value-requires
put_value-requires c =
    let tags = c.as_slice-tags.ensures.value ∙ ap (λ (h : Head). h.tags.items) c.head.ensures in
    record {
      room = subst (λ (l : List Kept). HasRoom c.loop-at.out (length (value_told c.args.view.now.texts c.loop-at.at
          (slice_index_or l c.loop-at.at (record { tag = 0; value = Plain })).value) + 10)) (sym tags)
          (values-room c.args.view.now.texts c.args.view.now.head.tags.items c.loop-at.out c.args.out.now c.loop-at.at
          (record { tag = 0; value = Plain }) (subst (λ (l : List Kept). c.loop-at.at < length l) tags
          c.loop-at-test.true) c.loop-at.invariant c.requires.room);
    }

pub loop-at-preserved : goal.loop-at-preserved
loop-at-preserved c =
    let tags = c.as_slice-tags.ensures.value ∙ ap (λ (h : Head). h.tags.items) c.head.ensures in
    values-more c.args.view.now.texts c.args.view.now.head.tags.items c.loop-at.out c.put_value.new.out c.args.out.now
    c.loop-at.at (record { tag = 0; value = Plain }) (subst (λ (l : List Kept). c.loop-at.at < length l) tags
    c.loop-at-test.true) c.loop-at.invariant
    (subst (λ (l : List Kept). AppendsTo c.loop-at.out c.put_value.new.out (value_told c.args.view.now.texts
    c.loop-at.at (slice_index_or l c.loop-at.at (record { tag = 0; value = Plain })).value)) tags
    c.put_value.ensures.appends)

pub returns : goal.returns
returns c =
    let tags = c.as_slice-tags.ensures.value ∙ ap (λ (h : Head). h.tags.items) c.head.ensures in
    record {
      appends = values-all c.args.view.now.texts c.args.view.now.head.tags.items c.loop-at.out c.args.out.now
          c.loop-at.at (subst (λ (l : List Kept). length l ≤ c.loop-at.at) tags c.loop-at-test.false)
          c.loop-at.invariant;
    }
