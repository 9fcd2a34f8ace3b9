use Rattle.std.proofs.Common.{◌≡◌, ◌<◌, ◌≤◌, List, length, ◌∙◌, ap, sym, subst, slice_index_or, true, false}
use Rattle.std.specs.Prelude.{nat_lt, ◌&&◌}
use Rattle.mf_base.specs.declared.kept.Kept.{Kept}
use Rattle.mf_base.specs.declared.kept.KeptValue.TheVariants.{Plain}
use Rattle.mf_rows.specs.declared.head.Head.{Head}
use Rattle.tile_body.specs.Tested.{has_short_text}
use Rattle.tile_body.proofs.Admitted.{so_far-none, so_far-more, so_far-not, so_far-all}
use Rattle.tile_body.proofs.spelled.are_kept.Goals as goal

pub loop-at-init : goal.loop-at-init
loop-at-init c = so_far-none c.args.view.now.texts c.args.view.now.head.tags.items

pub returns-then-not-is_kept : goal.returns-then-not-is_kept
returns-then-not-is_kept c =
    let tags = c.as_slice-tags.ensures.value ∙ ap (λ (h : Head). h.tags.items) c.head.ensures in
    so_far-not c.args.view.now.texts c.args.view.now.head.tags.items c.loop-at.at (record { tag = 0; value = Plain })
    (subst (λ (l : List Kept). c.loop-at.at < length l) tags c.loop-at-test.true)
    (subst (λ (l : List Kept). (nat_lt (slice_index_or l c.loop-at.at (record { tag = 0; value = Plain })).tag 4096
    && has_short_text c.args.view.now.texts c.loop-at.at
    (slice_index_or l c.loop-at.at (record { tag = 0; value = Plain })).value) ≡ false) tags
    (sym c.is_kept.ensures ∙ c.if-not-is_kept.true)) c.loop-at.invariant

pub loop-at-preserved : goal.loop-at-preserved
loop-at-preserved c =
    let tags = c.as_slice-tags.ensures.value ∙ ap (λ (h : Head). h.tags.items) c.head.ensures in
    so_far-more c.args.view.now.texts c.args.view.now.head.tags.items c.loop-at.at
    (record { tag = 0; value = Plain })
    (subst (λ (l : List Kept). c.loop-at.at < length l) tags c.loop-at-test.true)
    (subst (λ (l : List Kept). (nat_lt (slice_index_or l c.loop-at.at (record { tag = 0; value = Plain })).tag 4096
    && has_short_text c.args.view.now.texts c.loop-at.at
    (slice_index_or l c.loop-at.at (record { tag = 0; value = Plain })).value) ≡ true) tags
    (sym c.is_kept.ensures ∙ c.if-not-is_kept.false)) c.loop-at.invariant

pub returns : goal.returns
returns c =
    let tags = c.as_slice-tags.ensures.value ∙ ap (λ (h : Head). h.tags.items) c.head.ensures in
    so_far-all c.args.view.now.texts c.args.view.now.head.tags.items c.loop-at.at
    (subst (λ (l : List Kept). length l ≤ c.loop-at.at) tags c.loop-at-test.false) c.loop-at.invariant
