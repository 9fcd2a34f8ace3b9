use Rattle.std.proofs.Common.{◌≡◌, ◌∙◌, refl, sym, ap, rules, Err, [], subst, true}
use Rattle.std.specs.Prelude.{unwrap_or}
use Rattle.mf_base.specs.Packed.{are_varints}
use Rattle.mf_base.specs.TagCursor.{all_tags}
use Rattle.osm_model.specs.declared.numbers.TheConstants.{WAY_KEYS, WAY_VALS, WAY_REFS}
use Rattle.osm_model.specs.declared.tables.TheConstants.{WAY}
use Rattle.osm_model.specs.Wire.{fields}
use Rattle.osm_entity.specs.Answers.{answer_as}
use Rattle.osm_entity.specs.InBlock.{block_shown}
use Rattle.osm_entity.specs.Refs.{refs_left}
use Rattle.osm_entity.specs.Ways.{way_told}
use Rattle.osm_entity.proofs.MessageParts.{packed_whole}
use Rattle.osm_entity.proofs.WayReads.{way-refused, way-read, way-no_id, way-no_tags, way-no_refs, way-is}
use Rattle.osm_entity.proofs.way.WayView.read.Goals as goal

pub packed_at-keys-requires : goal.packed_at-keys-requires
packed_at-keys-requires c = (c.in-Ok.ensures.found 2 1 refl).within

pub packed_at-vals-requires : goal.packed_at-vals-requires
packed_at-vals-requires c = (c.in-Ok.ensures.found 3 2 refl).within

pub packed_at-requires : goal.packed_at-requires
packed_at-requires c = (c.in-Ok.ensures.found 8 3 refl).within

pub read_tags-requires-clause-keys : goal.read_tags-requires-clause-keys
read_tags-requires-clause-keys c =
    let fs = (fields c.args.bytes.now).items in
    subst (λ b. are_varints b ≡ true)
    (sym (c.packed_at-keys.ensures ∙ ap (λ o. unwrap_or o []) (c.in-Ok.ensures.found 2 1 refl).bytes))
    (packed_whole WAY fs WAY_KEYS c.in-Ok.ensures.fits refl)

pub read_tags-requires-clause-vals : goal.read_tags-requires-clause-vals
read_tags-requires-clause-vals c =
    let fs = (fields c.args.bytes.now).items in
    subst (λ b. are_varints b ≡ true)
    (sym (c.packed_at-vals.ensures ∙ ap (λ o. unwrap_or o []) (c.in-Ok.ensures.found 3 2 refl).bytes))
    (packed_whole WAY fs WAY_VALS c.in-Ok.ensures.fits refl)

pub read-requires : goal.read-requires
read-requires c =
    let fs = (fields c.args.bytes.now).items in
    subst (λ b. are_varints b ≡ true)
    (sym (c.packed_at.ensures ∙ ap (λ o. unwrap_or o []) (c.in-Ok.ensures.found 8 3 refl).bytes))
    (packed_whole WAY fs WAY_REFS c.in-Ok.ensures.fits refl)

pub returns-in-Err-clause-told : goal.returns-in-Err-clause-told
returns-in-Err-clause-told c before behind =
    way-refused (block_shown c.args.in_block) before c.args.bytes.now _ c.in-Err.ensures.message

pub returns-in_err-id-in-Ok-clause-told : goal.returns-in_err-id-in-Ok-clause-told
returns-in_err-id-in-Ok-clause-told c before behind =
    let e : c.from_residual.result ≡ Err c.in_err-id-in-Ok.field-0.0 = search rules in
    ap (answer_as way_told) e
    ∙ way-no_id c.in_err-id-in-Ok.field-0.0 _ _ _ (sym (c.in_err-id-in-Ok.was {u = tt})
    ∙ c.placed_id.ensures before behind)
    ∙ sym (way-read (block_shown c.args.in_block) before c.args.bytes.now _ _ _ _ (record {
      fs = (fields c.args.bytes.now).items;
      message_is = c.in-Ok.ensures.message;
      id = (c.in-Ok.ensures.found 1 0 refl).number;
      keys_are = refl;
      vals_are = refl;
      refs_are = refl;
    }))

pub returns-in_err-tags-in-Ok-clause-told : goal.returns-in_err-tags-in-Ok-clause-told
returns-in_err-tags-in-Ok-clause-told c before behind =
    let e : c.from_residual-in_err-tags-in-Ok.result ≡ Err c.in_err-tags-in-Ok.field-0.0 = search rules in
    ap (answer_as way_told) e
    ∙ way-no_tags c.in_err-tags-in-Ok.field-0.0 c.in_ok-id-in-Ok.id _ _ _ (sym (c.in_ok-id-in-Ok.was {u = tt})
    ∙ c.placed_id.ensures before behind)
    (ap (answer_as all_tags) (sym (c.in_err-tags-in-Ok.was {u = tt})) ∙ c.read_tags.ensures.told)
    ∙ sym (way-read (block_shown c.args.in_block) before c.args.bytes.now _ _ _ _ (record {
      fs = (fields c.args.bytes.now).items;
      message_is = c.in-Ok.ensures.message;
      id = (c.in-Ok.ensures.found 1 0 refl).number;
      keys_are = c.packed_at-keys.ensures ∙ ap (λ o. unwrap_or o []) (c.in-Ok.ensures.found 2 1 refl).bytes;
      vals_are = c.packed_at-vals.ensures ∙ ap (λ o. unwrap_or o []) (c.in-Ok.ensures.found 3 2 refl).bytes;
      refs_are = refl;
    }))

pub returns-in_err-refs-in-Ok-clause-told : goal.returns-in_err-refs-in-Ok-clause-told
returns-in_err-refs-in-Ok-clause-told c before behind =
    let e : c.from_residual-in_err-refs-in-Ok.result ≡ Err c.in_err-refs-in-Ok.field-0.0 = search rules in
    ap (answer_as way_told) e
    ∙ way-no_refs c.in_err-refs-in-Ok.field-0.0 c.in_ok-id-in-Ok.id (all_tags c.in_ok-tags-in-Ok.tags) _ _ _
    (sym (c.in_ok-id-in-Ok.was {u = tt}) ∙ c.placed_id.ensures before behind)
    (ap (answer_as all_tags) (sym (c.in_ok-tags-in-Ok.was {u = tt})) ∙ c.read_tags.ensures.told)
    (ap (answer_as refs_left) (sym (c.in_err-refs-in-Ok.was {u = tt})) ∙ c.read.ensures)
    ∙ sym (way-read (block_shown c.args.in_block) before c.args.bytes.now _ _ _ _ (record {
      fs = (fields c.args.bytes.now).items;
      message_is = c.in-Ok.ensures.message;
      id = (c.in-Ok.ensures.found 1 0 refl).number;
      keys_are = c.packed_at-keys.ensures ∙ ap (λ o. unwrap_or o []) (c.in-Ok.ensures.found 2 1 refl).bytes;
      vals_are = c.packed_at-vals.ensures ∙ ap (λ o. unwrap_or o []) (c.in-Ok.ensures.found 3 2 refl).bytes;
      refs_are = c.packed_at.ensures ∙ ap (λ o. unwrap_or o []) (c.in-Ok.ensures.found 8 3 refl).bytes;
    }))

pub returns-in_ok-refs-in-Ok-clause-told : goal.returns-in_ok-refs-in-Ok-clause-told
returns-in_ok-refs-in-Ok-clause-told c before behind =
    way-is c.in_ok-id-in-Ok.id (all_tags c.in_ok-tags-in-Ok.tags) (refs_left c.in_ok-refs-in-Ok.refs) _ _ _
    (sym (c.in_ok-id-in-Ok.was {u = tt}) ∙ c.placed_id.ensures before behind)
    (ap (answer_as all_tags) (sym (c.in_ok-tags-in-Ok.was {u = tt})) ∙ c.read_tags.ensures.told)
    (ap (answer_as refs_left) (sym (c.in_ok-refs-in-Ok.was {u = tt})) ∙ c.read.ensures)
    ∙ sym (way-read (block_shown c.args.in_block) before c.args.bytes.now _ _ _ _ (record {
      fs = (fields c.args.bytes.now).items;
      message_is = c.in-Ok.ensures.message;
      id = (c.in-Ok.ensures.found 1 0 refl).number;
      keys_are = c.packed_at-keys.ensures ∙ ap (λ o. unwrap_or o []) (c.in-Ok.ensures.found 2 1 refl).bytes;
      vals_are = c.packed_at-vals.ensures ∙ ap (λ o. unwrap_or o []) (c.in-Ok.ensures.found 3 2 refl).bytes;
      refs_are = c.packed_at.ensures ∙ ap (λ o. unwrap_or o []) (c.in-Ok.ensures.found 8 3 refl).bytes;
    }))
