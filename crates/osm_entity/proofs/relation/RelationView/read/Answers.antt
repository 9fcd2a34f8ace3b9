use Rattle.std.proofs.Common.{◌≡◌, ◌∙◌, refl, sym, ap, rules, Err, [], subst, true}
use Rattle.std.specs.Prelude.{unwrap_or}
use Rattle.mf_base.specs.Packed.{are_varints}
use Rattle.mf_base.specs.TagCursor.{all_tags}
use Rattle.osm_model.specs.declared.numbers.TheConstants.{RELATION_KEYS, RELATION_VALS, RELATION_ROLES_SID}
use Rattle.osm_model.specs.declared.numbers.TheConstants.{RELATION_MEMIDS, RELATION_TYPES}
use Rattle.osm_model.specs.declared.tables.TheConstants.{RELATION}
use Rattle.osm_model.specs.Wire.{fields}
use Rattle.osm_entity.specs.Answers.{answer_as}
use Rattle.osm_entity.specs.InBlock.{block_shown}
use Rattle.osm_entity.specs.Members.{members_left}
use Rattle.osm_entity.specs.Relations.{relation_told}
use Rattle.osm_entity.proofs.MessageParts.{packed_whole}
use Rattle.osm_entity.proofs.RelationReads.{relation-refused, relation-read, relation-no_id, relation-no_tags}
use Rattle.osm_entity.proofs.RelationReads.{relation-no_members, relation-is}
use Rattle.osm_entity.proofs.relation.RelationView.read.Goals as goal

pub packed_at-keys-requires : goal.packed_at-keys-requires
packed_at-keys-requires c = (c.in-Ok.ensures.found 2 1 refl).within

pub packed_at-vals-requires : goal.packed_at-vals-requires
packed_at-vals-requires c = (c.in-Ok.ensures.found 3 2 refl).within

pub packed_at-roles-requires : goal.packed_at-roles-requires
packed_at-roles-requires c = (c.in-Ok.ensures.found 8 3 refl).within

pub packed_at-ids-requires : goal.packed_at-ids-requires
packed_at-ids-requires c = (c.in-Ok.ensures.found 9 4 refl).within

pub packed_at-types-requires : goal.packed_at-types-requires
packed_at-types-requires c = (c.in-Ok.ensures.found 10 5 refl).within

pub read_tags-requires-clause-keys : goal.read_tags-requires-clause-keys
read_tags-requires-clause-keys c =
    subst (λ b. are_varints b ≡ true)
    (sym (c.packed_at-keys.ensures ∙ ap (λ o. unwrap_or o []) (c.in-Ok.ensures.found 2 1 refl).bytes))
    (packed_whole RELATION (fields c.args.bytes.now).items RELATION_KEYS c.in-Ok.ensures.fits refl)

pub read_tags-requires-clause-vals : goal.read_tags-requires-clause-vals
read_tags-requires-clause-vals c =
    subst (λ b. are_varints b ≡ true)
    (sym (c.packed_at-vals.ensures ∙ ap (λ o. unwrap_or o []) (c.in-Ok.ensures.found 3 2 refl).bytes))
    (packed_whole RELATION (fields c.args.bytes.now).items RELATION_VALS c.in-Ok.ensures.fits refl)

pub read-requires-clause-roles : goal.read-requires-clause-roles
read-requires-clause-roles c =
    subst (λ b. are_varints b ≡ true)
    (sym (c.packed_at-roles.ensures ∙ ap (λ o. unwrap_or o []) (c.in-Ok.ensures.found 8 3 refl).bytes))
    (packed_whole RELATION (fields c.args.bytes.now).items RELATION_ROLES_SID c.in-Ok.ensures.fits refl)

pub read-requires-clause-ids : goal.read-requires-clause-ids
read-requires-clause-ids c =
    subst (λ b. are_varints b ≡ true)
    (sym (c.packed_at-ids.ensures ∙ ap (λ o. unwrap_or o []) (c.in-Ok.ensures.found 9 4 refl).bytes))
    (packed_whole RELATION (fields c.args.bytes.now).items RELATION_MEMIDS c.in-Ok.ensures.fits refl)

pub read-requires-clause-types : goal.read-requires-clause-types
read-requires-clause-types c =
    subst (λ b. are_varints b ≡ true)
    (sym (c.packed_at-types.ensures ∙ ap (λ o. unwrap_or o []) (c.in-Ok.ensures.found 10 5 refl).bytes))
    (packed_whole RELATION (fields c.args.bytes.now).items RELATION_TYPES c.in-Ok.ensures.fits refl)

pub returns-in-Err-clause-told : goal.returns-in-Err-clause-told
returns-in-Err-clause-told c before behind =
    relation-refused (block_shown c.args.in_block) before c.args.bytes.now _ c.in-Err.ensures.message

pub returns-in_err-id-in-Ok-clause-told : goal.returns-in_err-id-in-Ok-clause-told
returns-in_err-id-in-Ok-clause-told c before behind =
    let e : c.from_residual.result ≡ Err c.in_err-id-in-Ok.field-0.0 = search rules in
    ap (answer_as relation_told) e
    ∙ relation-no_id c.in_err-id-in-Ok.field-0.0 _ _ _ (sym (c.in_err-id-in-Ok.was {u = tt})
    ∙ c.placed_id.ensures before behind)
    ∙ sym (relation-read (block_shown c.args.in_block) before c.args.bytes.now _ _ _ _ _ _ (record {
      fs = (fields c.args.bytes.now).items;
      message_is = c.in-Ok.ensures.message;
      id = (c.in-Ok.ensures.found 1 0 refl).number;
      keys_are = refl;
      vals_are = refl;
      roles_are = refl;
      ids_are = refl;
      types_are = refl;
    }))

pub returns-in_err-tags-in-Ok-clause-told : goal.returns-in_err-tags-in-Ok-clause-told
returns-in_err-tags-in-Ok-clause-told c before behind =
    let e : c.from_residual-in_err-tags-in-Ok.result ≡ Err c.in_err-tags-in-Ok.field-0.0 = search rules in
    ap (answer_as relation_told) e
    ∙ relation-no_tags c.in_err-tags-in-Ok.field-0.0 c.in_ok-id-in-Ok.id _ _ _
    (sym (c.in_ok-id-in-Ok.was {u = tt}) ∙ c.placed_id.ensures before behind)
    (ap (answer_as all_tags) (sym (c.in_err-tags-in-Ok.was {u = tt})) ∙ c.read_tags.ensures.told)
    ∙ sym (relation-read (block_shown c.args.in_block) before c.args.bytes.now _ _ _ _ _ _ (record {
      fs = (fields c.args.bytes.now).items;
      message_is = c.in-Ok.ensures.message;
      id = (c.in-Ok.ensures.found 1 0 refl).number;
      keys_are = c.packed_at-keys.ensures ∙ ap (λ o. unwrap_or o []) (c.in-Ok.ensures.found 2 1 refl).bytes;
      vals_are = c.packed_at-vals.ensures ∙ ap (λ o. unwrap_or o []) (c.in-Ok.ensures.found 3 2 refl).bytes;
      roles_are = refl;
      ids_are = refl;
      types_are = refl;
    }))

pub returns-in_err-members-in-Ok-clause-told : goal.returns-in_err-members-in-Ok-clause-told
returns-in_err-members-in-Ok-clause-told c before behind =
    let e : c.from_residual-in_err-members-in-Ok.result ≡ Err c.in_err-members-in-Ok.field-0.0 = search rules in
    ap (answer_as relation_told) e
    ∙ relation-no_members c.in_err-members-in-Ok.field-0.0 c.in_ok-id-in-Ok.id (all_tags c.in_ok-tags-in-Ok.tags) _ _ _
    (sym (c.in_ok-id-in-Ok.was {u = tt}) ∙ c.placed_id.ensures before behind)
    (ap (answer_as all_tags) (sym (c.in_ok-tags-in-Ok.was {u = tt})) ∙ c.read_tags.ensures.told)
    (ap (answer_as members_left) (sym (c.in_err-members-in-Ok.was {u = tt})) ∙ c.read.ensures)
    ∙ sym (relation-read (block_shown c.args.in_block) before c.args.bytes.now _ _ _ _ _ _ (record {
      fs = (fields c.args.bytes.now).items;
      message_is = c.in-Ok.ensures.message;
      id = (c.in-Ok.ensures.found 1 0 refl).number;
      keys_are = c.packed_at-keys.ensures ∙ ap (λ o. unwrap_or o []) (c.in-Ok.ensures.found 2 1 refl).bytes;
      vals_are = c.packed_at-vals.ensures ∙ ap (λ o. unwrap_or o []) (c.in-Ok.ensures.found 3 2 refl).bytes;
      roles_are = c.packed_at-roles.ensures ∙ ap (λ o. unwrap_or o []) (c.in-Ok.ensures.found 8 3 refl).bytes;
      ids_are = c.packed_at-ids.ensures ∙ ap (λ o. unwrap_or o []) (c.in-Ok.ensures.found 9 4 refl).bytes;
      types_are = c.packed_at-types.ensures ∙ ap (λ o. unwrap_or o []) (c.in-Ok.ensures.found 10 5 refl).bytes;
    }))

pub returns-in_ok-members-in-Ok-clause-told : goal.returns-in_ok-members-in-Ok-clause-told
returns-in_ok-members-in-Ok-clause-told c before behind =
    relation-is c.in_ok-id-in-Ok.id (all_tags c.in_ok-tags-in-Ok.tags) (members_left c.in_ok-members-in-Ok.members)
    _ _ _ (sym (c.in_ok-id-in-Ok.was {u = tt}) ∙ c.placed_id.ensures before behind)
    (ap (answer_as all_tags) (sym (c.in_ok-tags-in-Ok.was {u = tt})) ∙ c.read_tags.ensures.told)
    (ap (answer_as members_left) (sym (c.in_ok-members-in-Ok.was {u = tt})) ∙ c.read.ensures)
    ∙ sym (relation-read (block_shown c.args.in_block) before c.args.bytes.now _ _ _ _ _ _ (record {
      fs = (fields c.args.bytes.now).items;
      message_is = c.in-Ok.ensures.message;
      id = (c.in-Ok.ensures.found 1 0 refl).number;
      keys_are = c.packed_at-keys.ensures ∙ ap (λ o. unwrap_or o []) (c.in-Ok.ensures.found 2 1 refl).bytes;
      vals_are = c.packed_at-vals.ensures ∙ ap (λ o. unwrap_or o []) (c.in-Ok.ensures.found 3 2 refl).bytes;
      roles_are = c.packed_at-roles.ensures ∙ ap (λ o. unwrap_or o []) (c.in-Ok.ensures.found 8 3 refl).bytes;
      ids_are = c.packed_at-ids.ensures ∙ ap (λ o. unwrap_or o []) (c.in-Ok.ensures.found 9 4 refl).bytes;
      types_are = c.packed_at-types.ensures ∙ ap (λ o. unwrap_or o []) (c.in-Ok.ensures.found 10 5 refl).bytes;
    }))
