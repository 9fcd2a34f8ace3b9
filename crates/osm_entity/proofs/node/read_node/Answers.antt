use Rattle.std.proofs.Common.{◌≡◌, ◌∙◌, sym, ap, subst, true, refl, []}
use Rattle.std.specs.Prelude.{unwrap_or}
use Rattle.mf_base.specs.Packed.{packed_numbers, are_varints}
use Rattle.osm_entity.specs.InBlock.{block_shown}
use Rattle.osm_entity.proofs.MessageParts.{packed_whole}
use Rattle.osm_entity.proofs.NodeReads.{node-refused, node-stored}
use Rattle.osm_entity.proofs.node.read_node.Goals as goal

pub packed_at-keys-requires : goal.packed_at-keys-requires
packed_at-keys-requires c = (c.in-Ok.ensures.found 2 1 refl).within

pub packed_at-vals-requires : goal.packed_at-vals-requires
packed_at-vals-requires c = (c.in-Ok.ensures.found 3 2 refl).within

pub stored_node-requires-clause-keys : goal.stored_node-requires-clause-keys
stored_node-requires-clause-keys c =
    subst (λ b. are_varints b ≡ true)
    (sym (c.packed_at-keys.ensures ∙ ap (λ o. unwrap_or o []) (c.in-Ok.ensures.found 2 1 refl).bytes))
    (packed_whole _ _ 2 c.in-Ok.ensures.fits refl)

pub stored_node-requires-clause-vals : goal.stored_node-requires-clause-vals
stored_node-requires-clause-vals c =
    subst (λ b. are_varints b ≡ true)
    (sym (c.packed_at-vals.ensures ∙ ap (λ o. unwrap_or o []) (c.in-Ok.ensures.found 3 2 refl).bytes))
    (packed_whole _ _ 3 c.in-Ok.ensures.fits refl)

pub returns-in-Err-clause-told : goal.returns-in-Err-clause-told
returns-in-Err-clause-told c before behind =
    node-refused before (block_shown c.args.in_block) c.args.bytes.now c.in-Err.fault c.in-Err.ensures.message

pub returns-in-Ok-clause-told : goal.returns-in-Ok-clause-told
returns-in-Ok-clause-told c before behind =
    let found = c.in-Ok.ensures.found in
    node-stored before (block_shown c.args.in_block) c.args.bytes.now _ _ _ _ _ _ _ c.in-Ok.ensures.message
    (found 1 0 refl).number (found 8 3 refl).number (found 9 4 refl).number
    (ap packed_numbers (c.packed_at-keys.ensures ∙ ap (λ o. unwrap_or o []) (found 2 1 refl).bytes))
    (ap packed_numbers (c.packed_at-vals.ensures ∙ ap (λ o. unwrap_or o []) (found 3 2 refl).bytes))
    (c.stored_node.ensures.told before behind)
