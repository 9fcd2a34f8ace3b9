use Rattle.std.proofs.Common.{◌≡◌, ◌∙◌, sym, ap, subst, true, refl, []}
use Rattle.std.specs.Prelude.{unwrap_or}
use Rattle.mf_base.specs.Packed.{packed_numbers, are_varints}
use Rattle.osm_entity.proofs.MessageParts.{packed_whole}
use Rattle.osm_entity.proofs.DenseNext.{objects-refused, objects-are}
use Rattle.osm_entity.proofs.dense_read.read_dense.Goals as goal

pub packed_at-ids-requires : goal.packed_at-ids-requires
packed_at-ids-requires c = (c.in-Ok.ensures.found 1 0 refl).within

pub packed_at-lats-requires : goal.packed_at-lats-requires
packed_at-lats-requires c = (c.in-Ok.ensures.found 8 1 refl).within

pub packed_at-lons-requires : goal.packed_at-lons-requires
packed_at-lons-requires c = (c.in-Ok.ensures.found 9 2 refl).within

pub packed_at-requires : goal.packed_at-requires
packed_at-requires c = (c.in-Ok.ensures.found 10 3 refl).within

pub dense_of-requires-clause-ids : goal.dense_of-requires-clause-ids
dense_of-requires-clause-ids c =
    subst (λ b. are_varints b ≡ true)
    (sym (c.packed_at-ids.ensures ∙ ap (λ o. unwrap_or o []) (c.in-Ok.ensures.found 1 0 refl).bytes))
    (packed_whole _ _ 1 c.in-Ok.ensures.fits refl)

pub dense_of-requires-clause-lats : goal.dense_of-requires-clause-lats
dense_of-requires-clause-lats c =
    subst (λ b. are_varints b ≡ true)
    (sym (c.packed_at-lats.ensures ∙ ap (λ o. unwrap_or o []) (c.in-Ok.ensures.found 8 1 refl).bytes))
    (packed_whole _ _ 8 c.in-Ok.ensures.fits refl)

pub dense_of-requires-clause-lons : goal.dense_of-requires-clause-lons
dense_of-requires-clause-lons c =
    subst (λ b. are_varints b ≡ true)
    (sym (c.packed_at-lons.ensures ∙ ap (λ o. unwrap_or o []) (c.in-Ok.ensures.found 9 2 refl).bytes))
    (packed_whole _ _ 9 c.in-Ok.ensures.fits refl)

pub dense_of-requires-clause-keys_vals : goal.dense_of-requires-clause-keys_vals
dense_of-requires-clause-keys_vals c =
    subst (λ b. are_varints b ≡ true)
    (sym (c.packed_at.ensures ∙ ap (λ o. unwrap_or o []) (c.in-Ok.ensures.found 10 3 refl).bytes))
    (packed_whole _ _ 10 c.in-Ok.ensures.fits refl)

pub returns-in-Err : goal.returns-in-Err
returns-in-Err c b = objects-refused b c.args.bytes.now c.in-Err.fault c.in-Err.ensures.message

pub returns-in-Ok : goal.returns-in-Ok
returns-in-Ok c b =
    let found = c.in-Ok.ensures.found in
    objects-are b c.args.bytes.now _ _ _ _ _ c.dense_of.result c.in-Ok.ensures.message
    (ap packed_numbers (c.packed_at-ids.ensures ∙ ap (λ o. unwrap_or o []) (found 1 0 refl).bytes))
    (ap packed_numbers (c.packed_at-lats.ensures ∙ ap (λ o. unwrap_or o []) (found 8 1 refl).bytes))
    (ap packed_numbers (c.packed_at-lons.ensures ∙ ap (λ o. unwrap_or o []) (found 9 2 refl).bytes))
    (ap packed_numbers (c.packed_at.ensures ∙ ap (λ o. unwrap_or o []) (found 10 3 refl).bytes))
    (c.dense_of.ensures b)
