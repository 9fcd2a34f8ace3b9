use Rattle.std.proofs.Common.{◌+◌, ◌*◌, ◌≤◌, ◌++◌, length, sym, ap, subst, ◌∙◌, Result, Ok, Err, OnOk, Option}
use Rattle.std.specs.Prelude.{◌==◌, find}
use Rattle.mf_edge.specs.Spill.{SpillState, part_limit}
use Rattle.spill_parts.specs.Join.{one_joined}
use Rattle.spill_parts.proofs.Joined.{one_longer, one_fits}
use Rattle.spill_parts.proofs.Looked.{looking_kept}
use Rattle.spill_parts.proofs.merge.join_row.Goals as goal

where_ok : {T E A B : Type 0} (answer : Result T E) → (A → B) → OnOk answer A → OnOk answer B
where_ok (Ok _) then is = then is
where_ok (Err _) then is = is

pub returns-clause-rows : goal.returns-clause-rows
returns-clause-rows g c =
    where_ok c.put_joined.result (λ rows told. rows
    ∙ ap (λ (found : Option g.row.N.Denot). c.args.out.now.rows ++ one_joined g.O.JoinOf.join_of c.args.row.now found)
    (c.in_ok-found.ensures.found told
    ∙ ap (λ k. find (λ n. g.N.Keyed.key_of n == k) c.args.lookup.now.reading.source.rows) c.key.ensures))
    c.put_joined.ensures.rows

pub returns-clause-looking : goal.returns-clause-looking
returns-clause-looking g c =
    where_ok c.put_joined.result (λ rows. looking_kept c.args.out.now.part
    (λ e. c.requires.apart (ap (λ p. p.part) (sym c.find.ensures.same_source) ∙ e))
    c.put_joined.ensures.only.others c.put_joined.ensures.only.same.tells c.in_ok-found.ensures.looking)
    c.put_joined.ensures.rows

pub returns-clause-few : goal.returns-clause-few
returns-clause-few g c =
    where_ok c.put_joined.result
    (one_longer g.O.JoinOf.join_of c.args.row.now c.in_ok-found.found c.args.out.now.rows c.put_joined.new.out.rows)
    c.put_joined.ensures.rows

pub returns-clause-fits_joined : goal.returns-clause-fits_joined
returns-clause-fits_joined g c told fits =
    let width = g.O.RowKind.kind.width in
    let found = c.in_ok-found.ensures.found told
    ∙ ap (λ k. find (λ n. g.N.Keyed.key_of n == k) c.args.lookup.now.reading.source.rows) c.key.ensures in
    c.put_joined.ensures.within (subst (λ (found : Option g.row.N.Denot). width * length c.args.out.now.rows
    + width * length (one_joined g.O.JoinOf.join_of c.args.row.now found) ≤ part_limit) (sym found) fits)
    ∙ ap (λ (s : SpillState). s.is_overrun) c.find.ensures.same

pub returns-clause-fits : goal.returns-clause-fits
returns-clause-fits g c fits =
    c.put_joined.ensures.within (one_fits g.O.JoinOf.join_of c.args.row.now c.in_ok-found.found g.O.RowKind.kind.width
    (length c.args.out.now.rows) part_limit fits)
    ∙ ap (λ (s : SpillState). s.is_overrun) c.find.ensures.same
