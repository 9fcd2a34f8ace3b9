use Rattle.std.proofs.Common.{arith, ap, sym, ◌∙◌, ◌+◌, ℕ, Ok}
use Rattle.mf_base.proofs.StepLaws.{ok_is, err_is_no_ok}
use Rattle.mf_base.proofs.VarintRead.{found-at, only-at, none-at_end, short-at_end}
use Rattle.mf_base.proofs.varint.get_varint.Goals as goal

pub returns-then-at-bytes-clause-only : goal.returns-then-at-bytes-clause-only
returns-then-at-bytes-clause-only c n b rest v whole = absurd (none-at_end _ _ c.if-at-bytes.true n b rest v whole)

pub returns-then-at-bytes-clause-exact : goal.returns-then-at-bytes-clause-exact
returns-then-at-bytes-clause-exact c = short-at_end _ _ c.if-at-bytes.true

pub returns-in_err-value-clause-only : goal.returns-in_err-value-clause-only
returns-in_err-value-clause-only c n b rest v whole =
    absurd (err_is_no_ok _ _ (sym (c.in_err-value.was {u = tt})
    ∙ only-at c.args.bytes.now c.args.at _ c.first_varint.ensures.exact n b rest v whole))

pub overflow_add-result : goal.overflow_add-result
overflow_add-result c = let found =
    found-at c.args.bytes.now c.args.at _ _ _ c.if-at-bytes.false c.first_varint.ensures.exact
    (c.in_ok-value.was {u = tt}) in omega (arith, found.1)

pub returns-clause-found : goal.returns-clause-found
returns-clause-found c =
    found-at c.args.bytes.now c.args.at _ _ _ c.if-at-bytes.false c.first_varint.ensures.exact
    (c.in_ok-value.was {u = tt})

pub returns-clause-only : goal.returns-clause-only
returns-clause-only c n b rest v whole =
    let same = ok_is _ _ (sym (c.in_ok-value.was {u = tt})
    ∙ only-at c.args.bytes.now c.args.at _ c.first_varint.ensures.exact n b rest v whole) in
    ap (λ (p : ℕ × ℕ). Ok (p.0, c.args.at + p.1)) same
