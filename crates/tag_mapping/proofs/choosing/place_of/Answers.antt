use Rattle.std.proofs.Common.{◌∙◌, ◌≤◌, length, ap, subst, sym}
use Rattle.std.specs.Prelude.{nat_lt, unwrap_or}
use Rattle.mf_base.specs.declared.kept.Kept.{Kept}
use Rattle.tag_mapping.proofs.Keeping.{place-found, place-within}
use Rattle.tag_mapping.proofs.choosing.place_of.Goals as goal

pub returns-clause-place : goal.returns-clause-place
returns-clause-place c =
    c.unwrap_or.ensures ∙ (ap (λ found. unwrap_or found (length c.args.tags.now)) c.first_above.ensures
    ∙ place-found (λ (k : Kept). nat_lt c.args.tag k.tag) c.args.tags.now)

pub returns-clause-within : goal.returns-clause-within
returns-clause-within c =
    subst (λ place. place ≤ length c.args.tags.now)
    (sym (c.unwrap_or.ensures ∙ (ap (λ found. unwrap_or found (length c.args.tags.now)) c.first_above.ensures
    ∙ place-found (λ (k : Kept). nat_lt c.args.tag k.tag) c.args.tags.now)))
    (place-within (λ (k : Kept). nat_lt c.args.tag k.tag) c.args.tags.now)
