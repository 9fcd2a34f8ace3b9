-- Whole varints, one after another: the first is read, and what is read is the first.
use Rattle.std.proofs.Common.{◌≡◌, ℕ, suc, ◌<◌, ◌≤◌, ◌^◌, List, [], ◌∷◌, ◌++◌, length, refl, ap, subst, ◌∙◌, arith, inl}
use Rattle.std.proofs.Common.{inr, true}
use Rattle.std.proofs.lemmas.Bool.{cases_lt, lt-ltb, le-ltb, le-leb, leb-true, eqb-true, eq-eqb, ltb-true, and_parts}
use Rattle.std.proofs.lemmas.Bool.{and_from}
use Rattle.std.proofs.lemmas.List.{nil_from_length}
use Rattle.std.specs.List.{concat}
use Rattle.mf_base.specs.Spelling.{IsVarint, high_run, sevens}
use Rattle.mf_base.specs.Packed.{runs, before_first, is_varint}
use Rattle.mf_base.proofs.Runs.{high_run-low, high_run-high}

runs-low : (b : ℕ) (rest : List ℕ) → b < 128 → runs (b ∷ rest) ≡ (b ∷ []) ∷ runs rest
unfolding runs
runs-low b rest low = rw (lt-ltb b 128 low, runs) refl

runs-high : (b : ℕ) (rest : List ℕ) → 128 ≤ b → runs (b ∷ rest) ≡ before_first b (runs rest)
unfolding runs
runs-high b rest high = rw (le-ltb b 128 high, runs) refl

pub runs-nil : runs [] ≡ []
unfolding runs
runs-nil = refl

-- a varint in front of bytes is their first run
pub runs-append : (b rest : List ℕ) → length b ≡ suc (high_run b) → runs (b ++ rest) ≡ b ∷ runs rest
runs-append [] rest run = absurd (omega arith)
runs-append (b ∷ c) rest run =
    elim (cases_lt b 128) [
      | inl low ↦
          let none : c ≡ [] = nil_from_length c (omega (arith, run, high_run-low b c low)) in
          rw none (runs-low b rest low)
      | inr high ↦
          runs-high b (c ++ rest) high
          ∙ ap (before_first b) (runs-append c rest (omega (arith, run, high_run-high b c high)))
    ]

pub varint_is : (n : ℕ) (b : List ℕ) → IsVarint n b → is_varint b ≡ true
varint_is n b v =
    and_from _ _ (and_from _ _ (eq-eqb _ _ v.run) (le-leb _ _ v.short))
    (lt-ltb _ _ (subst (λ k. k < 2 ^ 64) v.value v.fits))

pub is_varint_spells : (b : List ℕ) → is_varint b ≡ true → IsVarint (sevens b) b
is_varint_spells b e =
    let parts = and_parts _ _ e in
    let first = and_parts _ _ parts.0 in
    record { short = leb-true _ _ first.1; run = eqb-true _ _ first.0; fits = ltb-true _ _ parts.1; value = refl }

concat-before_first : (b : ℕ) (rs : List (List ℕ)) → concat (before_first b rs) ≡ b ∷ concat rs
concat-before_first b [] = refl
concat-before_first b (r ∷ rs) = refl

-- cut and put together
pub concat-runs : (b : List ℕ) → concat (runs b) ≡ b
concat-runs [] = ap concat runs-nil
concat-runs (b ∷ c) =
    elim (cases_lt b 128) [
      | inl low ↦ ap concat (runs-low b c low) ∙ ap (λ x. b ∷ x) (concat-runs c)
      | inr high ↦ ap concat (runs-high b c high) ∙ concat-before_first b (runs c) ∙ ap (λ x. b ∷ x) (concat-runs c)
    ]
