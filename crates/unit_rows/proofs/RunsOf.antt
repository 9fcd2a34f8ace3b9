-- The rows of a record, and where they end among others.
use Rattle.std.proofs.Common.{◌≡◌, ℕ, suc, ◌+◌, ◌≤◌, false, List, [], ◌∷◌, ◌++◌, length}
use Rattle.std.proofs.Common.{refl, ap, ◌∙◌, arith}
use Rattle.std.specs.Prelude.{map, ◌==◌}
use Rattle.std.specs.List.{enumerate_from}
use Rattle.std.proofs.lemmas.Bool.{ne_eqb, eq-eqb}
use Rattle.mf_rows.specs.Units.{Unit16}
use Rattle.unit_rows.specs.Runs.{rows_of, going_on, next_on, BeginsRecord}

module _ {K : Type 0} (row : ℕ → Unit16 → K) where
  -- the rows of units, of which the first has this place
  abbrev pub rows_at : ℕ → List Unit16 → List K
  rows_at n units = map (λ (at : ℕ × Unit16). row at.0 at.1) (enumerate_from n units)

  at-counted : (n : ℕ) (units : List Unit16) → length (rows_at n units) ≡ length units
  at-counted n [] = refl
  at-counted n (u ∷ units) = ap suc (at-counted (n + 1) units)

  pub rows-counted : (units : List Unit16) → length (rows_of row units) ≡ length units
  rows-counted units = at-counted 0 units

  -- the units of rows
  at-units : (unit : K → Unit16) → ((n : ℕ) (u : Unit16) → unit (row n u) ≡ u) → (n : ℕ) (units : List Unit16)
      → map unit (rows_at n units) ≡ units
  at-units unit is n [] = refl
  at-units unit is n (u ∷ units) =
      ap (λ v. v ∷ map unit (rows_at (n + 1) units)) (is n u) ∙ ap (λ us. u ∷ us) (at-units unit is (n + 1) units)

  pub rows-units : (unit : K → Unit16) → ((n : ℕ) (u : Unit16) → unit (row n u) ≡ u) → (units : List Unit16)
      → map unit (rows_of row units) ≡ units
  rows-units unit is units = at-units unit is 0 units

  module _ (place : K → ℕ) (place-is : (n : ℕ) (u : Unit16) → place (row n u) ≡ n) where
    -- rows go on as far as their places are not 0
    behind-first : (n : ℕ) (units : List Unit16) (tail : List K) → 1 ≤ n → BeginsRecord place tail
        → (going_on place (rows_at n units ++ tail) ≡ rows_at n units)
        × (next_on place (rows_at n units ++ tail) ≡ tail)
    behind-first n [] [] some begins = (refl, refl)
    behind-first n [] (first ∷ tail) some begins = rw (eq-eqb (place first) 0 begins) (refl, refl)
    behind-first n (u ∷ units) tail some begins =
        let later = behind-first (n + 1) units tail (omega (arith, some)) begins in
        let on : (place (row n u) == 0) ≡ false =
        ne_eqb (place (row n u)) 0 (λ e. omega (arith, e, place-is n u, some)) in
        rw on (ap (λ rows. row n u ∷ rows) later.0, later.1)

    -- the rows of a record behind its first, and the next record
    pub record-ends : (u : Unit16) (units : List Unit16) (tail : List K) → BeginsRecord place tail
        → (going_on place (rows_at 1 units ++ tail) ≡ rows_at 1 units) × (next_on place (rows_at 1 units ++ tail) ≡ tail)
    record-ends u units tail begins = behind-first 1 units tail (omega arith) begins
