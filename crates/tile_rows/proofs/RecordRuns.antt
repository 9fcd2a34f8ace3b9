-- The rows of records one behind another: where each begins and ends.
use Rattle.std.proofs.Common.{◌≡◌, ℕ, List, [], ◌∷◌, ◌++◌, map, refl, sym, ap, ◌∙◌, subst, append_assoc, Some}
use Rattle.std.specs.Prelude.{flat_map}
use Rattle.mf_rows.specs.Units.{Unit16}
use Rattle.mf_rows.specs.Records.{Record}
use Rattle.mf_rows.specs.RecordUnits.{record_in}
use Rattle.spill_parts.specs.Shaped.{Spelled}
use Rattle.unit_rows.specs.Runs.{rows_of, going_on, next_on, BeginsRecord}
use Rattle.unit_rows.proofs.RunsOf.{rows_at, rows-units, record-ends}

pub cons-head : {X : Type 0} {x y : X} {xs ys : List X} → x ∷ xs ≡ y ∷ ys → x ≡ y
cons-head e = cc

pub cons-tail : {X : Type 0} {x y : X} {xs ys : List X} → x ∷ xs ≡ y ∷ ys → xs ≡ ys
cons-tail e = cc

-- no units spell no record
none-spelled : (r : Record) → record_in [] ≡ Some r → ⊥
unfolding record_in
none-spelled r e = cc

module _ {K : Type 0} (row : Spelled → ℕ → Unit16 → K) where
  -- the first unit of a record, and the others
  pub record HasFirst (s : Spelled) : Type 0 where
    pub first : Unit16
    pub others : List Unit16
    pub rows_are : rows_of (row s) s.units ≡ row s 0 first ∷ rows_at (row s) 1 others

  pub has-first : (s : Spelled) → HasFirst s
  has-first s = by_units s.units refl
    where
      by_units : (units : List Unit16) → s.units ≡ units → HasFirst s
      by_units [] e = absurd (none-spelled s.told (sym (ap record_in e) ∙ s.spells))
      by_units (u ∷ units) e = record { first = u; others = units; rows_are = ap (rows_at (row s) 0) e }

  module _ (place : K → ℕ) (place-is : (s : Spelled) (n : ℕ) (u : Unit16) → place (row s n u) ≡ n) where
    begin-one : (s : Spelled) (tail : List K) → BeginsRecord place (rows_of (row s) s.units ++ tail)
    begin-one s tail = let h = has-first s in
        subst (λ (rows : List K). BeginsRecord place (rows ++ tail)) (sym h.rows_are) (place-is s 0 h.first)

    -- rows of records begin a record
    pub begin-rows : (list : List Spelled) (tail : List K) → BeginsRecord place tail
        → BeginsRecord place (flat_map (λ s. rows_of (row s) s.units) list ++ tail)
    begin-rows [] tail begins = begins
    begin-rows (s ∷ list) tail begins =
        subst (BeginsRecord place)
        (sym (append_assoc (rows_of (row s) s.units) (flat_map (λ s. rows_of (row s) s.units) list) tail))
        (begin-one s (flat_map (λ s. rows_of (row s) s.units) list ++ tail))

    -- The first row of a record and those that go on with it have its units, and behind these stand the others.
    pub run : (unit : K → Unit16) → ((s : Spelled) (n : ℕ) (u : Unit16) → unit (row s n u) ≡ u) → (s : Spelled)
        (tail : List K) (first : K) (left : List K) → BeginsRecord place tail
        → first ∷ left ≡ rows_of (row s) s.units ++ tail
        → (map unit (first ∷ going_on place left) ≡ s.units) × (next_on place left ≡ tail)
    run unit unit-is s tail first left begins e =
        let h = has-first s in
        let front : first ∷ left ≡ row s 0 h.first ∷ (rows_at (row s) 1 h.others ++ tail) =
        e ∙ ap (λ (rows : List K). rows ++ tail) h.rows_are in
        let ends = record-ends (row s) place (place-is s) h.first h.others tail begins in
        let on : going_on place left ≡ rows_at (row s) 1 h.others =
        ap (going_on place) (cons-tail front) ∙ ends.0 in (
          ap (map unit) ((λ i. cons-head front i ∷ on i) ∙ sym h.rows_are)
              ∙ rows-units (row s) unit (unit-is s) s.units,
          ap (next_on place) (cons-tail front) ∙ ends.1,
        )
