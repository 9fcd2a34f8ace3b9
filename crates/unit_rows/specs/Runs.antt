-- The rows of records, one record behind another. This project's own.
use Rattle.std.specs.Prelude.{ℕ, ◌==◌, not, Bool, false, if◌then◌else◌, List, [], ◌∷◌, map, drop, Option, Some}
use Rattle.std.specs.Prelude.{None, ⊤, ◌≡◌}
use Rattle.std.specs.List.{enumerate_from}
use Rattle.mf_rows.specs.Units.{Unit16}

-- the rows of units, by their places
abbrev pub rows_of : {K : Type 0} → (ℕ → Unit16 → K) → List Unit16 → List K
rows_of row units = map (λ (at : ℕ × Unit16). row at.0 at.1) (enumerate_from 0 units)

-- those of the units from a place on
abbrev pub rows_from : {K : Type 0} → (ℕ → Unit16 → K) → ℕ → List Unit16 → List K
rows_from row place units = map (λ (at : ℕ × Unit16). row at.0 at.1) (enumerate_from place (drop place units))

-- the rows in front that go on with a record: their places are not 0
abbrev pub going_on : {K : Type 0} → (K → ℕ) → List K → List K
going_on place [] = []
going_on place (row ∷ rows) = if place row == 0 then [] else row ∷ going_on place rows

-- the rows from the next record on
abbrev pub next_on : {K : Type 0} → (K → ℕ) → List K → List K
next_on place [] = []
next_on place (row ∷ rows) = if place row == 0 then row ∷ rows else next_on place rows

-- whether a row is held that goes on with a record
abbrev pub goes_on : {K : Type 0} → (K → ℕ) → Option K → Bool
goes_on place None = false
goes_on place (Some row) = not (place row == 0)

-- the unit of a row that is held
abbrev pub held_units : {K : Type 0} → (K → Unit16) → Option K → List Unit16
held_units unit None = []
held_units unit (Some row) = unit row ∷ []

-- rows begin with the first row of a record, or there are none
abbrev pub BeginsRecord : {K : Type 0} → (K → ℕ) → List K → Type 0
BeginsRecord place [] = ⊤
BeginsRecord place (row ∷ rows) = place row ≡ 0
