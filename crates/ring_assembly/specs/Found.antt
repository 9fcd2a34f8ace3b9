-- How a part is found among others. This project's own.
use Rattle.std.specs.Prelude.{◌≡◌, ℕ, Bool, true, false, List, ◌∷◌, ◌++◌, length, Option, Some, None}
use Rattle.std.specs.List.{list_any}
use Rattle.mf_rows.specs.Units.{Unit16}
use Rattle.ring_assembly.specs.Marked.{Marked, all_units}
use Rattle.ring_assembly.specs.declared.parts.Found.{Found}

-- The part that is found is the first that passes a test: the place of its unit and its place among the parts are told.
-- None is found where none passes.
abbrev pub FindsFirst : (Marked → Bool) → List Marked → Option Found → Type 0
FindsFirst test parts None = list_any test parts ≡ false
FindsFirst test parts (Some found) = (before : List Marked) × (m : Marked) × (after : List Marked)
    × (parts ≡ before ++ m ∷ after) × (found.at ≡ length (all_units before)) × (found.points ≡ length m.units)
    × (found.number ≡ length before)
    × (list_any test before ≡ false) × (test m ≡ true)

-- The parts before these units don't pass the test.
abbrev pub Passed : (Marked → Bool) → List Marked → List Unit16 → ℕ → Type 0
Passed test parts left number = (before : List Marked) × (rest : List Marked) × (parts ≡ before ++ rest)
    × (left ≡ all_units rest) × (number ≡ length before) × (list_any test before ≡ false)
