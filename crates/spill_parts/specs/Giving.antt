-- How rows are given, one behind another. This project's own.
use Rattle.std.specs.Prelude.{◌≡◌, List, [], ◌∷◌, Option, Some, None}

-- the first of the rows that were left was given, and the others are left; or none was left
abbrev pub GivesFirst : {K : Type 0} → List K → Option K → List K → Type 0
GivesFirst left None left_now = (left ≡ []) × (left_now ≡ [])
GivesFirst left (Some row) left_now = left ≡ row ∷ left_now
