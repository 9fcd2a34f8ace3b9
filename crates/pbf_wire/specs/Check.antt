-- What the check of a message notes of the fields that it has seen. This project's own.
use Rattle.std.specs.Prelude.{◌≡◌, ◌==◌, ℕ, Bool, false, List, position, slice_index_or, Option, Some}
use Rattle.std.specs.List.{list_any}
use Rattle.osm_model.specs.declared.rules.FieldRule.{FieldRule}

-- the place of the first rule of field k
abbrev pub place_in : List FieldRule → ℕ → Option ℕ
place_in rules k = position (λ rule. rule.number == k) rules

-- It was noted, for each rule that is the first of its field, whether the field stands among fields of these numbers.
abbrev pub Notes : List FieldRule → List ℕ → List Bool → Type 0
Notes rules before seen = (k at : ℕ) → place_in rules k ≡ Some at
    → slice_index_or seen at false ≡ list_any (λ j. j == k) before
