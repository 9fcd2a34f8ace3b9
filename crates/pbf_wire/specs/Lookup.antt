-- What is looked up in a message, in the words of the definitions. This project's own.
use Rattle.std.specs.Prelude.{◌≡◌, ℕ, List, [], ◌∷◌, length, filter_map, slice_range, Option, option_map}
use Rattle.std.specs.List.{last_or}
use Rattle.osm_model.specs.Wire as wire
use Rattle.osm_model.specs.Tables.{values_of, bytes_of, varint_in}

-- the bytes at a place, where there is one
abbrev pub place_shown : List ℕ → Option (ℕ × ℕ) → Option (List ℕ)
place_shown bytes place = option_map (λ (p : ℕ × ℕ). slice_range bytes p.0 p.1) place

-- The field has this number and bytes, and so many of them.
abbrev pub HasBytes : ℕ → ℕ → wire.Field → Type 0
HasBytes k size f =
    (bytes : List ℕ) × (length bytes ≡ size) × (f.value ≡ wire.len bytes) × (bytes_of k (f ∷ []) ≡ bytes ∷ [])

-- the last number with this field number in fields, or else the one before; behind none it is `number_of`
abbrev pub numbers_behind : Option ℕ → ℕ → List wire.Field → Option ℕ
numbers_behind before k fs = last_or before (filter_map varint_in (values_of k fs))
