-- What a message has in each field of its table, in the words of the definitions. This project's own.
use Rattle.std.specs.Prelude.{◌≡◌, ℕ, ◌≤◌, List, length, filter_map, slice_index_or, slice_range, Option, Some, None}
use Rattle.std.specs.Prelude.{option_map, IfSome}
use Rattle.std.specs.List.{last_or}
use Rattle.std.specs.Option.{option_or}
use Rattle.osm_model.specs.Wire.{Field}
use Rattle.osm_model.specs.Tables.{values_of, varint_in, number_of, once_of}
use Rattle.osm_model.specs.declared.rules.FieldRule.{FieldRule}
use Rattle.pbf_wire.specs.Check.{place_in}
use Rattle.pbf_wire.specs.declared.message.Found.{Found}

-- nothing was found
abbrev pub nothing : Found
nothing = record { number = None; place = None }

-- the bytes that were found
abbrev pub found_bytes : List ℕ → Found → Option (List ℕ)
found_bytes message found = option_map (λ (place : ℕ × ℕ). slice_range message place.0 place.1) found.place

-- the place that was found is one of the message
abbrev pub IsWithin : List ℕ → Found → Type 0
IsWithin message found = IfSome found.place (λ place. (place.0 ≤ place.1) × (place.1 ≤ length message))

-- Of the fields of a message this was found of the field k: the last number, and the bytes of one that stands at most
-- once.
pub record IsFound (message : List ℕ) (fs : List Field) (k : ℕ) (found : Found) : Type 0 where
  pub number : found.number ≡ number_of k fs
  pub bytes : found_bytes message found ≡ once_of k fs
  pub within : IsWithin message found

-- For each rule that is the first of its field, this was found of the fields of a message.
abbrev pub AreFound : List FieldRule → List ℕ → List Field → List Found → Type 0
AreFound rules message fs all = (k at : ℕ) → place_in rules k ≡ Some at
    → IsFound message fs k (slice_index_or all at nothing)

-- What was found so far of the field k and what is found of the fields behind is what is found of all.
pub record FoundSoFar (message : List ℕ) (fs : List Field) (k : ℕ) (found : Found) (rest : List Field) : Type 0 where
  pub numbers : number_of k fs ≡ last_or found.number (filter_map varint_in (values_of k rest))
  pub others : once_of k fs ≡ option_or (found_bytes message found) (once_of k rest)
  pub within : IsWithin message found
