-- The runs of keys and values that are left, in the words of the definitions. This project's own.
use Rattle.std.specs.Prelude.{◌≡◌, ◌%◌, ◌<◌, ◌≤◌, ℕ, List, [], ◌∷◌, length, take, drop, Bool, true, Option, Some}
use Rattle.std.specs.Prelude.{option_map, unwrap_or, Result, Ok, Err}
use Rattle.mf_base.specs.Texts.{Text}
use Rattle.mf_base.specs.Packed.{are_varints, packed_numbers}
use Rattle.mf_base.specs.Entries.{are_entries, by_twos}
use Rattle.osm_model.specs.declared.faults.EntityFault.{EntityFault}
use Rattle.osm_entity.specs.declared.run_end.Front.{Front}
use Rattle.osm_entity.specs.declared.run_end.Front.TheVariants.{Pair, Zero}
use Rattle.osm_model.specs.Objects.{TagRun, by_zero, tag_runs, next_run, other_runs, run_tags}

-- the list, where there is one, is whole varints
abbrev pub are_whole : Option (List ℕ) → Bool
are_whole list = are_varints (unwrap_or list [])

-- the runs of a list of keys and values, where there is one
abbrev pub runs_of_list : Option (List ℕ) → Option (List TagRun)
runs_of_list list = option_map (λ bytes. tag_runs (packed_numbers bytes)) list

-- the run of the first node of a list
abbrev pub run_in : List ℕ → TagRun
run_in bytes = next_run (Some (tag_runs (packed_numbers bytes)))

-- The runs of a list of whole varints, behind the first.
abbrev pub others_in : List ℕ → Option (List TagRun)
others_in bytes = other_runs (Some (tag_runs (packed_numbers bytes)))

-- The first run has this fault, in each block of so many strings.
abbrev pub IsRunFault : ℕ → List ℕ → EntityFault → Type 0
IsRunFault count bytes fault = (strings : List Text) → length strings ≡ count
    → run_tags strings (run_in bytes) ≡ Err fault

-- A key and its value, which are indices of strings, stand in front and take so many bytes.
pub record IsPair (count : ℕ) (bytes : List ℕ) (size : ℕ) : Type 0 where
  pub key : ℕ
  pub val : ℕ
  pub above : 0 < key
  pub key_known : key < count
  pub val_known : val < count
  pub some : 0 < size
  pub within : size ≤ length bytes
  pub front : packed_numbers (take size bytes) ≡ key ∷ val ∷ []
  pub whole : are_varints (take size bytes) ≡ true
  pub behind : packed_numbers bytes ≡ key ∷ val ∷ packed_numbers (drop size bytes)
  pub behind_whole : are_varints (drop size bytes) ≡ true

-- A 0 stands in front and takes so many bytes.
pub record IsZero (bytes : List ℕ) (size : ℕ) : Type 0 where
  pub within : size ≤ length bytes
  pub behind : packed_numbers bytes ≡ 0 ∷ packed_numbers (drop size bytes)
  pub behind_whole : are_varints (drop size bytes) ≡ true

-- What stands in front of keys and values: a pair, a 0 in the place of a key, or a fault.
abbrev pub GivesFront : ℕ → List ℕ → Result Front EntityFault → Type 0
GivesFront count bytes (Ok (Pair size)) = IsPair count bytes size
GivesFront count bytes (Ok (Zero size)) = IsZero bytes size
GivesFront count bytes (Err fault) = IsRunFault count bytes fault

-- The first run ends at one place, and the next begins at another, behind its 0.
pub record IsRunEnd (count : ℕ) (bytes : List ℕ) (end behind : ℕ) : Type 0 where
  pub order : end ≤ behind
  pub within : behind ≤ length bytes
  pub whole : are_varints (take end bytes) ≡ true
  pub even : length (packed_numbers (take end bytes)) % 2 ≡ 0
  pub entries : are_entries count (by_twos (packed_numbers (take end bytes))) ≡ true
  pub first : run_in bytes ≡ record { pairs = by_twos (packed_numbers (take end bytes)); ends = by_zero }
  pub others : others_in bytes ≡ Some (tag_runs (packed_numbers (drop behind bytes)))
  pub behind_whole : are_varints (drop behind bytes) ≡ true

-- Where the first run ends and the next begins, or its fault.
abbrev pub EndsRun : ℕ → List ℕ → Result (ℕ × ℕ) EntityFault → Type 0
EndsRun count bytes (Ok (end, behind)) = IsRunEnd count bytes end behind
EndsRun count bytes (Err fault) = IsRunFault count bytes fault
