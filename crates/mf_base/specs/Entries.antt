-- Texts that stand in bytes, each behind its length: Protocol Buffers, "Encoding", on length-delimited records. Tags
-- told by the entries of a table of their places: the OpenStreetMap wiki, "PBF Format", on StringTable and keys_vals.
use Rattle.std.specs.Prelude.{◌≡◌, ℕ, ◌+◌, nat_le, nat_lt, Bool, ◌&&◌, if◌then◌else◌, List, [], ◌∷◌, ◌++◌, length, take}
use Rattle.std.specs.Prelude.{drop, map, slice_get, unwrap_or, option_and_then, is_some, Option, Some, None, Ok, Err}
use Rattle.std.specs.List.{list_all}
use Rattle.mf_base.specs.Spelling.{IsVarint}
use Rattle.mf_base.specs.NumberReading.{varint_front}
use Rattle.mf_base.specs.Texts.{Text}
use Rattle.mf_base.specs.Tags.{Tags}

-- At this place the bytes have a length, a varint, and then a text of so many bytes.
abbrev pub HasText : List ℕ → ℕ → Text → Type 0
HasText bytes at text =
    (size : List ℕ) × (rest : List ℕ) × IsVarint (length text) size × (drop at bytes ≡ size ++ text ++ rest)

-- the text in front of the bytes, behind its length, where they have so many
abbrev pub front_text : List ℕ → Option Text
front_text bytes = elim (varint_front bytes) [
  | Ok found ↦ if nat_le (found.1 + found.0) (length bytes) then Some (take found.0 (drop found.1 bytes)) else None
  | Err fault ↦ None
]

-- The text that the bytes have at this place, behind its length.
unfoldable pub text_at : List ℕ → ℕ → Option Text
text_at bytes at = front_text (drop at bytes)

-- at each of the places the bytes have a text
abbrev pub are_texts : List ℕ → List ℕ → Bool
are_texts bytes places = list_all (λ at. is_some (text_at bytes at)) places

-- the text of the entry with this index, in a table of the places of texts
unfoldable pub entry_text : List ℕ → List ℕ → ℕ → Text
entry_text bytes places k = unwrap_or (option_and_then (text_at bytes) (slice_get places k)) []

-- both indices of each pair are those of an entry, of so many
abbrev pub are_entries : ℕ → List (ℕ × ℕ) → Bool
are_entries count pairs = list_all (λ pair. nat_lt pair.0 count && nat_lt pair.1 count) pairs

-- the tags whose keys and values are the entries with these indices
abbrev pub entry_tags : List ℕ → List ℕ → List (ℕ × ℕ) → Tags
entry_tags bytes places pairs = map (λ pair. (entry_text bytes places pair.0, entry_text bytes places pair.1)) pairs

-- numbers that take turns as keys and values, two by two
abbrev pub by_twos : List ℕ → List (ℕ × ℕ)
by_twos [] = []
by_twos (k ∷ []) = []
by_twos (k ∷ v ∷ rest) = (k, v) ∷ by_twos rest
