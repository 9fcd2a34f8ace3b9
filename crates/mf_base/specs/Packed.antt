-- Packed lists of varints: Protocol Buffers, "Encoding", on packed repeated fields.
use Rattle.std.specs.Prelude.{◌^◌, ℕ, suc, Bool, true, false, ◌&&◌, ◌==◌, nat_lt, nat_le, List, [], ◌∷◌, length, map}
use Rattle.std.specs.List.{list_all}
use Rattle.mf_base.specs.Spelling.{high_run, sevens}

-- the runs with one more byte before the first
abbrev pub before_first : ℕ → List (List ℕ) → List (List ℕ)
before_first b [] = (b ∷ []) ∷ []
before_first b (run ∷ runs) = (b ∷ run) ∷ runs

-- the bytes, cut after each that has no top bit
unfoldable pub runs : List ℕ → List (List ℕ)
runs [] = []
runs (b ∷ rest) = elim (nat_lt b 128) [ true ↦ (b ∷ []) ∷ runs rest | false ↦ before_first b (runs rest) ]

-- the run is a varint: at most ten bytes, of which the last alone has no top bit, and a number below 2^64
abbrev pub is_varint : List ℕ → Bool
is_varint run = (length run == suc (high_run run)) && nat_le (length run) 10 && nat_lt (sevens run) (2 ^ 64)

-- the bytes are whole varints
abbrev pub are_varints : List ℕ → Bool
are_varints bytes = list_all is_varint (runs bytes)

-- the numbers of whole varints, seven bits of each byte, the lowest first
abbrev pub packed_numbers : List ℕ → List ℕ
packed_numbers bytes = map sevens (runs bytes)
