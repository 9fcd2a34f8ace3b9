-- The number that some bytes begin with and how many bytes it takes, or the first cause why there is none: Mapsforge
-- Specification, Binary Map File Format, version 5, on variable byte encoding; Protocol Buffers, "Encoding", on base
-- 128 varints. That a VBE number has its shortest spelling is this project's profile.
use Rattle.std.specs.Prelude.{ℕ, zero, suc, ◌*◌, ◌+◌, ◌/◌, ◌%◌, ◌^◌, Bool, ◌&&◌, ◌||◌, ◌==◌, nat_lt, nat_le, List, []}
use Rattle.std.specs.Prelude.{◌∷◌, length, Result, Ok, ℤ, pos, neg_ℤ}
use Rattle.mf_base.specs.declared.number.VbeFault.{VbeFault}
use Rattle.mf_base.specs.declared.number.VbeFault.TheVariants.{Short, Wide, NegativeZero, Long}
use Rattle.mf_base.specs.declared.number.VarintFault.{VarintFault}
use Rattle.mf_base.specs.declared.number.VarintFault.TheVariants as varint
use Rattle.mf_base.specs.Steps.{◌>>=◌, require}
use Rattle.mf_base.specs.Spelling.{vbe, high_run, sevens, first_run}

-- a byte without the top bit stands there, or ten bytes do
abbrev pub has_end : List ℕ → Bool
has_end bytes = nat_lt (high_run bytes) (length bytes) || nat_le 10 (length bytes)

-- fewer than ten bytes have the top bit, and the number is below a limit
abbrev pub is_narrow : List ℕ → ℕ → ℕ → Bool
is_narrow bytes limit n = nat_lt (high_run bytes) 10 && nat_lt n limit

-- how many bytes the first number takes: those with the top bit, and one without
abbrev pub run_size : List ℕ → ℕ
run_size bytes = suc (high_run bytes)

-- The varint that the bytes begin with. The tenth byte of ten is 0 or 1 exactly where the number is below 2^64.
unfoldable pub varint_front : List ℕ → Result (ℕ × ℕ) VarintFault
varint_front bytes = do
  let n = sevens (first_run bytes)
  _ ← require (has_end bytes) varint.Short
  _ ← require (is_narrow bytes (2 ^ 64) n) varint.Long
  Ok (n, run_size bytes)

-- the magnitude of a VBE number: seven bits of each byte, the lowest first, and what is below `last` of the last byte
abbrev pub run_magnitude : ℕ → List ℕ → ℕ
run_magnitude last [] = 0
run_magnitude last (byte ∷ []) = byte % last
run_magnitude last (byte ∷ next ∷ rest) = byte % 128 + 128 * run_magnitude last (next ∷ rest)

-- the bit of its sign, in the last byte
abbrev pub run_sign : ℕ → List ℕ → ℕ
run_sign last [] = 0
run_sign last (byte ∷ []) = last * (byte / last % 2)
run_sign last (byte ∷ next ∷ rest) = run_sign last (next ∷ rest)

-- The VBE number that the bytes begin with, as its sign's bit and its magnitude: a magnitude below 2^63, a zero without
-- a sign, and the shortest spelling.
unfoldable pub vbe_front : ℕ → List ℕ → Result ((ℕ × ℕ) × ℕ) VbeFault
vbe_front last bytes = do
  let m = run_magnitude last (first_run bytes)
  let sign = run_sign last (first_run bytes)
  _ ← require (has_end bytes) Short
  _ ← require (is_narrow bytes (2 ^ 63) m) Wide
  _ ← require (nat_lt 0 m || sign == 0) NegativeZero
  _ ← require (nat_le (run_size bytes) (length (vbe last sign m))) Long
  Ok ((sign, m), run_size bytes)

-- The unsigned VBE number that the bytes begin with: seven bits of it are in the last byte, and no sign.
unfoldable pub unsigned_front : List ℕ → Result (ℕ × ℕ) VbeFault
unsigned_front bytes = do
  found ← vbe_front 128 bytes
  Ok (found.0.1, found.1)

-- a magnitude under the bit of its sign
abbrev pub with_sign : ℕ × ℕ → ℤ
with_sign (zero, m) = pos m
with_sign (suc _, m) = neg_ℤ (pos m)

-- The signed VBE number that the bytes begin with: six bits of its magnitude are in the last byte, and its sign.
unfoldable pub signed_front : List ℕ → Result (ℤ × ℕ) VbeFault
signed_front bytes = do
  found ← vbe_front 64 bytes
  Ok (with_sign found.0, found.1)

-- what is read at a place, with the next place instead of the number of bytes
abbrev pub read_at : {X F : Type 0} → ℕ → Result (X × ℕ) F → Result (X × ℕ) F
read_at at read = read >>= λ found. Ok (found.0, at + found.1)
