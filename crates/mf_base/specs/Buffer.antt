-- A buffer of bytes with a fixed room, to whose end others are put.
use Rattle.std.specs.Prelude.{◌≡◌, ℕ, ◌+◌, ◌≤◌, List, ◌++◌, length}

-- the bytes that were put, and how many there is room for
pub record Buffer : Type 0 where
  pub bytes : List ℕ
  pub capacity : ℕ

-- so many more bytes can be put
abbrev pub HasRoom : Buffer → ℕ → Type 0
HasRoom buffer n = length buffer.bytes + n ≤ buffer.capacity

-- these bytes, and nothing else, were put to the end
abbrev pub AppendsTo : Buffer → Buffer → List ℕ → Type 0
AppendsTo before now bytes = now ≡ record { bytes = before.bytes ++ bytes; capacity = before.capacity }
