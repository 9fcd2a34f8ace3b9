-- Rows of sixteen bytes that are laid into an output. This project's own.
use Rattle.std.specs.Prelude.{◌≡◌, ℕ, ◌*◌, ◌/◌, List, ◌++◌, length}
use Rattle.std.specs.Simd.{first_chunks}
use Rattle.mf_base.specs.Buffer.{Buffer}
use Rattle.mf_rows.specs.Units.{Unit16}

-- the rows that bytes are
unfoldable pub rows_in : List ℕ → List Unit16
rows_in bytes = first_chunks 16 (length bytes / 16) bytes

-- how many rows bytes are
abbrev pub row_total : List ℕ → ℕ
row_total bytes = length (rows_in bytes)

-- bytes are whole rows
abbrev pub IsInRows : List ℕ → Type 0
IsInRows bytes = length bytes ≡ 16 * row_total bytes

-- these rows, and nothing else, were laid
pub record LaysRows (old new : Buffer) (units : List Unit16) : Type 0 where
  pub rows : rows_in new.bytes ≡ rows_in old.bytes ++ units
  pub whole : IsInRows new.bytes
  pub capacity : new.capacity ≡ old.capacity
