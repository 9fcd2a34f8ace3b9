-- How a kind of rows is spelled, its laws, and its rows in a part. This project's profile.
use Rattle.std.specs.Prelude.{◌≡◌, ℕ, ◌≤◌, List, length, take, map, flat_map}
use Rattle.std.specs.declared.cmp.Ordering.{Ordering}
use Rattle.mf_base.specs.Ascending.{byte_order, cut_rows}
use Rattle.mf_rows.specs.Fields.{IsRow, Row, fields_of, row_bytes, AreFields, key_order_of}

-- A kind of rows: the widths of a row and of its key, in bytes, the fields of a row, and the row that stands in bytes.
pub record Kind (K : Type 0) : Type 0 where
  pub width : ℕ
  pub key : ℕ
  pub row : K → Row
  pub row_of : List ℕ → K

-- the bytes of a row
abbrev pub bytes_of : {K : Type 0} → Kind K → K → List ℕ
bytes_of kind r = row_bytes (kind.row r)

-- what holds of each value of the type
abbrev pub IsOf : {K : Type 0} → Kind K → K → Type 0
IsOf kind r = AreFields (fields_of (kind.row r))

-- the order of keys: the first number that differs decides
abbrev pub key_order : {K : Type 0} → Kind K → K → K → Ordering
key_order kind a b = key_order_of (kind.row a) (kind.row b)

-- The laws of a kind.
pub record HasLaws {K : Type 0} (kind : Kind K) : Type 0 where
  -- a key is not empty, and a row has at most 39 bytes
  pub some : 1 ≤ kind.key
  pub within : kind.key ≤ kind.width
  pub most : kind.width ≤ 39
  -- each row has the width of its kind
  pub long : (r : K) → length (bytes_of kind r) ≡ kind.width
  pub spelled : (r : K) → IsOf kind r → IsRow kind.width (bytes_of kind r)
  -- what was put is read back
  pub reads_back : (r : K) → IsOf kind r → kind.row_of (bytes_of kind r) ≡ r
  -- every list of so many bytes is a row
  pub puts_back : (b : List ℕ) → IsRow kind.width b → bytes_of kind (kind.row_of b) ≡ b
  -- the order of keys is the order of their bytes
  pub orders : (a b : K) → IsOf kind a → IsOf kind b
      → byte_order (take kind.key (bytes_of kind a)) (take kind.key (bytes_of kind b)) ≡ key_order kind a b

-- so many rows that stand at the front of bytes
abbrev pub rows_in : {K : Type 0} → Kind K → ℕ → List ℕ → List K
rows_in kind n bytes = map kind.row_of (cut_rows kind.width n bytes)

-- rows as bytes, one after another
abbrev pub rows_bytes : {K : Type 0} → Kind K → List K → List ℕ
rows_bytes kind rows = flat_map (bytes_of kind) rows
