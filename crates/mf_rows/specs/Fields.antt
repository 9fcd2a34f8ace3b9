-- The fields of a row: this project's profile, on row kinds.
use Rattle.std.specs.Prelude.{◌≡◌, ℕ, ◌^◌, ◌<◌, ℤ, List, [], ◌∷◌, ◌++◌, length, flat_map, sum_by, FitsSigned, take}
use Rattle.std.specs.Prelude.{replicate}
use Rattle.std.specs.List.{AllByRecursion}
use Rattle.std.specs.Int.{w32, cast_unsigned}
use Rattle.std.specs.declared.cmp.Ordering.{Ordering}
use Rattle.std.specs.Ordering.{nat_cmp}
use Rattle.std.specs.Cmp.Lexicographic.{slice_cmp}
use Rattle.mf_base.specs.Spelling.{IsBytes, big_endian}

-- A field is an unsigned number of so many bytes, a coordinate of four, or the sixteen bytes of a unit.
pub data Field : Type 0 where
  number : (width value : ℕ) → Field
  coordinate : ℤ → Field
  unit : List ℕ → Field

-- Numbers are big-endian, a coordinate in two's complement. A unit is its sixteen bytes; of any other list it has the
-- front and zeros, so that each row has the width of its kind.
abbrev pub field_bytes : Field → List ℕ
field_bytes (number width value) = big_endian width value
field_bytes (coordinate z) = big_endian 4 (cast_unsigned w32 z)
field_bytes (unit bytes) = take 16 (bytes ++ replicate 16 0)

-- how many bytes a field takes
abbrev pub field_width : Field → ℕ
field_width (number width value) = width
field_width (coordinate z) = 4
field_width (unit bytes) = 16

-- a list of so many bytes
pub record IsRow (width : ℕ) (bytes : List ℕ) : Type 0 where
  pub many : length bytes ≡ width
  pub small : IsBytes bytes

-- what a field of a value of the type can be
abbrev pub IsField : Field → Type 0
IsField (number width value) = value < 256 ^ width
IsField (coordinate z) = FitsSigned w32 z
IsField (unit bytes) = IsRow 16 bytes

abbrev pub AreFields : List Field → Type 0
AreFields fields = AllByRecursion IsField fields

-- a row: the fields of its key, and the rest
pub record Row : Type 0 where
  pub key : List Field
  pub rest : List Field

abbrev pub fields_of : Row → List Field
fields_of row = row.key ++ row.rest

abbrev pub fields_bytes : List Field → List ℕ
fields_bytes fields = flat_map field_bytes fields

abbrev pub fields_width : List Field → ℕ
fields_width fields = sum_by field_width fields

-- A row is the bytes of its fields in order, the key first.
unfoldable pub row_bytes : Row → List ℕ
row_bytes row = fields_bytes (fields_of row)

-- the numbers of a key
abbrev pub key_numbers : List Field → List ℕ
key_numbers [] = []
key_numbers (number width value ∷ fs) = value ∷ key_numbers fs
key_numbers (coordinate z ∷ fs) = key_numbers fs
key_numbers (unit bytes ∷ fs) = key_numbers fs

-- the order of rows by the numbers of their keys: the first that differs decides
abbrev pub key_order_of : Row → Row → Ordering
key_order_of a b = slice_cmp nat_cmp (key_numbers a.key) (key_numbers b.key)
