-- Ordered rows: lists of bytes, compared as texts are. This project's profile.
use Rattle.std.specs.Prelude.{ℕ, Bool, suc, zero, List, [], ◌∷◌, ◌≡◌, take, drop, count_by, bytes_eq, IsTrue, not}
use Rattle.std.specs.Prelude.{if◌then◌else◌, flat_map}
use Rattle.std.specs.declared.cmp.Ordering.{Ordering}
use Rattle.std.specs.Ordering.{nat_cmp, is_lt}
use Rattle.std.specs.Cmp.Lexicographic.{slice_cmp}

-- a row or a key as bytes, and a list of them
abbrev pub Bytes : Type 0
Bytes = List ℕ

-- the order of rows and of keys: that of their bytes
abbrev pub byte_order : Bytes → Bytes → Ordering
byte_order = slice_cmp nat_cmp

-- whether a row is smaller than another
abbrev pub is_below : Bytes → Bytes → Bool
is_below a b = is_lt (byte_order a b)

-- how often a row stands in a list
abbrev pub times : Bytes → List Bytes → ℕ
times row rows = count_by (bytes_eq row) rows

-- no row is followed by a smaller one
abbrev pub Ascends : List Bytes → Type 0
Ascends [] = Unit {0}
Ascends (a ∷ []) = Unit {0}
Ascends (a ∷ b ∷ rows) = IsTrue (not (is_below b a)) × Ascends (b ∷ rows)

-- the ordered list has the same rows, each as often, and ascends
pub record IsAscendingOf (rows ordered : List Bytes) : Type 0 where
  pub same : (row : Bytes) → times row ordered ≡ times row rows
  pub ascends : Ascends ordered

-- a row before the first that is not smaller
abbrev pub put_in : Bytes → List Bytes → List Bytes
put_in row [] = row ∷ []
put_in row (first ∷ rows) = if is_below first row then first ∷ put_in row rows else row ∷ first ∷ rows

-- the one ordered list of rows
unfoldable pub ascending : List Bytes → List Bytes
ascending [] = []
ascending (row ∷ rows) = put_in row (ascending rows)

-- so many rows of this width, from the front of bytes
abbrev pub cut_rows : ℕ → ℕ → Bytes → List Bytes
cut_rows width zero bytes = []
cut_rows width (suc n) bytes = take width bytes ∷ cut_rows width n (drop width bytes)

-- rows one after another
abbrev pub joined : List Bytes → Bytes
joined rows = flat_map (λ row. row) rows
