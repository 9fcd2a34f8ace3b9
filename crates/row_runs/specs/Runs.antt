-- Rows of one key that stand one behind another. This project's own.
use Rattle.std.specs.Prelude.{◌≡◌, ℕ, ◌≤◌, Bool, false, ◌==◌, nat_lt, length, if◌then◌else◌, List, [], ◌∷◌}
use Rattle.std.specs.List.{AllByRecursion, filter}
use Rattle.spill_parts.specs.Join.{from_key}

-- the rows of a key
abbrev pub rows_with : {R : Type 0} → (R → ℕ) → ℕ → List R → List R
rows_with {R} key wanted rows = filter (λ (r : R). key r == wanted) rows

-- rows begin with one of this key
abbrev pub begins_with : {R : Type 0} → (R → ℕ) → ℕ → List R → Bool
begins_with key wanted [] = false
begins_with key wanted (r ∷ rs) = key r == wanted

-- the rows of a key in front
abbrev pub run_of : {R : Type 0} → (R → ℕ) → ℕ → List R → List R
run_of key wanted [] = []
run_of key wanted (r ∷ rs) = if key r == wanted then r ∷ run_of key wanted rs else []

-- the rows behind those
abbrev pub after_run : {R : Type 0} → (R → ℕ) → ℕ → List R → List R
after_run key wanted [] = []
after_run key wanted (r ∷ rs) = if key r == wanted then after_run key wanted rs else r ∷ rs

-- The keys of the runs, one for each.
unfoldable pub run_keys : {R : Type 0} → (R → ℕ) → List R → List ℕ
run_keys key [] = []
run_keys key (r ∷ rs) = if begins_with key (key r) rs then run_keys key rs else key r ∷ run_keys key rs

-- No row was passed that has this key or a later one: from each of those on, the same rows are left as there were.
abbrev pub HasAllFrom : {R : Type 0} → (R → ℕ) → ℕ → (left rows : List R) → Type 0
HasAllFrom key wanted left rows =
    (later : ℕ) → wanted ≤ later → from_key key later left ≡ from_key key later rows

-- ---- items, of which each has rows of its own

-- the rows of an item have all its id for their key
abbrev pub HasItsKey : {W R : Type 0} → (W → ℕ) → (R → ℕ) → (W → List R) → W → Type 0
HasItsKey {W} {R} id key rows_of item = AllByRecursion (λ (r : R). key r ≡ id item) (rows_of item)

-- an item has a row
abbrev pub has_rows : {W R : Type 0} → (W → List R) → W → Bool
has_rows rows_of item = nat_lt 0 (length (rows_of item))
