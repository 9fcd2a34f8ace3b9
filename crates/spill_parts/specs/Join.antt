-- The join of two lists of rows by a key that both have. This project's own.
use Rattle.std.specs.Prelude.{◌≡◌, ◌⊎◌, ◌+◌, ℕ, ◌<◌, ◌≤◌, nat_lt, ◌==◌, Bool, false, if◌then◌else◌, List, [], ◌∷◌}
use Rattle.std.specs.Prelude.{filter_map, find, Option, Some, None, option_map, ⊤, true}
use Rattle.mf_edge.specs.Spill.{SpillState, SameParts, KeepsOthers}
use Rattle.std.specs.List.{AllByRecursion}
use Rattle.mf_rows.specs.RowKinds.{Kind}
use Rattle.spill_parts.specs.Parts.{Reading, PageBytes, IsReading}

-- Each row of the one list with the row of the other that has its key, where there is one.
unfoldable pub joined_rows : {R N O : Type 0} → (R → ℕ) → (N → ℕ) → (R → N → O) → List N → List R → List O
joined_rows {R} {N} {O} ref_key node_key join nodes refs =
    filter_map (λ (r : R). option_map (join r) (find (λ (n : N). node_key n == ref_key r) nodes)) refs

-- one row with the row that was found for it, where there is one
abbrev pub one_joined : {R N O : Type 0} → (R → N → O) → R → Option N → List O
one_joined join r None = []
one_joined join r (Some n) = join r n ∷ []

-- keys that do not fall
abbrev pub Climbs : {R : Type 0} → (R → ℕ) → List R → Type 0
Climbs key [] = ⊤
Climbs {R} key (r ∷ rs) = AllByRecursion (λ (later : R). key r ≤ key later) rs × Climbs key rs

-- keys that rise
abbrev pub Rises : {N : Type 0} → (N → ℕ) → List N → Type 0
Rises key [] = ⊤
Rises {N} key (n ∷ ns) = AllByRecursion (λ (later : N). key n < key later) ns × Rises key ns

-- a row that is held, and those that are left
abbrev pub rest_of : {N : Type 0} → Option N → List N → List N
rest_of None left = []
rest_of (Some n) left = n ∷ left

-- the rows from the first whose key is not below
abbrev pub from_key : {N : Type 0} → (N → ℕ) → ℕ → List N → List N
from_key key wanted [] = []
from_key key wanted (n ∷ ns) = if nat_lt (key n) wanted then from_key key wanted ns else n ∷ ns

-- a row is held whose key is below
abbrev pub is_below : {N : Type 0} → (N → ℕ) → ℕ → Option N → Bool
is_below key wanted None = false
is_below key wanted (Some n) = nat_lt (key n) wanted

-- the row that is held, where it has this key
abbrev pub if_its_key : {N : Type 0} → (N → ℕ) → ℕ → Option N → Option N
if_its_key key wanted None = None
if_its_key key wanted (Some n) = if key n == wanted then Some n else None

-- What looks up rows by their keys: the reader of the part, the row that it holds, and the last key that was asked for.
pub record Looking (N : Type 0) : Type 0 where
  pub reading : Reading N
  pub held : Option N
  pub asked : ℕ

-- The part is there, and no row was passed that has the last key that was asked for, or a later one.
pub record IsLooking {N : Type 0} (kind : Kind N) (key : N → ℕ) (l : Looking N) (page : PageBytes) (s : SpillState)
    : Type 0 where
  pub reading : IsReading kind l.reading page s
  pub rises : s.tells ≡ true → Rises key (rest_of l.held l.reading.left)
  pub finds : s.tells ≡ true → (k : ℕ) → l.asked ≤ k
      → find (λ (n : N). key n == k) (rest_of l.held l.reading.left)
      ≡ find (λ (n : N). key n == k) l.reading.source.rows

-- One part more is there, under a number that no part had, and every other part is as before.
pub record IsAdded (part : ℕ) (before after : SpillState) : Type 0 where
  pub fresh : before.size part ≡ None
  pub count : after.count ≡ before.count + 1
  pub others : KeepsOthers part before after

-- What a call that adds a part and fails leaves: all parts are as before, or one part more is there.
abbrev pub AddsAtMostOne : (before after : SpillState) → Type 0
AddsAtMostOne before after = SameParts before after ⊎ ((part : ℕ) × IsAdded part before after)
