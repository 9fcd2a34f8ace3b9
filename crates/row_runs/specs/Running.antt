-- A part that is read run after run. This project's own.
use Rattle.std.specs.Prelude.{◌≡◌, ℕ, ◌≤◌, Bool, true, false, List, ◌∷◌, ◌++◌, length, Option, Some, None}
use Rattle.mf_edge.specs.Spill.{SpillState, part_limit}
use Rattle.mf_rows.specs.RowKinds.{Kind}
use Rattle.spill_parts.specs.Parts.{Reading, PageBytes, IsReading}
use Rattle.spill_parts.specs.Join.{Climbs, rest_of}
use Rattle.row_runs.specs.Runs.{begins_with}

-- What reads a part run after run: the reader of the part, and the row that it holds.
pub record Running (N : Type 0) : Type 0 where
  pub reading : Reading N
  pub held : Option N

-- the rows that are left: the one that is held, and those that were not read
abbrev pub rows_left : {N : Type 0} → Running N → List N
rows_left r = rest_of r.held r.reading.left

-- The part is there, its keys do not fall, and the rows that are left are its last ones. Over a store that does not
-- tell its bytes they are at least no more than the part has.
pub record IsRunning {N : Type 0} (kind : Kind N) (key : N → ℕ) (r : Running N) (page : PageBytes) (s : SpillState)
    : Type 0 where
  pub reading : IsReading kind r.reading page s
  pub climbs : s.tells ≡ true → Climbs key r.reading.source.rows
  pub last : s.tells ≡ true → (passed : List N) × (r.reading.source.rows ≡ passed ++ rows_left r)
  pub most : length (rows_left r) ≤ length r.reading.source.rows
  pub few : length r.reading.source.rows ≤ part_limit

-- The row in front has this key and was given, and those behind it are left; or the row in front has another key, or
-- there is none, and all rows are left.
abbrev pub GivesOf : {N : Type 0} → (N → ℕ) → ℕ → Bool → List N → Option N → List N → Type 0
GivesOf key wanted tells left None left_now = (begins_with key wanted left ≡ false) × (left_now ≡ left)
GivesOf {N} key wanted tells left (Some row) left_now = (behind : List N) × (left ≡ row ∷ behind) × (key row ≡ wanted)
    × (length left_now ≡ length behind) × (tells ≡ true → left_now ≡ behind)
