-- Parts of rows in a store. This project's own.
use Rattle.std.specs.Prelude.{◌≡◌, ◌≢◌, ℕ, ◌+◌, ◌-◌, ◌*◌, ◌≤◌, take, drop, true, Bool, List, [], ◌∷◌, ◌++◌, length}
use Rattle.std.specs.Prelude.{Option, Some, None, ⊤, if◌then◌else◌}
use Rattle.std.specs.List.{AllByRecursion}
use Rattle.mf_base.specs.Ascending.{is_below}
use Rattle.mf_edge.specs.Spill.{SpillState, KeepsOthers, part_limit}
use Rattle.mf_rows.specs.RowKinds.{Kind, bytes_of, IsOf, rows_bytes, rows_in}

-- A part of rows: its number, and the rows that were written to it, in its order.
pub record Part (K : Type 0) : Type 0 where
  pub part : ℕ
  pub rows : List K

-- What each part keeps: its rows are counted, each is a value of the type, and their bytes pass no limit.
pub record IsSound {K : Type 0} (kind : Kind K) (count : ℕ) (rows : List K) : Type 0 where
  pub counted : count ≡ length rows
  pub known : AllByRecursion (IsOf kind) rows
  pub small : kind.width * length rows ≤ part_limit

-- a part as bytes
pub record Piece : Type 0 where
  pub part : ℕ
  pub size : ℕ
  pub bytes : List ℕ

-- a part of rows as bytes
abbrev pub piece_of : {K : Type 0} → Kind K → Part K → Piece
piece_of kind p = record { part = p.part; size = kind.width * length p.rows; bytes = rows_bytes kind p.rows }

-- the part is there, with just these bytes
pub record IsThere (p : Piece) (s : SpillState) : Type 0 where
  pub size : s.size p.part ≡ Some p.size
  pub bytes : s.tells ≡ true → s.bytes p.part ≡ p.bytes

-- the part of rows is there, with just these rows
abbrev pub IsHeld : {K : Type 0} → Kind K → Part K → SpillState → Type 0
IsHeld kind p s = IsThere (piece_of kind p) s

-- A part of plain bytes: its number, and how many bytes were put to it.
pub record BytePart : Type 0 where
  pub part : ℕ
  pub size : ℕ

-- the part of plain bytes is there, with so many bytes
abbrev pub HasItsSize : BytePart → SpillState → Type 0
HasItsSize p s = s.size p.part ≡ Some p.size

-- no number stands twice
abbrev pub AllDiffer : List Piece → Type 0
AllDiffer [] = ⊤
AllDiffer (p ∷ ps) = AllByRecursion (λ (q : Piece). q.part ≢ p.part) ps × AllDiffer ps

-- The store was started, and has just these parts, whose numbers all differ.
pub record HasJust (pieces : List Piece) (s : SpillState) : Type 0 where
  pub started : s.is_started ≡ true
  pub count : s.count ≡ length pieces
  pub differ : AllDiffer pieces
  pub there : AllByRecursion (λ p. IsThere p s) pieces

-- A reader of rows: those that it has still to give.
pub record Reading (K : Type 0) : Type 0 where
  pub source : Part K
  -- the rows that it has still to give
  pub left : List K
  -- how many rows of the part were loaded into the page so far, and how many of them it has still to give
  pub loaded : ℕ
  pub waiting : ℕ

-- what a page holds, and for how many rows it has room
pub record PageBytes : Type 0 where
  pub room : ℕ
  pub bytes : List ℕ

-- a row was given, the first of those that were left; or none was left
abbrev pub GivesNext : {K : Type 0} → Bool → List K → Option K → List K → Type 0
GivesNext {K} tells left None left_now = (left ≡ []) × (left_now ≡ [])
GivesNext {K} tells left (Some row) left_now = (next : K) × (left ≡ next ∷ left_now) × (tells ≡ true → row ≡ next)

-- a row before the first that is not smaller
abbrev pub put_row_in : {K : Type 0} → Kind K → K → List K → List K
put_row_in kind row [] = row ∷ []
put_row_in kind row (first ∷ rows) =
    if is_below (bytes_of kind first) (bytes_of kind row) then first ∷ put_row_in kind row rows else row ∷ first ∷ rows

-- The rows of an ordered part: the same rows, each as often, ascending by their bytes.
unfoldable pub ordered_rows : {K : Type 0} → Kind K → List K → List K
ordered_rows kind [] = []
ordered_rows kind (row ∷ rows) = put_row_in kind row (ordered_rows kind rows)

-- ---- what calls do

-- a new part without rows
pub record IsBegun {K : Type 0} (kind : Kind K) (w : Part K) (before after : SpillState) : Type 0 where
  pub fresh : before.size w.part ≡ None
  pub empty : w.rows ≡ []
  pub held : IsHeld kind w after
  pub count : after.count ≡ before.count + 1
  pub others : KeepsOthers w.part before after

-- a row more at the part's end
pub record IsPut {K : Type 0} (kind : Kind K) (row : K) (w w_now : Part K) (after : SpillState) : Type 0 where
  pub part : w_now.part ≡ w.part
  pub rows : w_now.rows ≡ w.rows ++ row ∷ []
  pub held : IsHeld kind w_now after

-- rows more at the part's end
pub record ArePut {K : Type 0} (kind : Kind K) (rows : List K) (w w_now : Part K) (after : SpillState) : Type 0 where
  pub part : w_now.part ≡ w.part
  pub rows_now : w_now.rows ≡ w.rows ++ rows
  pub held : IsHeld kind w_now after

-- the part, its rows ordered
pub record IsOrdered {K : Type 0} (kind : Kind K) (p p_now : Part K) (after : SpillState) : Type 0 where
  pub part : p_now.part ≡ p.part
  pub rows : p_now.rows ≡ ordered_rows kind p.rows
  pub held : IsHeld kind p_now after

-- The part is there, and the page holds the rows that were loaded and not yet given.
pub record IsReading {K : Type 0} (kind : Kind K) (r : Reading K) (page : PageBytes) (s : SpillState) : Type 0 where
  pub held : IsHeld kind r.source s
  pub given : (done : List K) × (r.source.rows ≡ done ++ r.left) × (r.loaded ≡ length done + r.waiting)
  pub some : r.loaded ≤ length r.source.rows
  pub within : r.waiting ≤ page.room
  pub on_page : s.tells ≡ true
      → rows_in kind r.waiting (drop (kind.width * (page.room - r.waiting)) page.bytes) ≡ take r.waiting r.left
