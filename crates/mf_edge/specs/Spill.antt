-- What a store of parts tells, and what each of its calls does to it. This project's own.
use Rattle.std.specs.Prelude.{◌≡◌, ◌≢◌, ◌⊎◌, ℕ, ◌+◌, ◌^◌, ◌≤◌, Bool, true, false, List, [], ◌++◌, length, take, drop}
use Rattle.std.specs.Prelude.{Option, Some, None}

-- What a store tells. Its name is that of the folder of its first start. A part that is not there has no size. The
-- bytes of a part count only where the store tells its bytes.
pub record SpillState : Type 0 where
  pub name : Option (List ℕ)
  -- the last start answered Ok
  pub is_started : Bool
  pub tells : Bool
  -- how many parts are there
  pub count : ℕ
  -- the length of a part, and its bytes
  pub size : ℕ → Option ℕ
  pub bytes : ℕ → List ℕ
  pub is_overrun : Bool
  pub faults : ℕ

-- the most parts at a time
abbrev pub most_parts : ℕ
most_parts = 4096

-- the most bytes of a part
abbrev pub part_limit : ℕ
part_limit = 2 ^ 62

-- ---- what calls ask

-- a start in this folder is the first, or the first was there too
abbrev pub IsNameOf : List ℕ → Option (List ℕ) → Type 0
IsNameOf folder name = (name ≡ None) ⊎ (name ≡ Some folder)

-- the part has at least so many bytes
abbrev pub HasBytes : SpillState → ℕ → ℕ → Type 0
HasBytes s part n = (size : ℕ) × (s.size part ≡ Some size) × (n ≤ size)

-- the bytes of a part from a place on
abbrev pub stretch : SpillState → ℕ → ℕ → ℕ → List ℕ
stretch s part at n = take n (drop at (s.bytes part))

-- ---- what calls leave

-- a start that was answered Ok, or one that failed: the name is that of the folder, and nothing is overrun
pub record IsRestarted (folder : List ℕ) (started : Bool) (before after : SpillState) : Type 0 where
  pub name : after.name ≡ Some folder
  pub tells : after.tells ≡ before.tells
  pub started_now : after.is_started ≡ started
  pub no_overrun : after.is_overrun ≡ false

-- no part is there
pub record HasNoPart (s : SpillState) : Type 0 where
  pub count : s.count ≡ 0
  pub none : (q : ℕ) → s.size q ≡ None

-- The name, and whether it was started and tells its bytes, are as before.
pub record SameStore (before after : SpillState) : Type 0 where
  pub name : after.name ≡ before.name
  pub started : after.is_started ≡ before.is_started
  pub tells : after.tells ≡ before.tells

-- every part but this one is as before
pub record KeepsOthers (part : ℕ) (before after : SpillState) : Type 0 where
  pub size : (q : ℕ) → q ≢ part → after.size q ≡ before.size q
  pub bytes : (q : ℕ) → q ≢ part → after.bytes q ≡ before.bytes q

-- all but this part is as before, and so is the number of parts
pub record TouchesOnly (part : ℕ) (before after : SpillState) : Type 0 where
  pub same : SameStore before after
  pub count : after.count ≡ before.count
  pub others : KeepsOthers part before after

-- an empty part was added under a number that no part had
pub record IsMade (part : ℕ) (before after : SpillState) : Type 0 where
  pub fresh : before.size part ≡ None
  pub size : after.size part ≡ Some 0
  pub bytes : after.tells ≡ true → after.bytes part ≡ []
  pub count : after.count ≡ before.count + 1
  pub others : KeepsOthers part before after

-- the bytes were put to the part's end
pub record IsAppended (part : ℕ) (more : List ℕ) (before after : SpillState) : Type 0 where
  pub size : (n : ℕ) → before.size part ≡ Some n → after.size part ≡ Some (n + length more)
  pub bytes : after.tells ≡ true → after.bytes part ≡ before.bytes part ++ more

-- all but the count of faults is as before
abbrev pub SameParts : SpillState → SpillState → Type 0
SameParts before after = after ≡ record before { faults = after.faults }

-- the part is gone
pub record IsForgotten (part : ℕ) (before after : SpillState) : Type 0 where
  pub size : after.size part ≡ None
  pub count : after.count + 1 ≡ before.count
  pub others : KeepsOthers part before after
