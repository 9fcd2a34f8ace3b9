-- What a shelf tells: one file that is opened by its name and read. This project's own.
use Rattle.std.specs.Prelude.{◌≡◌, ℕ, ◌≤◌, List, Bool, true, length, Option, Some, None, ⊤}

-- the name that the first opening fixed, the bytes of that file and those of them that are left to read, where it tells
-- them, whether the last opening succeeded, and how often a call has failed
pub record ShelfState : Type 0 where
  pub name : Option (List ℕ)
  pub file : Option (List ℕ)
  pub left : Option (List ℕ)
  pub is_open : Bool
  pub faults : ℕ

-- a name is not fixed yet, or it is this one
abbrev pub MayBe : Option (List ℕ) → List ℕ → Type 0
MayBe None name = ⊤
MayBe (Some fixed) name = fixed ≡ name

-- a name is one that can be opened
pub record CanOpen (shelf : ShelfState) (name : List ℕ) : Type 0 where
  pub short : length name ≤ 4095
  pub same : MayBe shelf.name name

-- the shelf has this name now, and the same file
pub record IsNamed (old : ShelfState) (given : List ℕ) (new : ShelfState) : Type 0 where
  pub name : new.name ≡ Some given
  pub file : new.file ≡ old.file

-- a shelf is open, and all of its file is left
pub record IsOpened (shelf : ShelfState) : Type 0 where
  pub opened : shelf.is_open ≡ true
  pub whole : shelf.left ≡ shelf.file

-- name and file are as they were, and whether it is open
pub record KeepsName (old new : ShelfState) : Type 0 where
  pub name : new.name ≡ old.name
  pub file : new.file ≡ old.file
  pub is_open : new.is_open ≡ old.is_open
