-- What a shelf in memory keeps. This project's own.
use Rattle.std.specs.Prelude.{◌≡◌, ℕ, List, Bool, Option, Some}
use Rattle.mf_edge.specs.Memory.{Calls}
use Rattle.mf_edge.specs.Shelves.{ShelfState}

-- the name of the file, its bytes, what is left of them to read, the most bytes that one read gives, the name of the
-- shelf, whether it is open, and its calls
pub record MemoryFile : Type 0 where
  pub held : List ℕ
  pub bytes : List ℕ
  pub left : List ℕ
  pub piece : ℕ
  pub name : Option (List ℕ)
  pub is_open : Bool
  pub calls : Calls

-- what it tells
abbrev pub told_of : MemoryFile → ShelfState
told_of f = record {
  name = f.name;
  file = Some f.bytes;
  left = Some f.left;
  is_open = f.is_open;
  faults = f.calls.faults;
}

-- the file that it has, its pieces and the calls that fail are as they were
pub record KeepsFile (old new : MemoryFile) : Type 0 where
  pub held : new.held ≡ old.held
  pub bytes : new.bytes ≡ old.bytes
  pub piece : new.piece ≡ old.piece
  pub listed : new.calls.listed ≡ old.calls.listed
