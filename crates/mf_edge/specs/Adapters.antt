-- What the devices over readers, writers and files of std keep. This project's own.
use Rattle.std.specs.Prelude.{ℕ, List, Bool, Option, None}
use Rattle.mf_edge.specs.Shelves.{ShelfState}

-- the bytes that the reader has left, where std knows them, how often a call has failed, and how often it was read
pub record ReaderState : Type 0 where
  pub remaining : Option (List ℕ)
  pub faults : ℕ
  pub reads : ℕ

-- the bytes that the writer holds, where std knows them, and how often a call has failed
pub record WriterState : Type 0 where
  pub contents : Option (List ℕ)
  pub faults : ℕ

-- the name of a shelf, whether its file is open, the bytes that it has left, where std knows them, and how often a call
-- has failed
pub record FileState : Type 0 where
  pub name : Option (List ℕ)
  pub is_open : Bool
  pub remaining : Option (List ℕ)
  pub faults : ℕ

-- what a shelf over files tells
abbrev pub told_of : FileState → ShelfState
told_of s = record { name = s.name; file = None; left = None; is_open = s.is_open; faults = s.faults }
