-- What a reading of a job answers and leaves. This project's own.
use Rattle.std.specs.Prelude.{◌≡◌, ◌≢◌, ◌⊎◌, ⊤, ℕ, List, take, Option, Some, None, Result, Err}
use Rattle.mf_edge.specs.Device.{CountsOne}
use Rattle.mf_edge.specs.Shelves.{ShelfState}
use Rattle.mf_base.specs.Texts.{Text}
use Rattle.job_words.specs.declared.refusal.Refusal.{Refusal}
use Rattle.job_words.specs.declared.refusal.Refusal.TheVariants as why

-- The first bytes of a file, at most so many, where a shelf tells its file.
abbrev pub IsFrontOf : Option (List ℕ) → ℕ → List ℕ → Type 0
IsFrontOf None most bytes = ⊤
IsFrontOf (Some all) most bytes = bytes ≡ take most all

-- A shelf's file may have these bytes: it tells them, or it tells none.
abbrev pub MayHold : Option (List ℕ) → List ℕ → Type 0
MayHold None bytes = ⊤
MayHold (Some all) bytes = all ≡ bytes

-- This is answered, or memory is wanting.
abbrev pub IsOrMemory : {A : Type 0} → Result A Refusal → Result A Refusal → Type 0
IsOrMemory told answer = (answer ≡ Err why.Memory) ⊎ (answer ≡ told)

-- What is answered is told by the bytes of the shelf's file, where it tells them, and else by some bytes; or memory is
-- wanting, or the file could not be read.
abbrev pub IsToldBy : {A : Type 0} → (List ℕ → Result A Refusal) → ShelfState → Result A Refusal → Type 0
IsToldBy told shelf answer = (answer ≡ Err why.Memory) ⊎ (answer ≡ Err why.Read)
    ⊎ ((bytes : List ℕ) × MayHold shelf.file bytes × (answer ≡ told bytes))

-- What a reading that is asked for this file, where it is asked for one, leaves of a shelf without a name. It counts a
-- fault exactly where `Read` is answered, and answers it only where a file is asked for. Afterwards the name is that of
-- the file, or memory is wanting and it may be none. Where no file is asked for, the shelf is as before.
pub record LeavesShelf {A : Type 0} (asked : Option Text) (old : ShelfState) (answer : Result A Refusal)
    (new : ShelfState) : Type 0 where
  pub fault : answer ≡ Err why.Read → CountsOne old.faults new.faults
  pub given : answer ≡ Err why.Read → asked ≢ None
  pub same_faults : answer ≢ Err why.Read → new.faults ≡ old.faults
  pub file : new.file ≡ old.file
  pub named : answer ≢ Err why.Memory → new.name ≡ asked
  pub name : (new.name ≡ None) ⊎ (new.name ≡ asked)
  pub untouched : asked ≡ None → new ≡ old
