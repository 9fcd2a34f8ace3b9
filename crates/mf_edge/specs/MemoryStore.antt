-- What the store in memory keeps. This project's own.
use Rattle.std.specs.Prelude.{Vec, ◌≡◌, ◌≢◌, ℕ, ◌+◌, ◌-◌, ◌^◌, min, ◌==◌, Bool, false, not, ◌&&◌, List, [], map}
use Rattle.std.specs.Prelude.{length, take, drop, replicate, Option, Some, None, option_map, Contains, if◌then◌else◌}
use Rattle.std.specs.Prelude.{unwrap_or, slice_index_or, count_by, is_some}
use Rattle.mf_edge.specs.Spill.{SpillState}
use Rattle.mf_edge.specs.Memory.{Calls}

-- A store in memory: its name, whether it was started, tells its bytes and is overrun, its parts by their numbers, its
-- calls, and how many reads ahead the one is that is answered by zeros. It holds its parts also where it tells nothing.
pub record MemoryStore : Type 0 where
  pub name : Option (List ℕ)
  pub is_started : Bool
  pub tells : Bool
  pub is_overrun : Bool
  pub parts : List (Option (List ℕ))
  pub calls : Calls
  pub until_zeros : ℕ

-- a new store, of whose calls these fail
abbrev pub new_store : (tells : Bool) (listed : List ℕ) (zeros : ℕ) → MemoryStore
new_store tells listed zeros = record {
  name = None;
  is_started = false;
  tells = tells;
  is_overrun = false;
  parts = [];
  calls = record { made = 0; listed = listed; faults = 0 };
  until_zeros = zeros;
}

-- ---- its parts

-- parts by their numbers, as lists of bytes
abbrev pub bytes_in : {Z : Type 0} → List (Option (Vec ℕ Z)) → List (Option (List ℕ))
bytes_in parts = map (option_map (λ v. v.items)) parts

-- the bytes of the part with a number, where it is there
abbrev pub held : List (Option (List ℕ)) → ℕ → Option (List ℕ)
held parts part = slice_index_or parts part None

-- how many parts are there
abbrev pub held_count : List (Option (List ℕ)) → ℕ
held_count parts = count_by is_some parts

-- every part but this one is as before
abbrev pub HoldsOthers : ℕ → (before after : List (Option (List ℕ))) → Type 0
HoldsOthers part before after = (q : ℕ) → q ≢ part → held after q ≡ held before q

-- an empty part is there under a number that no part had
pub record IsMadeIn (part : ℕ) (before after : List (Option (List ℕ))) : Type 0 where
  pub fresh : held before part ≡ None
  pub empty : held after part ≡ Some []
  pub count : held_count after ≡ held_count before + 1
  pub others : HoldsOthers part before after

-- a part is gone
pub record IsGoneFrom (part : ℕ) (before after : List (Option (List ℕ))) : Type 0 where
  pub gone : held after part ≡ None
  pub count : held_count after + 1 ≡ held_count before
  pub others : HoldsOthers part before after

-- a part has these bytes now
pub record IsSetIn (part : ℕ) (bytes : List ℕ) (before after : List (Option (List ℕ))) : Type 0 where
  pub now : held after part ≡ Some bytes
  pub count : held_count after ≡ held_count before
  pub others : HoldsOthers part before after

-- ---- its calls

-- the next call is listed as one that fails
abbrev pub FailsNext : Calls → Type 0
FailsNext calls = Contains calls.listed (calls.made + 1)

-- the calls with one more, which was answered Ok
abbrev pub with_answer : Calls → Calls
with_answer calls = record { made = calls.made + 1; listed = calls.listed; faults = calls.faults }

-- the calls with one more, which failed
abbrev pub with_failure : Calls → Calls
with_failure calls =
    record { made = calls.made + 1; listed = calls.listed; faults = min (calls.faults + 1) (2 ^ 64 - 1) }

-- the bytes of a part; none, where it is not there
abbrev pub held_bytes : List (Option (List ℕ)) → ℕ → List ℕ
held_bytes parts part = unwrap_or (held parts part) []

-- What a read of so many bytes of a part gives, from a place on: the part's bytes, or the zeros of the one read that a
-- store that tells nothing answers so.
abbrev pub read_bytes : MemoryStore → ℕ → ℕ → ℕ → List ℕ
read_bytes s part at n =
    if not s.tells && (s.until_zeros == 1) then replicate n 0 else take n (drop at (held_bytes s.parts part))

-- the store as a start in a folder leaves it, with its calls then
abbrev pub restarted : List ℕ → Bool → Calls → MemoryStore → MemoryStore
restarted folder started calls s = record s {
  name = Some folder;
  is_started = started;
  is_overrun = false;
  parts = [];
  calls = calls;
}

-- the store as a read leaves it, with its calls then
abbrev pub after_read : Calls → MemoryStore → MemoryStore
after_read calls s = record s { calls = calls; until_zeros = s.until_zeros - 1 }

-- ---- what it tells

-- what the store tells
abbrev pub told : MemoryStore → SpillState
told s = record {
  name = s.name;
  is_started = s.is_started;
  tells = s.tells;
  count = held_count s.parts;
  size = λ q. option_map length (held s.parts q);
  bytes = λ q. unwrap_or (held s.parts q) [];
  is_overrun = s.is_overrun;
  faults = s.calls.faults;
}
