-- What the store over a folder keeps. This project's own.
use Rattle.std.specs.Prelude.{◌≡◌, ◌≢◌, ℕ, ◌+◌, Bool, false, List, [], Option, Some, None, slice_index_or, count_by}
use Rattle.std.specs.Prelude.{is_some}
use Rattle.mf_edge.specs.Spill.{SpillState}

-- A store over a folder: its name, whether it was started and is overrun, the lengths of its parts by their numbers,
-- and its faults. What its files hold stands nowhere: no contract can tell it.
pub record FolderStore : Type 0 where
  pub name : Option (List ℕ)
  pub is_started : Bool
  pub is_overrun : Bool
  pub lengths : List (Option ℕ)
  pub faults : ℕ

-- a new store
abbrev pub new_store : FolderStore
new_store = record {
  name = None;
  is_started = false;
  is_overrun = false;
  lengths = [];
  faults = 0;
}

-- the length of the part with a number, where it is there
abbrev pub length_in : List (Option ℕ) → ℕ → Option ℕ
length_in lengths part = slice_index_or lengths part None

-- how many parts are there
abbrev pub part_count : List (Option ℕ) → ℕ
part_count lengths = count_by is_some lengths

-- every part but this one is as before
abbrev pub KeepsOtherLengths : ℕ → (before after : List (Option ℕ)) → Type 0
KeepsOtherLengths part before after = (q : ℕ) → q ≢ part → length_in after q ≡ length_in before q

-- an empty part is there under a number that no part had
pub record IsMadeIn (part : ℕ) (before after : List (Option ℕ)) : Type 0 where
  pub fresh : length_in before part ≡ None
  pub empty : length_in after part ≡ Some 0
  pub count : part_count after ≡ part_count before + 1
  pub others : KeepsOtherLengths part before after

-- a part is gone
pub record IsGoneFrom (part : ℕ) (before after : List (Option ℕ)) : Type 0 where
  pub gone : length_in after part ≡ None
  pub count : part_count after + 1 ≡ part_count before
  pub others : KeepsOtherLengths part before after

-- a part has this length now
pub record IsSetIn (part size : ℕ) (before after : List (Option ℕ)) : Type 0 where
  pub now : length_in after part ≡ Some size
  pub count : part_count after ≡ part_count before
  pub others : KeepsOtherLengths part before after

-- what the store tells
abbrev pub told : FolderStore → SpillState
told s = record {
  name = s.name;
  is_started = s.is_started;
  tells = false;
  count = part_count s.lengths;
  size = λ q. length_in s.lengths q;
  bytes = λ q. [];
  is_overrun = s.is_overrun;
  faults = s.faults;
}
