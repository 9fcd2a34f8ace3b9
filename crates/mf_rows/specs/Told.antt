-- How a desk keeps what its units tell of a record. This project's own.
use Rattle.std.specs.Prelude.{◌≡◌, ℕ, ◌+◌, ◌≤◌, List, [], ◌∷◌, length, take, drop, Option, Some, IsSome}
use Rattle.std.specs.List.{AllByRecursion}
use Rattle.mf_rows.specs.Units.{Unit16}
use Rattle.mf_rows.specs.Heads.{HeadTold, head_in}
use Rattle.mf_rows.specs.Records.{Record, LiesIn, drawn_parts}
use Rattle.mf_rows.specs.RecordUnits.{slot_sizes, spans_from, bytes_in, unit_count, last_place}
use Rattle.mf_rows.specs.RecordUnits.{record_of, record_in, sizes_total, units_for}
use Rattle.mf_rows.specs.declared.told.Told.{Told}
use Rattle.mf_rows.specs.declared.told.Kept.{Kept}

-- a head with the lengths of its texts
abbrev pub head_told : Told → HeadTold
head_told t = record { head = t.head; texts = t.lengths }

-- the record that is kept, by the units behind its head
abbrev pub record_told : Told → List Unit16 → Record
record_told t units = record_of (head_told t) t.texts units

-- What is kept is the record that is spelled, and can be lent.
pub record IsTold (t : Told) (units : List Unit16) (spelled : Option Record) : Type 0 where
  pub room : t.texts ≤ length units
  pub texts : t.texts ≡ units_for (sizes_total (slot_sizes (head_told t)))
  pub same : spelled ≡ Some (record_told t units)
  pub lies : AllByRecursion (LiesIn (length (bytes_in (take t.texts units)))) (spans_from 0 (slot_sizes (head_told t)))
  pub drawn : IsSome (drawn_parts t.head.kind (drop t.texts units))
  pub counted : unit_count (record_told t units) ≡ 10 + length units
  pub last : t.part ≡ last_place (record_told t units).parts

-- the units of a record
abbrev pub units_at : List Unit16 → Kept → List Unit16
units_at units k = take k.count (drop k.first units)

-- the record that is kept of them
abbrev pub record_at : List Unit16 → Kept → Record
record_at units k = record_told k.told (drop 10 (units_at units k))

-- A record is kept whose units begin at this place.
pub record IsKept (units : List Unit16) (at : ℕ) (k : Kept) : Type 0 where
  pub first : k.first ≡ at
  pub head : 10 ≤ k.count
  pub read : head_in (take 10 (units_at units k)) ≡ Some (head_told k.told)
  pub within : at + k.count ≤ length units
  pub told : IsTold k.told (drop 10 (units_at units k)) (record_in (units_at units k))

-- records are kept, the units of each behind those of the one before, from one place to another
abbrev pub AreKept : List Unit16 → ℕ → List Kept → ℕ → Type 0
AreKept units at [] end = at ≡ end
AreKept units at (k ∷ kept) end = IsKept units at k × AreKept units (at + k.count) kept end

-- A record that is kept is changed in its place, and is now this one: its units are the last, and those before them are
-- the same.
pub record IsChanged (units : List Unit16) (k : Kept) (r : Record) (later : List Unit16) (new : Kept) : Type 0 where
  pub first : new.first ≡ k.first
  pub kept : IsKept later k.first new
  pub same : record_at later new ≡ r
  pub before : take k.first later ≡ take k.first units
  pub end : new.first + new.count ≡ length later
