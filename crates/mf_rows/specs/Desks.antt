-- What a desk holds, and what its calls do. This project's own.
use Rattle.std.specs.Prelude.{◌≡◌, ℕ, ◌+◌, List, [], ◌∷◌, ◌++◌, length, Option, Some, None}
use Rattle.mf_rows.specs.Units.{Unit16}
use Rattle.mf_rows.specs.Records.{Record}
use Rattle.mf_rows.specs.RecordUnits.{unit_count, record_in}

-- Records, the units that are in no record yet, and for how many units there is room.
pub record Desktop : Type 0 where
  pub records : List Record
  pub loose : List Unit16
  pub capacity : ℕ

-- how many units records have
abbrev pub units_in : List Record → ℕ
units_in [] = 0
units_in (r ∷ records) = unit_count r + units_in records

-- the rows in use: the units of all records, and the loose ones
abbrev pub used : Desktop → ℕ
used d = units_in d.records + length d.loose

-- the record that the loose units spell, where they spell one, is the last
abbrev pub closed_as : Option Record → Desktop → Desktop
closed_as None d = d
closed_as (Some r) d = record { records = d.records ++ r ∷ []; loose = []; capacity = d.capacity }

-- a desk whose loose units are closed as a record; where they spell none it is as it was
abbrev pub closed : Desktop → Desktop
closed d = closed_as (record_in d.loose) d

-- The last record is one no more, and the loose units spell it.
pub record IsLoosened (before after : Desktop) : Type 0 where
  pub last : Record
  pub was : before.records ≡ after.records ++ last ∷ []
  pub spelled : record_in after.loose ≡ Some last
  pub same_room : after.capacity ≡ before.capacity
  pub same_use : used after ≡ used before
