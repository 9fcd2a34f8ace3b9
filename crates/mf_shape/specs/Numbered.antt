-- The records of candidates with the numbers of features, and their rows. This project's own.
use Rattle.std.specs.Prelude.{◌≡◌, ℕ, ◌+◌, ◌≤◌, nat_lt, max, fold, List, [], ◌∷◌, ◌++◌, map, flat_map, find, length}
use Rattle.std.specs.Prelude.{Option, Some, option_map}
use Rattle.std.specs.List.{AllByRecursion}
use Rattle.feature_model.specs.declared.fault.LimitFault.{LimitFault}
use Rattle.mf_rows.specs.Records.{Record}
use Rattle.mf_rows.specs.RecordUnits.{record_in, units_of, unit_count}
use Rattle.mf_rows.specs.Changes.{with_feature}
use Rattle.mf_rows.specs.declared.kinds.FeatureRow.{FeatureRow}
use Rattle.mf_rows.specs.declared.kinds.ShapeRow.{ShapeRow}
use Rattle.spill_parts.specs.Handed.{record_rows}
use Rattle.spill_parts.specs.Shaped.{Spelled, shape_rows}
use Rattle.mf_shape.specs.declared.nodes.Counts.{Counts}

-- A record that its units spell, and which has as many as are counted.
pub record IsSpelled (r : Record) : Type 0 where
  pub whole : record_in (units_of r) ≡ Some r
  pub counted : length (units_of r) ≡ unit_count r

-- records with numbers that count from this one; each weighs as much as it has units
abbrev pub numbered : ℕ → List Record → List Record
numbered n [] = []
numbered n (r ∷ records) = with_feature n (unit_count r) r ∷ numbered (n + 1) records

-- The rows spell these records with numbers that count from 0. None weighs more than the limit.
pub record AreNumbered (limit : ℕ) (records : List Record) (rows : List ShapeRow) : Type 0 where
  pub spelled : List Spelled
  pub told : map (λ (s : Spelled). s.told) spelled ≡ numbered 0 records
  pub counted : AllByRecursion (λ (s : Spelled). length s.units ≡ s.told.head.weight) spelled
  pub rows_are : rows ≡ flat_map shape_rows spelled
  pub light : AllByRecursion (λ (r : Record). unit_count r ≤ limit) records

-- the greatest number of units of these records, or 0
abbrev pub most_units : List Record → ℕ
most_units records = fold max 0 (map unit_count records)

-- Each of these records is counted as a feature.
pub record AreCounted (records : List Record) (c : Counts) : Type 0 where
  pub features : c.features ≡ length records
  pub skipped : c.skipped ≡ 0
  pub largest : c.largest ≡ most_units records

-- a record over the limit, as a fault
abbrev pub record_over : Record → LimitFault
record_over r = LimitFault.Feature r.head.kind r.head.id (unit_count r)

-- the fault of the first record that has more units than the limit
abbrev pub records_fault : ℕ → List Record → Option LimitFault
records_fault limit records = option_map record_over (find (λ (r : Record). nat_lt limit (unit_count r)) records)

-- The first of all records were numbered and counted, and the rows of the others are left.
pub record AreSoFar (limit : ℕ) (all : List Record) (rest : List FeatureRow) (rows : List ShapeRow) (c : Counts)
    : Type 0 where
  pub done : List Record
  pub left : List Record
  pub whole : done ++ left ≡ all
  pub rest_is : rest ≡ flat_map record_rows left
  pub numbered_are : AreNumbered limit done rows
  pub counted_are : AreCounted done c

-- One record more was given a number and a weight, its rows were put, and it was counted.
pub record IsOneMore (r : Record) (units weight : ℕ) (rows rows_now : List ShapeRow) (c c_now : Counts) : Type 0 where
  pub made : Spelled
  pub told : made.told ≡ with_feature c.features weight r
  pub many : length made.units ≡ units
  pub put : rows_now ≡ rows ++ shape_rows made
  pub counts : c_now ≡ record { features = c.features + 1; skipped = c.skipped; largest = max c.largest weight }
