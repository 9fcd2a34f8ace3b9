-- The pass over all features of a part, in all intervals. This project's own.
use Rattle.std.specs.Prelude.{◌≡◌, ℕ, List, ◌∷◌, ◌++◌, map, flat_map, length, slice_get, Some, IsTrue}
use Rattle.std.specs.List.{enumerate_from, AllByRecursion}
use Rattle.mf_base.specs.Ranges.{is_on_earth}
use Rattle.mf_base.specs.declared.place.Rect.{Rect}
use Rattle.mf_base.specs.declared.tile.Interval.{Interval}
use Rattle.feature_model.specs.Proper.{AllPlaces}
use Rattle.map_model.specs.Header.{HeadSettings}
use Rattle.mf_rows.specs.Fields.{IsRow}
use Rattle.mf_rows.specs.Units.{Unit16}
use Rattle.mf_rows.specs.Records.{Record}
use Rattle.mf_rows.specs.RecordUnits.{unit_count}
use Rattle.mf_rows.specs.Desks.{Desktop}
use Rattle.mf_rows.specs.Shapes.{shape_told}
use Rattle.mf_rows.specs.declared.head.Head.{Head}
use Rattle.mf_rows.specs.declared.kinds.ShapeRow.{ShapeRow}
use Rattle.mf_rows.specs.declared.kinds.TileRow.{TileRow}
use Rattle.spill_parts.specs.Shaped.{Spelled, shape_rows, IsLight}
use Rattle.tile_rows.specs.TileRows.{interval_rows, put_rows, AreNumbered, HasRows}
use Rattle.tile_spread.specs.Spread.{head_rows}

-- ---- what goes in, and what is put

-- the places of a record are on the earth
abbrev pub IsOnEarth : Record → Type 0
IsOnEarth r = AllPlaces (λ p. IsTrue (is_on_earth p)) (shape_told r)

-- Rows of features that can be spread: each is light and on the earth, their numbers rise, and each has rows.
pub record MaySpread (limit : ℕ) (list : List Spelled) (rows : List ShapeRow) : Type 0 where
  pub rows_are : rows ≡ flat_map shape_rows list
  pub light : AllByRecursion (IsLight limit) list
  pub places : AllByRecursion (λ (s : Spelled). IsOnEarth s.told) list
  pub numbered : AreNumbered list

-- Rows of tiles of these records, of units that spell them.
pub record AreSpread (limit : ℕ) (set : HeadSettings) (box : Rect) (list : List Spelled) (rows : List TileRow)
    : Type 0 where
  pub made : List Spelled
  pub told : map (λ (s : Spelled). s.told) made ≡ map (λ (s : Spelled). s.told) list
  pub light : AllByRecursion (IsLight limit) made
  pub numbered : AreNumbered made
  pub rows_are : rows ≡ put_rows set box made

-- ---- feature after feature

-- what a feature of this head and rectangle puts in intervals, of which the first has this place
abbrev pub heads_from : (box rect : Rect) → Head → List Unit16 → ℕ → List Interval → List TileRow
heads_from box rect head units n intervals =
    flat_map (λ at. head_rows box rect at.0 at.1 head units) (enumerate_from n intervals)

-- what a feature puts in these intervals
abbrev pub spread_of : List Interval → Rect → Spelled → List TileRow
spread_of intervals box s = flat_map (λ at. interval_rows box at.0 at.1 s) (enumerate_from 0 intervals)

-- what features put in these intervals
abbrev pub all_spread : List Interval → Rect → List Spelled → List TileRow
all_spread intervals box list = flat_map (spread_of intervals box) list

-- The first feature of these is the one record of a desk, and the rows of the others are left.
pub record IsLoaded (list : List Spelled) (rest : List ShapeRow) (d : Desktop) : Type 0 where
  pub feature : Spelled
  pub more : List Spelled
  pub list_is : list ≡ feature ∷ more
  pub rest_is : rest ≡ flat_map shape_rows more
  pub record_is : slice_get d.records 0 ≡ Some feature.told
  pub many : length feature.units ≡ unit_count feature.told

-- A record was put as a feature, of units that spell it.
pub record IsOneMore (intervals : List Interval) (box : Rect) (r : Record) (rows rows_now : List TileRow) : Type 0 where
  pub made : Spelled
  pub told : made.told ≡ r
  pub many : length made.units ≡ unit_count r
  pub wide : AllByRecursion (IsRow 16) made.units
  pub put : rows_now ≡ rows ++ spread_of intervals box made

-- The first features were put, of units that spell their records, and the rows of the others are left.
pub record AreSoFar (limit : ℕ) (intervals : List Interval) (box : Rect) (list : List Spelled) (rest : List ShapeRow)
    (rows : List TileRow) : Type 0 where
  pub done : List Spelled
  pub left : List Spelled
  pub whole : done ++ left ≡ list
  pub rest_is : rest ≡ flat_map shape_rows left
  pub made : List Spelled
  pub told : map (λ (s : Spelled). s.told) made ≡ map (λ (s : Spelled). s.told) done
  pub light : AllByRecursion (IsLight limit) made
  pub have_rows : AllByRecursion HasRows made
  pub rows_are : rows ≡ all_spread intervals box made
  pub many : length rows ≡ length (all_spread intervals box done)
