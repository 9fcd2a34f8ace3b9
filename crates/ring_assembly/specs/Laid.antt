-- Rings that are laid into the output, row by row: the points of each, and then a row that tells its home and how many
-- points it has. This project's own.
use Rattle.std.specs.Prelude.{◌≡◌, ℕ, ◌+◌, ◌-◌, ◌^◌, ◌<◌, ◌≤◌, is_some, if◌then◌else◌, List, [], ◌∷◌, ◌++◌}
use Rattle.std.specs.Prelude.{map, flat_map, length, take, Option, Some, None, IfSome}
use Rattle.std.specs.List.{AllByRecursion}
use Rattle.ring_assembly.specs.Rows.{rows_in, row_total}
use Rattle.mf_base.specs.Spelling.{big_endian}
use Rattle.feature_model.specs.Points.{Point}
use Rattle.feature_model.specs.Blocks.{home}
use Rattle.mf_rows.specs.Units.{Unit16}
use Rattle.ring_assembly.specs.Marked.{points_in}
use Rattle.ring_assembly.specs.declared.laid.Laid.{Laid}
use Rattle.ring_assembly.specs.declared.laid.LastRing.{LastRing}

-- ---- rings

-- a ring: the place of its home among the outer rings, where it has one, and the units of its points
pub record LaidRing : Type 0 where
  pub home : Option ℕ
  pub units : List Unit16

-- the number of a home
abbrev pub home_number : Option ℕ → ℕ
home_number None = 2 ^ 64 - 1
home_number (Some ring) = ring

-- the last row of a ring
unfoldable pub foot_row : Option ℕ → ℕ → Unit16
foot_row home points = big_endian 8 (home_number home) ++ big_endian 8 points

-- the rows of a ring
abbrev pub ring_rows : LaidRing → List Unit16
ring_rows r = r.units ++ foot_row r.home (length r.units) ∷ []

-- the rows of rings, one after another
abbrev pub all_rows : List LaidRing → List Unit16
all_rows rings = flat_map ring_rows rings

-- the points of rings
abbrev pub points_of : List LaidRing → List (List Point)
points_of rings = map (λ (r : LaidRing). points_in r.units) rings

-- a home is a number of 32 bits
abbrev pub HasHome : LaidRing → Type 0
HasHome r = IfSome r.home (λ n. n < 2 ^ 32)

-- rows are those of these rings
pub record AreRowsOf (rings : List LaidRing) (rows : List Unit16) : Type 0 where
  pub rows_are : rows ≡ all_rows rings
  pub homes : AllByRecursion HasHome rings

-- rows are those of rings
abbrev pub AreRings : List Unit16 → Type 0
AreRings rows = (rings : List LaidRing) × AreRowsOf rings rows

-- how many rows of a ring are kept: none where it has no home
abbrev pub kept_rows : LaidRing → ℕ
kept_rows r = if is_some r.home then length r.units + 1 else 0

-- the first of the rows of bytes are those of these rings, which are told
pub record IsLaid (told : Laid) (bytes : List ℕ) (rings : List LaidRing) : Type 0 where
  pub within : told.rows ≤ row_total bytes
  pub rows_are : AreRowsOf rings (take told.rows (rows_in bytes))
  pub count : told.rings ≡ length rings

abbrev pub HasLaid : Laid → List ℕ → Type 0
HasLaid told bytes = (rings : List LaidRing) × IsLaid told bytes rings

-- each ring has the home that it has among these outer rings
abbrev pub AreHoused : List LaidRing → List LaidRing → Type 0
AreHoused outer rings = AllByRecursion (λ (r : LaidRing). r.home ≡ home (points_of outer) (points_in r.units)) rings

-- what is told of the last ring among rows: it, and the rows before it
pub record IsLast (ring : LaidRing) (others : List LaidRing) (told : LastRing) : Type 0 where
  pub home : told.home ≡ ring.home
  pub points : told.points.now ≡ ring.units
  pub before : AreRowsOf others told.before.now
