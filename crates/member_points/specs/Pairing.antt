-- Members beside the points of their ways, which are held once. This project's own.
use Rattle.std.specs.Prelude.{◌≡◌, ℕ, ◌+◌, ◌-◌, ◌^◌, min, List, [], ◌∷◌, ◌++◌, map, flat_map, length, replicate}
use Rattle.mf_base.specs.declared.place.Place.{Place}
use Rattle.feature_model.specs.Points.{Point}
use Rattle.mf_rows.specs.Units.{Unit16, point_in}
use Rattle.mf_rows.specs.declared.kinds.MemberRow.{MemberRow}
use Rattle.mf_rows.specs.declared.kinds.PointRow.{PointRow}
use Rattle.mf_rows.specs.declared.kinds.RelRow.{RelRow}
use Rattle.row_runs.specs.Runs.{HasAllFrom}
use Rattle.way_points.specs.PointRows.{point_way}
use Rattle.member_points.specs.RelRows.{blank, held_points, rel_row_of, points_with}

-- the greatest place of a row
abbrev pub last_place : ℕ
last_place = 2 ^ 32 - 1

-- Points as rows of a member, by places from this one on; places stop at the greatest.
abbrev pub rows_from : MemberRow → ℕ → List Point → List RelRow
rows_from m place [] = []
rows_from m place (p ∷ ps) = rel_row_of m (place, p) ∷ rows_from m (min (place + 1) last_place) ps

-- a point by the id of its node and its place
abbrev pub given_point : ℕ × Place → Point
given_point at = record { node = at.0; place = at.1 }

-- the points that units tell, and as many blank ones
abbrev pub told_points : List Unit16 → (blanks : ℕ) → List Point
told_points units blanks = map point_in units ++ replicate blanks blank

-- so many points, of which the first are these units
abbrev pub counted_points : List Unit16 → (count : ℕ) → List Point
counted_points units count = told_points units (count - length units)

-- the points of a member's way as its rows
abbrev pub rows_of_member : (limit : ℕ) → List PointRow → MemberRow → List RelRow
rows_of_member limit points m = rows_from m 0 (held_points limit (points_with points m.way))

-- those of members, one after another
unfoldable pub paired_rows : (limit : ℕ) → List PointRow → List MemberRow → List RelRow
paired_rows limit points members = flat_map (rows_of_member limit points) members

-- The points of a way are held, and no row of a later way was passed.
pub record IsHolding (limit way count : ℕ) (loose : List Unit16) (left points : List PointRow) : Type 0 where
  pub held : counted_points loose count ≡ held_points limit (points_with points way)
  pub later : HasAllFrom point_way (way + 1) left points
