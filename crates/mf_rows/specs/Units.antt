-- The units of 16 bytes that spell the parts and points of a record: this project's profile, on row kinds. What the
-- bytes of a part's unit are is this project's own.
use Rattle.std.specs.Prelude.{◌≡◌, ℕ, zero, suc, ◌+◌, ◌^◌, ◌<◌, nat_le, if◌then◌else◌, List, [], ◌∷◌, map, flat_map}
use Rattle.std.specs.Prelude.{length, take, drop, bytes_eq, Option, Some, None, option_map}
use Rattle.std.specs.List.{AllByRecursion}
use Rattle.mf_base.specs.declared.kind.Role.{Role}
use Rattle.feature_model.specs.Points.{Point, Part}
use Rattle.mf_rows.specs.Fields.{number, fields_bytes}
use Rattle.mf_rows.specs.Places.{number_at}
use Rattle.mf_rows.specs.RowKinds.{bytes_of, IsOf}
use Rattle.mf_rows.specs.Kinds.{node_kind}
use Rattle.mf_rows.specs.declared.kinds.NodeRow.{NodeRow}

-- a unit is 16 bytes
abbrev pub Unit16 : Type 0
Unit16 = List ℕ

-- ---- points

-- a point as the row of a node, and back
abbrev pub row_of_point : Point → NodeRow
row_of_point p = record { node = p.node; lat = p.place.lat; lon = p.place.lon }

abbrev pub point_of_row : NodeRow → Point
point_of_row r = record { node = r.node; place = record { lat = r.lat; lon = r.lon } }

-- the unit of a point: node, latitude and longitude
abbrev pub point_unit : Point → Unit16
point_unit p = bytes_of node_kind (row_of_point p)

-- the point that a unit spells
abbrev pub point_in : Unit16 → Point
point_in unit = point_of_row (node_kind.row_of unit)

-- ---- parts

-- the number of a role
abbrev pub role_number : Role → ℕ
role_number Role.Outer = 0
role_number Role.Inner = 1

-- the unit of a part: its role, how many points follow, and seven zeros
unfoldable pub part_unit : Role → ℕ → Unit16
part_unit role points = fields_bytes (number 1 (role_number role) ∷ number 8 points ∷ number 7 0 ∷ [])

-- a unit of this role, where it is one
abbrev pub part_of : Unit16 → ℕ → Role → Option (Role × ℕ)
part_of unit points role = if bytes_eq unit (part_unit role points) then Some (role, points) else None

-- this, or else that
abbrev pub or_else : {A : Type 0} → Option A → Option A → Option A
or_else None that = that
or_else (Some this) that = Some this

-- the role and the number of points that a unit tells, where it is that of a part
unfoldable pub part_in : Unit16 → Option (Role × ℕ)
part_in unit = let points = number_at 1 8 unit in
    or_else (part_of unit points Role.Outer) (part_of unit points Role.Inner)

-- the units of a part and its points
abbrev pub part_units : Part → List Unit16
part_units p = part_unit p.role (length p.points) ∷ map point_unit p.points

-- the units of parts, one after another
abbrev pub parts_units : List Part → List Unit16
parts_units parts = flat_map part_units parts

-- a part of these points before others
abbrev pub with_part : Role → List Unit16 → List Part → List Part
with_part role points more = record { role = role; points = map point_in points } ∷ more

-- the parts that units spell behind the unit of a part, where they spell some: its points, and then those that `more`
-- finds in the rest
abbrev pub next_parts : Option (Role × ℕ) → List Unit16 → (List Unit16 → Option (List Part)) → Option (List Part)
next_parts None units more = None
next_parts (Some p) units more =
    if nat_le p.1 (length units) then option_map (with_part p.0 (take p.1 units)) (more (drop p.1 units)) else None

-- the same of all units, where they are at most so many
unfoldable pub parts_within : ℕ → List Unit16 → Option (List Part)
parts_within zero [] = Some []
parts_within zero (first ∷ units) = None
parts_within (suc most) [] = Some []
parts_within (suc most) (first ∷ units) = next_parts (part_in first) units (parts_within most)

-- the parts that units spell, where they spell some
abbrev pub parts_in : List Unit16 → Option (List Part)
parts_in units = parts_within (length units) units

-- Units follow a part: behind its unit stand its points, and then these.
pub record FollowsPart (first : Unit16) (rest more : List Unit16) : Type 0 where
  pub role : Role
  pub points : List Unit16
  pub all : parts_in (first ∷ rest) ≡ option_map (with_part role points) (parts_in more)
  pub counted : length rest ≡ length points + length more

-- a part of these points
abbrev pub shown_part : Role → List Point → Part
shown_part role points = record { role = role; points = points }

-- a part that has units: fewer than 2^64 points, each of them a row of a node
abbrev pub IsPart : Part → Type 0
IsPart p = (length p.points < 2 ^ 64) × AllByRecursion (λ (q : Point). IsOf node_kind (row_of_point q)) p.points
