-- Parts that are taken off the loose units of a desk, and what is left of them. This project's own.
use Rattle.std.specs.Prelude.{◌≡◌, ℕ, zero, suc, ◌+◌, ◌≤◌, ◌==◌, Bool, List, [], ◌∷◌, ◌++◌, length, take, drop, sum_by, slice_index}
use Rattle.std.specs.Prelude.{Option, Some, None}
use Rattle.byteorder.specs.Endian.{big_number}
use Rattle.mf_base.specs.declared.kind.Role.{Role}
use Rattle.feature_model.specs.Rings.{Piece, take_first}
use Rattle.mf_rows.specs.Units.{Unit16, role_number}
use Rattle.mf_rows.specs.Desks.{Desktop}
use Rattle.ring_assembly.specs.Marked.{State, state_unit, AreMarked, points_in, with_piece}
use Rattle.ring_assembly.specs.declared.parts.Taken.{Taken}

-- how many points the unit of a part tells
abbrev pub points_told : Unit16 → ℕ
points_told unit = big_number 8 (drop 1 unit)

-- whether the unit of a part is that of a free one of a role
abbrev pub tells_role : Role → Unit16 → Bool
tells_role role unit = slice_index unit 0 == role_number role

-- the free parts of a role that units have, each with its place among all from this one on, where they have at most so
-- many
unfoldable pub free_within : ℕ → Role → ℕ → List Unit16 → List Piece
free_within zero role n units = []
free_within (suc most) role n [] = []
free_within (suc most) role n (first ∷ units) =
    with_piece (tells_role role first)
    (record { number = n; points = points_in (take (points_told first) units) })
    (free_within most role (n + 1) (drop (points_told first) units))

-- the free parts of a role that units have, each with its place among all
unfoldable pub free_in : Role → List Unit16 → List Piece
free_in role units = free_within (length units) role 0 units

-- The free parts of a role among the loose units, behind those of head and texts.
abbrev pub free_of : ℕ → Role → Desktop → List Piece
free_of front role d = free_in role (drop front d.loose)

-- how many units pieces have: one for each, and one for each of their points
abbrev pub units_of_pieces : List Piece → ℕ
units_of_pieces pieces = sum_by (λ (p : Piece). 1 + length p.points) pieces

-- how many units the free parts have
abbrev pub units_left : ℕ → Desktop → ℕ
units_left front d = units_of_pieces (free_of front Role.Outer d) + units_of_pieces (free_of front Role.Inner d)

-- Behind the units of head and texts stand the parts.
pub record IsBench (front : ℕ) (d : Desktop) : Type 0 where
  pub few : length d.loose ≤ 16777216
  pub within : front ≤ length d.loose
  pub parts : AreMarked (drop front d.loose)

-- the units of the points of a part that was taken, and the part
abbrev pub units_taken : Taken → Desktop → List Unit16
units_taken part d = take part.points (drop part.at d.loose)

abbrev pub taken_piece : Taken → Desktop → Piece
taken_piece part d = record { number = part.number; points = points_in (units_taken part d) }

-- the other role
abbrev pub other : Role → Role
other Role.Outer = Role.Inner
other Role.Inner = Role.Outer

-- No part of the other role is taken, and the rest of the desk stays.
pub record Keeps (front : ℕ) (role : Role) (old new : Desktop) : Type 0 where
  pub bench : IsBench front new
  pub others : free_of front (other role) new ≡ free_of front (other role) old
  pub head : take front new.loose ≡ take front old.loose
  pub long : length new.loose ≡ length old.loose
  pub records : new.records ≡ old.records
  pub capacity : new.capacity ≡ old.capacity

-- the first of pieces, or the first that has an end, and the others
abbrev pub first_of : Option ℕ → List Piece → Option (Piece × List Piece)
first_of None [] = None
first_of None (p ∷ pieces) = Some (p, pieces)
first_of (Some end) pieces = take_first end pieces

-- a part that was taken
pub record IsTaken (end : Option ℕ) (front : ℕ) (role : Role) (part : Taken) (old new : Desktop) : Type 0 where
  pub keeps : Keeps front role old new
  pub within : part.at + part.points ≤ length new.loose
  pub first : first_of end (free_of front role old) ≡ Some (taken_piece part new, free_of front role new)

-- The first free part of a role that has an end is taken, where there is one. Else all is as before.
abbrev pub Takes : ℕ → Role → Option ℕ → Option Taken → Desktop → Desktop → Type 0
Takes front role end None old new = (new ≡ old) × (first_of end (free_of front role old) ≡ None)
Takes front role end (Some part) old new = IsTaken end front role part old new

-- the part whose unit stands at this place of the loose units is used up
abbrev pub UsesUp : ℕ → Desktop → Desktop → Type 0
UsesUp at old new = (state : State) (points : ℕ) (before after : List Unit16) → length before ≡ at
    → old.loose ≡ before ++ state_unit state points ∷ after
    → new ≡ record old { loose = before ++ state_unit State.used points ∷ after }
