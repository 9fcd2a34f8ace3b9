-- The parts of a relation while they are joined, told by their units: each is free, or it is used up. This project's
-- own.
use Rattle.std.specs.Prelude.{◌≡◌, ℕ, ◌+◌, Bool, true, false, ◌&&◌, ◌||◌, ◌==◌, List, [], ◌∷◌, ◌++◌, map, flat_map, length}
use Rattle.std.specs.Prelude.{Option, Some, None}
use Rattle.mf_base.specs.declared.kind.Role.{Role}
use Rattle.feature_model.specs.Points.{Point}
use Rattle.feature_model.specs.Rings.{Piece, first_node, last_node}
use Rattle.mf_rows.specs.Fields.{number, fields_bytes}
use Rattle.mf_rows.specs.Units.{Unit16, point_in, role_number}

-- a part is free under its role, or used up
pub data State : Type 0 where
  free : Role → State
  used : State

-- a part with the units of its points
pub record Marked : Type 0 where
  pub state : State
  pub units : List Unit16

-- the number of a state
abbrev pub state_number : State → ℕ
state_number (free role) = role_number role
state_number used = 2

-- the unit of a part: that of a free one is the unit of a part of its role
unfoldable pub state_unit : State → ℕ → Unit16
state_unit state points = fields_bytes (number 1 (state_number state) ∷ number 8 points ∷ number 7 0 ∷ [])

-- the units of a part
abbrev pub marked_units : Marked → List Unit16
marked_units m = state_unit m.state (length m.units) ∷ m.units

-- the units of parts, one after another
abbrev pub all_units : List Marked → List Unit16
all_units parts = flat_map marked_units parts

-- units are those of parts
abbrev pub AreMarked : List Unit16 → Type 0
AreMarked units = (parts : List Marked) × (units ≡ all_units parts)

-- units begin with those of this part
abbrev pub BeginsWith : List Unit16 → Marked → List Unit16 → Type 0
BeginsWith units m more = units ≡ marked_units m ++ more

-- the points of units
abbrev pub points_in : List Unit16 → List Point
points_in units = map point_in units

-- whether a part is free under a role
abbrev pub is_free : Role → State → Bool
is_free Role.Outer (free Role.Outer) = true
is_free Role.Inner (free Role.Inner) = true
is_free _ _ = false

-- whether points have this node at one of their ends, where one is asked for
abbrev pub has_end : Option ℕ → List Point → Bool
has_end None points = true
has_end (Some end) points = (first_node points == end) || (last_node points == end)

-- whether a part is looked for
abbrev pub suits : Role → Option ℕ → Marked → Bool
suits role end m = is_free role m.state && has_end end (points_in m.units)

-- what is told of a part in front of others: the number of its state, its points, and the units behind it
abbrev pub IsFront : Marked → List Marked → ℕ → List Unit16 → List Unit16 → Type 0
IsFront m more state points rest = (state ≡ state_number m.state) × (points ≡ m.units) × (rest ≡ all_units more)

-- a piece before others, where there is one
abbrev pub with_piece : Bool → Piece → List Piece → List Piece
with_piece true piece pieces = piece ∷ pieces
with_piece false piece pieces = pieces

-- the free parts of a role, each with its place
unfoldable pub free_pieces : Role → ℕ → List Marked → List Piece
free_pieces role n [] = []
free_pieces role n (m ∷ parts) =
    with_piece (is_free role m.state) (record { number = n; points = points_in m.units })
    (free_pieces role (n + 1) parts)

-- a part once it is used up
abbrev pub used_up : Marked → Marked
used_up m = record m { state = used }
