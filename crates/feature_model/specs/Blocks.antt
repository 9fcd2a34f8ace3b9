-- The blocks that the rings of a relation make: this project's profile.
use Rattle.std.specs.Prelude.{◌==◌, position, Option, Some, None, ℕ, Bool, true, false, not, List, [], ◌∷◌, map, filter}
use Rattle.std.specs.Prelude.{flat_map, Result, Ok, Err, if◌then◌else◌}
use Rattle.std.specs.List.{enumerate_from}
use Rattle.mf_base.specs.declared.kind.Role.{Role}
use Rattle.feature_model.specs.declared.fault.RingFault.{RingFault}
use Rattle.feature_model.specs.Points.{Point, Part}
use Rattle.feature_model.specs.Rings.{Piece, Joined, rings}
use Rattle.feature_model.specs.Inside.{Ring, inside}

-- A block of rings that were joined: an outer ring, and then its inner rings.
abbrev pub JoinedBlock : Type 0
JoinedBlock = List (List Point)

-- the places of points
abbrev pub places : List Point → Ring
places points = map (λ (p : Point). p.place) points

-- whether the first point of a ring is inside an outer ring
abbrev pub begins_inside : List Point → List Point → Bool
begins_inside outer [] = false
begins_inside outer (p ∷ ring) = inside (places outer ∷ []) p.place

-- One block for each outer ring, in order. An inner ring follows in the block of the first outer ring that has its
-- first point inside, and one without such a ring is left out.
unfoldable pub blocks_of : List (List Point) → List (List Point) → List JoinedBlock
blocks_of [] inner = []
blocks_of (o ∷ outer) inner =
    (o ∷ filter (begins_inside o) inner) ∷ blocks_of outer (filter (λ ring. not (begins_inside o ring)) inner)

-- the same told by homes: the place of the first outer ring that has a ring's first point inside
abbrev pub home : List (List Point) → List Point → Option ℕ
home outer ring = position (λ o. begins_inside o ring) outer

-- whether this place is a home
abbrev pub is_home : ℕ → Option ℕ → Bool
is_home n None = false
is_home n (Some m) = m == n

-- whether a role is that of outer parts
abbrev pub is_outer : Role → Bool
is_outer Role.Outer = true
is_outer Role.Inner = false

-- whether a part has this role
abbrev pub has_role : Role → Part → Bool
has_role Role.Outer part = is_outer part.role
has_role Role.Inner part = not (is_outer part.role)

-- the parts of a role, each with its place among all parts
abbrev pub pieces_of : Role → List Part → List Piece
pieces_of role all =
    map (λ (p : ℕ × Part). record { number = p.0; points = p.1.points })
    (filter (λ (p : ℕ × Part). has_role role p.1) (enumerate_from 0 all))

-- The blocks of outer and inner rings, where none of them is open; the outer parts are joined first
abbrev pub blocks_joined : Joined → Joined → Result (List JoinedBlock) RingFault
blocks_joined (Err start) inner = Err (RingFault.OpenRing start)
blocks_joined (Ok outer) (Err start) = Err (RingFault.OpenRing start)
blocks_joined (Ok outer) (Ok inner) = Ok (blocks_of outer inner)

-- The blocks of a relation's parts, or why there are none.
unfoldable pub relation_blocks : List Part → Result (List JoinedBlock) RingFault
relation_blocks all = elim (pieces_of Role.Outer all) [
  | [] ↦ Err RingFault.NoOuter
  | first ∷ outer ↦ blocks_joined (rings (first ∷ outer)) (rings (pieces_of Role.Inner all))
]

-- the rings of a block as parts: the first has the role outer, and the others have the role inner
abbrev pub block_parts : JoinedBlock → List Part
block_parts [] = []
block_parts (outer ∷ inner) =
    record { role = Role.Outer; points = outer } ∷ map (λ ring. record { role = Role.Inner; points = ring }) inner

-- The parts that stand in the place of a relation's parts once its rings are joined: the rings of its blocks, in order.
abbrev pub joined_parts : List JoinedBlock → List Part
joined_parts found = flat_map block_parts found

-- the inner parts up to the next outer one
abbrev pub inner_before : List Part → List (List Point)
inner_before [] = []
inner_before (part ∷ more) = if is_outer part.role then [] else part.points ∷ inner_before more

-- The blocks that parts make which stand so: a part of role outer begins a block, and the inner ones after it follow.
unfoldable pub blocks_in : List Part → List JoinedBlock
blocks_in [] = []
blocks_in (part ∷ more) =
    if is_outer part.role then (part.points ∷ inner_before more) ∷ blocks_in more else blocks_in more
