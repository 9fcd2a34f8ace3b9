-- The feature that a record of a desk is, once its rings are joined: this project's own.
use Rattle.std.specs.Prelude.{◌≡◌, ◌≤◌, pos, List, [], ◌∷◌, length, Option, Some, None, IsSome, IsTrue}
use Rattle.std.specs.List.{AllByRecursion}
use Rattle.mf_base.specs.declared.place.Place.{Place}
use Rattle.mf_base.specs.declared.kind.EntityKind.{EntityKind}
use Rattle.feature_model.specs.Points.{Point, Part}
use Rattle.feature_model.specs.Blocks.{is_outer, blocks_in}
use Rattle.feature_model.specs.Features.{Shape, drawn_blocks, Feature, feature_of}
use Rattle.mf_rows.specs.Units.{Unit16}
use Rattle.mf_rows.specs.Records.{Record, candidate_told, spot_in, drawn_parts}

-- the place of a point, and (0, 0) where there is none yet
abbrev pub spot_place : Option Point → Place
spot_place None = record { lat = pos 0; lon = pos 0 }
spot_place (Some p) = p.place

-- what is drawn of a kind: a node's place, or the blocks that the parts make
abbrev pub drawn_of : EntityKind → Option Point → List Part → Shape
drawn_of EntityKind.Node spot all = Shape.point (spot_place spot)
drawn_of EntityKind.Way spot all = drawn_blocks (blocks_in all)
drawn_of EntityKind.Relation spot all = drawn_blocks (blocks_in all)

-- what is drawn of a record
abbrev pub shape_told : Record → Shape
shape_told r = drawn_of r.head.kind r.spot r.parts

-- The feature that a record is. Its weight is that of its head, since its rings may be fewer than its parts were.
unfoldable pub feature_told : Record → Feature
feature_told r = record (feature_of (candidate_told r, shape_told r)) { weight = r.head.weight }

-- a ring has at least two points
abbrev pub IsRing : Part → Type 0
IsRing part = 2 ≤ length part.points

-- parts are rings, of which the first is outer
abbrev pub AreRings : List Part → Type 0
AreRings [] = ⊥
AreRings (first ∷ more) = IsTrue (is_outer first.role) × AllByRecursion IsRing (first ∷ more)

-- what a feature of a kind has: a node its point, any other its rings
abbrev pub HasShape : EntityKind → Option Point → List Part → Type 0
HasShape EntityKind.Node spot all = IsSome spot
HasShape EntityKind.Way spot all = AreRings all
HasShape EntityKind.Relation spot all = AreRings all

-- A record is a feature: a node with its point, or rings of which the first is outer and each has at least two points.
abbrev pub IsFeature : Record → Type 0
IsFeature r = HasShape r.head.kind r.spot r.parts

-- units draw a feature of a kind: they spell its point, or its rings
abbrev pub DrawsFeature : EntityKind → List Unit16 → Type 0
DrawsFeature kind units = (all : List Part) × (drawn_parts kind units ≡ Some all)
    × HasShape kind (spot_in kind units) all
