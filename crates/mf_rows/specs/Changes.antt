-- What the calls of a desk change in its last record. This project's own.
use Rattle.std.specs.Prelude.{◌≡◌, ℕ, ◌<◌, List, [], ◌∷◌, ◌++◌, length, Option, Some, None, ⊤}
use Rattle.mf_base.specs.declared.kind.EntityKind.{EntityKind}
use Rattle.mf_base.specs.declared.kind.Role.{Role}
use Rattle.feature_model.specs.Points.{Point, Part}
use Rattle.mf_rows.specs.Units.{shown_part}
use Rattle.mf_rows.specs.Records.{Record}
use Rattle.mf_rows.specs.Desks.{Desktop}

-- ---- the last of a list

-- a list whose last item is changed
abbrev pub change_last : {A : Type 0} → (A → A) → List A → List A
change_last f [] = []
change_last f (a ∷ []) = f a ∷ []
change_last f (a ∷ b ∷ more) = a ∷ change_last f (b ∷ more)

-- there is a last item, and it is so
abbrev pub LastIs : {A : Type 0} → (A → Type 0) → List A → Type 0
LastIs P [] = ⊥
LastIs P (a ∷ []) = P a
LastIs P (a ∷ b ∷ more) = LastIs P (b ∷ more)

-- ---- what is put to a record

-- a part with one point more
abbrev pub with_point : Point → Part → Part
with_point p part = record { role = part.role; points = part.points ++ p ∷ [] }

-- a record with one part more, which has no points yet
abbrev pub with_new_part : Role → Record → Record
with_new_part role r = record r { parts = r.parts ++ shown_part role [] ∷ [] }

-- a way has one part, which is outer, and a relation any number
abbrev pub TakesPart : Role → EntityKind → List Part → Type 0
TakesPart role EntityKind.Node parts = ⊥
TakesPart role EntityKind.Way parts = (role ≡ Role.Outer) × (parts ≡ [])
TakesPart role EntityKind.Relation parts = ⊤

-- a point is that of a node
abbrev pub spot_with : Point → EntityKind → Option Point → Option Point
spot_with p EntityKind.Node spot = Some p
spot_with p EntityKind.Way spot = spot
spot_with p EntityKind.Relation spot = spot

-- or else one more of the last part
abbrev pub parts_with : Point → EntityKind → List Part → List Part
parts_with p EntityKind.Node parts = parts
parts_with p EntityKind.Way parts = change_last (with_point p) parts
parts_with p EntityKind.Relation parts = change_last (with_point p) parts

-- a record with one point more
abbrev pub with_new_point : Point → Record → Record
with_new_point p r =
    record r { spot = spot_with p r.head.kind r.spot; parts = parts_with p r.head.kind r.parts }

-- a node has one point, and a way or a relation has points where it has a part
abbrev pub TakesPoint : EntityKind → Option Point → List Part → Type 0
TakesPoint EntityKind.Node spot parts = spot ≡ None
TakesPoint EntityKind.Way spot parts = 0 < length parts
TakesPoint EntityKind.Relation spot parts = 0 < length parts

-- a record with the number and the weight of its feature
abbrev pub with_feature : (number weight : ℕ) → Record → Record
with_feature n w r = record r { head = record r.head { number = n; weight = w } }

-- ---- the last record of a desk

-- a desk whose last record is changed
abbrev pub with_last : (Record → Record) → Desktop → Desktop
with_last f d = record d { records = change_last f d.records }
