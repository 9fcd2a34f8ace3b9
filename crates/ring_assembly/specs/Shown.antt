-- Parts told by their units, as the parts that a record shows. This project's own.
use Rattle.std.specs.Prelude.{◌≡◌, List}
use Rattle.std.specs.List.{AllByRecursion}
use Rattle.mf_base.specs.declared.kind.Role.{Role}
use Rattle.feature_model.specs.Points.{Part}
use Rattle.ring_assembly.specs.Marked.{State, free, used, Marked, points_in}

-- the role of a part that is free, and of one that is used up the role outer
abbrev pub role_shown : State → Role
role_shown (free role) = role
role_shown used = Role.Outer

-- a part with its points
abbrev pub part_shown : Marked → Part
part_shown m = record { role = role_shown m.state; points = points_in m.units }

-- each of these parts is free
abbrev pub AreFree : List Marked → Type 0
AreFree parts = AllByRecursion (λ (m : Marked). m.state ≡ free (role_shown m.state)) parts
