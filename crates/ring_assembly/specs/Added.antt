-- What is added of a part to a ring. This project's own.
use Rattle.std.specs.Prelude.{ℕ, ◌==◌, List, drop, reverse, if◌then◌else◌}
use Rattle.feature_model.specs.Points.{Point}
use Rattle.feature_model.specs.Rings.{first_node, last_node}
use Rattle.mf_rows.specs.Units.{Unit16}
use Rattle.ring_assembly.specs.Marked.{points_in}

-- the units that are added of a part, without the joint point
abbrev pub added_units : ℕ → List Unit16 → List Unit16
added_units end units = drop 1 (if first_node (points_in units) == end then units else reverse units)

-- the node at which a ring ends once these points are added
abbrev pub other_end : ℕ → List Point → ℕ
other_end end points = if first_node points == end then last_node points else first_node points
