-- The points of the members of relations as rows, and the parts that they tell. This project's own.
use Rattle.std.specs.Prelude.{◌≡◌, ℕ, zero, suc, ◌-◌, pos, List, [], ◌∷◌, ◌++◌, map, filter_map, flat_map, length, take}
use Rattle.std.specs.Prelude.{replicate, Option, None}
use Rattle.std.specs.List.{enumerate_from}
use Rattle.mf_base.specs.declared.kind.Role.{Role}
use Rattle.osm_model.specs.Entities.{Entity, Relation, relations_of}
use Rattle.feature_model.specs.Mapping.{Mapping}
use Rattle.feature_model.specs.Points.{Point, Part, part_of}
use Rattle.mf_rows.specs.declared.kinds.MemberRow.{MemberRow}
use Rattle.mf_rows.specs.declared.kinds.PointRow.{PointRow}
use Rattle.mf_rows.specs.declared.kinds.RelRow.{RelRow}
use Rattle.spill_parts.specs.Handed.{IsInput, member_rows, candidate_relations}
use Rattle.row_runs.specs.Runs.{rows_with, run_keys}
use Rattle.way_points.specs.PointRows.{point_way, point_rows, point_told}

-- ---- the numbers by which rows are found

-- the id of the way of a member
abbrev pub member_way : MemberRow → ℕ
member_way m = m.way

-- the id of the relation of a point, and the place of its member
abbrev pub rel_relation : RelRow → ℕ
rel_relation r = r.relation

abbrev pub rel_member : RelRow → ℕ
rel_member r = r.member

-- ---- the points of members

-- the rows of the members of candidates and of the points of ways, of an accepted input
pub record AreMemberRows (mapping : Mapping) (entities : List Entity) (members : List MemberRow)
    (points : List PointRow) : Type 0 where
  pub input : IsInput entities
  pub members_are : members ≡ flat_map member_rows (candidate_relations mapping (relations_of entities))
  pub points_are : points ≡ point_rows entities

-- what stands for a point that was only counted
abbrev pub blank : Point
blank = record { node = 0; place = record { lat = pos 0; lon = pos 0 } }

-- The first points of a way, and for each further one a blank point.
abbrev pub held_points : (limit : ℕ) → List Point → List Point
held_points limit points = take limit points ++ replicate (length points - limit) blank

-- a point of a member, with its place among those of its way
abbrev pub rel_row_of : MemberRow → ℕ × Point → RelRow
rel_row_of m at = record {
  relation = m.relation;
  member = m.member;
  place = at.0;
  role = m.role;
  node = at.1.node;
  lat = at.1.place.lat;
  lon = at.1.place.lon;
}

-- the points of the way with this id
abbrev pub points_with : List PointRow → ℕ → List Point
points_with points way = map point_told (rows_with point_way way points)

-- the points of the way of a member as rows, by their places
abbrev pub member_point_rows : (limit : ℕ) → List Entity → MemberRow → List RelRow
member_point_rows limit entities m =
    map (rel_row_of m) (enumerate_from 0 (held_points limit (points_with (point_rows entities) m.way)))

-- those of the members of a relation, member after member
abbrev pub relation_point_rows : (limit : ℕ) → List Entity → Relation → List RelRow
relation_point_rows limit entities r = flat_map (member_point_rows limit entities) (member_rows r)

-- those of all relations that are candidates, relation after relation
abbrev pub rel_rows : (limit : ℕ) → Mapping → List Entity → List RelRow
rel_rows limit mapping entities =
    flat_map (relation_point_rows limit entities) (candidate_relations mapping (relations_of entities))

-- ---- the parts that they tell

-- the role of a number
abbrev pub role_told : ℕ → Role
role_told zero = Role.Outer
role_told (suc n) = Role.Inner

-- a row as a point
abbrev pub rel_told : RelRow → Point
rel_told r = record { node = r.node; place = record { lat = r.lat; lon = r.lon } }

-- the part that the rows of a member make, where it has two points: the first tells the role
abbrev pub part_of_run : List RelRow → Option Part
part_of_run [] = None
part_of_run (r ∷ rs) = part_of (role_told r.role) (map rel_told (r ∷ rs))

-- The parts that the rows of a relation make: at most one for each run of a member.
abbrev pub parts_of_rows : List RelRow → List Part
parts_of_rows rows = filter_map (λ k. part_of_run (rows_with rel_member k rows)) (run_keys rel_member rows)
