-- The points of ways as rows, and the numbers by which rows are found. This project's own.
use Rattle.std.specs.Prelude.{◌≡◌, ◌⊎◌, ◌<◌, ℕ, List, map, flat_map}
use Rattle.osm_model.specs.Entities.{Entity, Way, nodes_of, ways_of}
use Rattle.feature_model.specs.Points.{Point, numbered_points}
use Rattle.mf_rows.specs.declared.kinds.NodeRow.{NodeRow}
use Rattle.mf_rows.specs.declared.kinds.RefRow.{RefRow}
use Rattle.mf_rows.specs.declared.kinds.PointRow.{PointRow}
use Rattle.spill_parts.specs.Handed.{IsInput, node_row_of, ref_rows}

-- ---- the numbers by which rows are found

-- the id of a node
abbrev pub node_id : NodeRow → ℕ
node_id n = n.node

-- the id of the node that a ref names
abbrev pub ref_node : RefRow → ℕ
ref_node r = r.node

-- the id of the way of a point
abbrev pub point_way : PointRow → ℕ
point_way p = p.way

-- a ref with its node
abbrev pub point_joined : RefRow → NodeRow → PointRow
point_joined r n = record { way = r.way; place = r.place; node = n.node; lat = n.lat; lon = n.lon }

-- ---- the points of ways

-- the rows of the nodes and of the refs of an accepted input
pub record AreInputRows (entities : List Entity) (nodes : List NodeRow) (refs : List RefRow) : Type 0 where
  pub input : IsInput entities
  pub nodes_are : nodes ≡ map node_row_of (nodes_of entities)
  pub refs_are : refs ≡ flat_map ref_rows (ways_of entities)

-- a point of a way as a row, with the place of its ref
abbrev pub point_row_of : (way_id : ℕ) → ℕ × Point → PointRow
point_row_of way_id at =
    record { way = way_id; place = at.0; node = at.1.node; lat = at.1.place.lat; lon = at.1.place.lon }

-- the points of a way as rows, in the order of its refs
abbrev pub way_point_rows : List Entity → Way → List PointRow
way_point_rows entities w = map (point_row_of w.id) (numbered_points entities w)

-- the points of all ways, way after way
abbrev pub point_rows : List Entity → List PointRow
point_rows entities = flat_map (way_point_rows entities) (ways_of entities)

-- a row as a point
abbrev pub point_told : PointRow → Point
point_told p = record { node = p.node; place = record { lat = p.lat; lon = p.lon } }

-- a point before another: that of an earlier way, or of an earlier place of the same way
abbrev pub IsPointBelow : PointRow → PointRow → Type 0
IsPointBelow p q = (p.way < q.way) ⊎ ((p.way ≡ q.way) × (p.place < q.place))
