-- The rows of one entity in six parts, by what is described of it. This project's own.
use Rattle.std.specs.Prelude.{List, [], ◌∷◌, ◌++◌, Option, Some, None}
use Rattle.osm_model.specs.Entities.{Node, Way, Relation}
use Rattle.feature_model.specs.Points.{point_of}
use Rattle.mf_rows.specs.Heads.{kind_number}
use Rattle.mf_rows.specs.Units.{point_unit}
use Rattle.mf_rows.specs.RecordUnits.{front_count}
use Rattle.mf_rows.specs.declared.kinds.FeatureRow.{FeatureRow}
use Rattle.spill_parts.specs.Handed.{node_row_of, ref_rows, member_rows, feature_row_of, SixParts}
use Rattle.mf_ingest.specs.declared.front.Described.{Described}
use Rattle.mf_ingest.specs.FrontRows.{front_of, front_rows}
use Rattle.mf_ingest.specs.Gathered.{no_rows}

-- the units of a node that is described: head and texts, and its point behind them
abbrev pub whole_rows : Node → Described → List FeatureRow
whole_rows n d = front_rows d
    ++ feature_row_of (kind_number d.head.kind) d.head.id (front_count (front_of d), point_unit (point_of n)) ∷ []

-- a node: its place, and its units
abbrev pub node_parts : Node → Option Described → SixParts
node_parts n None = record no_rows { places = node_row_of n ∷ [] }
node_parts n (Some d) = record no_rows { places = node_row_of n ∷ []; node_units = whole_rows n d }

-- a way: its refs, and its units
abbrev pub way_parts : Way → Option Described → SixParts
way_parts w None = record no_rows { refs = ref_rows w }
way_parts w (Some d) = record no_rows { refs = ref_rows w; way_units = front_rows d }

-- a relation: its members and its units, where it is described
abbrev pub relation_parts : Relation → Option Described → SixParts
relation_parts r None = no_rows
relation_parts r (Some d) = record no_rows { members = member_rows r; relation_units = front_rows d }
