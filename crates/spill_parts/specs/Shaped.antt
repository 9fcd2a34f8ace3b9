-- The features of an input as the rows of a part: this project's profile.
use Rattle.std.specs.Prelude.{◌≡◌, ℕ, ◌^◌, ◌<◌, ◌≤◌, List, [], ◌∷◌, map, flat_map, length, sum_by, Some, None}
use Rattle.std.specs.List.{enumerate_from, range_with_len, AllByRecursion}
use Rattle.osm_model.specs.Entities.{Entity, nodes_of, ways_of, relations_of}
use Rattle.feature_model.specs.Mapping.{Mapping}
use Rattle.feature_model.specs.Descriptions.{entries_for}
use Rattle.feature_model.specs.Features.{Feature, features, skipped}
use Rattle.feature_model.specs.Limits.{candidate_fault, largest_candidate}
use Rattle.feature_model.specs.Proper.{IsProper, IsOfInput}
use Rattle.mf_rows.specs.Kinds.{shape_kind}
use Rattle.mf_rows.specs.Units.{Unit16}
use Rattle.mf_rows.specs.Records.{Record}
use Rattle.mf_rows.specs.RecordUnits.{record_in}
use Rattle.mf_rows.specs.Shapes.{IsFeature, feature_told}
use Rattle.mf_rows.specs.declared.kinds.ShapeRow.{ShapeRow}
use Rattle.spill_parts.specs.Parts.{Piece, piece_of}
use Rattle.spill_parts.specs.declared.handed.Shapes.{Shapes}

-- a record, and units that spell it
pub record Spelled : Type 0 where
  pub told : Record
  pub units : List Unit16
  pub spells : record_in units ≡ Some told

-- a unit of a feature with its place as a row
abbrev pub shape_row_of : (number : ℕ) → ℕ × Unit16 → ShapeRow
shape_row_of number at = record { number = number; place = at.0; unit = at.1 }

-- the units of a feature as rows, by their places
abbrev pub shape_rows : Spelled → List ShapeRow
shape_rows s = map (shape_row_of s.told.head.number) (enumerate_from 0 s.units)

-- A feature with at most as many units as it weighs, and which weighs no more than the limit.
pub record IsLight (limit : ℕ) (s : Spelled) : Type 0 where
  pub feature : IsFeature s.told
  pub units : length s.units ≤ s.told.head.weight
  pub weight : s.told.head.weight ≤ limit

-- The rows spell these features, by their numbers, which count from 0. Each weighs no more than the limit, and all of
-- them together less than 2^63.
pub record AreShapes (limit : ℕ) (list : List Feature) (rows : List ShapeRow) : Type 0 where
  pub spelled : List Spelled
  pub rows_are : rows ≡ flat_map shape_rows spelled
  pub shows : map (λ (s : Spelled). feature_told s.told) spelled ≡ list
  pub numbers : map (λ (s : Spelled). s.told.head.number) spelled ≡ range_with_len 0 (length list)
  pub each : AllByRecursion (IsLight limit) spelled
  pub light : sum_by (λ (f : Feature). f.weight) list < 2 ^ 63

-- a feature that tiles can have: it is proper, of an accepted input
abbrev pub IsShown : Mapping → Feature → Type 0
IsShown mapping f = IsProper (entries_for mapping f.kind) f × IsOfInput f

-- The features of these entities: no candidate passes the limit, and the counts and the part are theirs.
pub record IsShapeOf (limit : ℕ) (mapping : Mapping) (entities : List Entity) (found : Shapes) : Type 0 where
  pub no_fault : candidate_fault limit mapping entities ≡ None
  pub node_count : found.nodes ≡ length (nodes_of entities)
  pub way_count : found.ways ≡ length (ways_of entities)
  pub relation_count : found.relations ≡ length (relations_of entities)
  pub count : found.features ≡ length (features mapping entities)
  pub without : found.skipped ≡ skipped mapping entities
  pub greatest : found.largest ≡ largest_candidate mapping entities
  pub shapes : AreShapes limit (features mapping entities) found.shapes.rows
  pub shown : AllByRecursion (IsShown mapping) (features mapping entities)

-- the part as bytes
abbrev pub shapes_pieces : Shapes → List Piece
shapes_pieces found = piece_of shape_kind found.shapes ∷ []
