-- What the parts that one pass hands to the next say of the entities of an input: this project's profile.
use Rattle.std.specs.Prelude.{◌≡◌, ℕ, zero, suc, ℤ, pos, negsuc, List, [], ◌∷◌, map, filter, flat_map, filter_map}
use Rattle.std.specs.Prelude.{length, is_some, Option, Some, None, option_map, option_and_then, ⊤}
use Rattle.std.specs.List.{enumerate_from}
use Rattle.mf_base.specs.declared.kind.EntityKind.{EntityKind}
use Rattle.mf_base.specs.declared.kind.Role.{Role}
use Rattle.osm_model.specs.Entities.{Entity, Node, Way, Member, Relation, node, way, relation, nodes_of, ways_of}
use Rattle.osm_model.specs.Entities.{relations_of}
use Rattle.osm_model.specs.Input.{input_fault, input_entities}
use Rattle.feature_model.specs.Mapping.{Mapping}
use Rattle.feature_model.specs.Points.{Point, point_of, role_of}
use Rattle.feature_model.specs.Descriptions.{description}
use Rattle.mf_rows.specs.Kinds.{node_kind, ref_kind, member_kind, feature_kind}
use Rattle.mf_rows.specs.Heads.{kind_number}
use Rattle.mf_rows.specs.Units.{Unit16, role_number}
use Rattle.mf_rows.specs.Records.{Record, description_told}
use Rattle.mf_rows.specs.RecordUnits.{units_of, record_in}
use Rattle.mf_rows.specs.declared.kinds.NodeRow.{NodeRow}
use Rattle.mf_rows.specs.declared.kinds.RefRow.{RefRow}
use Rattle.mf_rows.specs.declared.kinds.MemberRow.{MemberRow}
use Rattle.mf_rows.specs.declared.kinds.FeatureRow.{FeatureRow}
use Rattle.spill_parts.specs.Parts.{Piece, piece_of}
use Rattle.spill_parts.specs.declared.handed.Ingested.{Ingested}

-- ---- nodes, refs and members

-- a node as a row
abbrev pub node_row_of : Node → NodeRow
node_row_of n = record { node = n.id; lat = n.place.lat; lon = n.place.lon }

-- the id that a ref, or the id of a member, may be; what is below 1 is the id of nothing
abbrev pub id_told : ℤ → Option ℕ
id_told (pos zero) = None
id_told (pos (suc n)) = Some (suc n)
id_told (negsuc n) = None

-- a ref with its place as a row, where it may be the id of a node
abbrev pub ref_row_of : (way_id : ℕ) → ℕ × ℤ → Option RefRow
ref_row_of way_id at = option_map (λ id. record { node = id; way = way_id; place = at.0 }) (id_told at.1)

-- the refs of a way as rows; their places count all its refs
abbrev pub ref_rows : Way → List RefRow
ref_rows w = filter_map (ref_row_of w.id) (enumerate_from 0 w.refs)

-- the role of a member that may be a part: it is a way, and its role is one of the three
abbrev pub part_role : Member → Option Role
part_role m = elim m.kind [ EntityKind.Way ↦ role_of m.role | _ ↦ None ]

-- a member with its place as a row, where it may be a part and its id that of a way
abbrev pub member_row_of : (relation_id : ℕ) → ℕ × Member → Option MemberRow
member_row_of relation_id at = option_and_then (λ role. option_map
    (λ id. record { way = id; relation = relation_id; member = at.0; role = role_number role }) (id_told at.1.id))
    (part_role at.1)

-- the members of a relation as rows; their places count all its members
abbrev pub member_rows : Relation → List MemberRow
member_rows r = filter_map (member_row_of r.id) (enumerate_from 0 r.members)

-- the relations that are candidates
abbrev pub candidate_relations : Mapping → List Relation → List Relation
candidate_relations mapping relations = filter (λ r. is_some (description mapping (relation r))) relations

-- ---- units of candidates

-- the point of a node; other entities have none
abbrev pub spot_of : Entity → Option Point
spot_of (node n) = Some (point_of n)
spot_of (way w) = None
spot_of (relation r) = None

-- The record of a candidate tells what its tags tell, and the point of a node, but no parts. It has no number and no
-- weight yet, and its units spell it.
pub record IsRecordOf (mapping : Mapping) (e : Entity) (r : Record) : Type 0 where
  pub described : description mapping e ≡ Some (description_told r.head r.texts)
  pub spot_is : r.spot ≡ spot_of e
  pub no_parts : r.parts ≡ []
  pub no_number : r.head.number ≡ 0
  pub no_weight : r.head.weight ≡ 0
  pub whole : record_in (units_of r) ≡ Some r

-- these are the records of these entities, one after another
abbrev pub AreRecordsOf : Mapping → List Entity → List Record → Type 0
AreRecordsOf mapping [] [] = ⊤
AreRecordsOf mapping [] (r ∷ records) = ⊥
AreRecordsOf mapping (e ∷ entities) [] = ⊥
AreRecordsOf mapping (e ∷ entities) (r ∷ records) = IsRecordOf mapping e r × AreRecordsOf mapping entities records

-- a unit with its place as a row
abbrev pub feature_row_of : (kind id : ℕ) → ℕ × Unit16 → FeatureRow
feature_row_of kind id at = record { kind = kind; id = id; place = at.0; unit = at.1 }

-- the units of a record as rows, by their places
abbrev pub record_rows : Record → List FeatureRow
record_rows r = map (feature_row_of (kind_number r.head.kind) r.head.id) (enumerate_from 0 (units_of r))

-- the entities that are candidates
abbrev pub candidates_in : Mapping → List Entity → List Entity
candidates_in mapping entities = filter (λ e. is_some (description mapping e)) entities

-- The rows spell the candidates among these entities, one after another.
pub record AreCandidates (mapping : Mapping) (entities : List Entity) (rows : List FeatureRow) : Type 0 where
  pub records : List Record
  pub told : AreRecordsOf mapping (candidates_in mapping entities) records
  pub spelled : rows ≡ flat_map record_rows records

-- ---- all of an input

-- The rows of six parts.
pub record SixParts : Type 0 where
  pub places : List NodeRow
  pub refs : List RefRow
  pub members : List MemberRow
  pub node_units : List FeatureRow
  pub way_units : List FeatureRow
  pub relation_units : List FeatureRow

-- The rows are the nodes, the refs and the candidates among these entities, and the members of its candidates that are
-- relations, each in their order.
pub record AreRowsOf (mapping : Mapping) (entities : List Entity) (rows : SixParts) : Type 0 where
  pub nodes_are : rows.places ≡ map node_row_of (nodes_of entities)
  pub refs_are : rows.refs ≡ flat_map ref_rows (ways_of entities)
  pub members_are : rows.members ≡ flat_map member_rows (candidate_relations mapping (relations_of entities))
  pub node_candidates : AreCandidates mapping (map node (nodes_of entities)) rows.node_units
  pub way_candidates : AreCandidates mapping (map way (ways_of entities)) rows.way_units
  pub relation_candidates : AreCandidates mapping (map relation (relations_of entities)) rows.relation_units

-- the rows of the parts
abbrev pub ingested_rows : Ingested → SixParts
ingested_rows found = record {
  places = found.places.rows;
  refs = found.refs.rows;
  members = found.members.rows;
  node_units = found.node_units.rows;
  way_units = found.way_units.rows;
  relation_units = found.relation_units.rows;
}

-- The entities of an input that is accepted.
pub record IsInput (entities : List Entity) : Type 0 where
  pub input : List ℕ
  pub accepted : input_fault input ≡ None
  pub all : entities ≡ input_entities input

-- The counts and the parts are those of these entities of an accepted input.
pub record IsIngested (mapping : Mapping) (entities : List Entity) (found : Ingested) : Type 0 where
  pub input : IsInput entities
  pub node_count : found.nodes ≡ length (nodes_of entities)
  pub way_count : found.ways ≡ length (ways_of entities)
  pub relation_count : found.relations ≡ length (relations_of entities)
  pub rows : AreRowsOf mapping entities (ingested_rows found)

-- the parts as bytes
abbrev pub ingested_pieces : Ingested → List Piece
ingested_pieces found = piece_of node_kind found.places ∷ piece_of ref_kind found.refs
    ∷ piece_of member_kind found.members ∷ piece_of feature_kind found.node_units
    ∷ piece_of feature_kind found.way_units ∷ piece_of feature_kind found.relation_units ∷ []
