-- What was gathered of entities so far, in six parts. This project's own.
use Rattle.std.specs.Prelude.{◌≡◌, ℕ, ◌+◌, ◌*◌, ◌^◌, ◌<◌, ◌≤◌, ⊤, List, [], ◌∷◌, ◌++◌, length}
use Rattle.mf_edge.specs.Spill.{SpillState, SameStore, part_limit}
use Rattle.osm_model.specs.Entities.{Entity, node, way, relation}
use Rattle.feature_model.specs.Mapping.{Mapping}
use Rattle.mf_rows.specs.Kinds.{node_kind, ref_kind, member_kind, feature_kind}
use Rattle.mf_rows.specs.RowKinds.{Kind}
use Rattle.mf_rows.specs.declared.kinds.NodeRow.{NodeRow}
use Rattle.mf_rows.specs.declared.kinds.RefRow.{RefRow}
use Rattle.mf_rows.specs.declared.kinds.MemberRow.{MemberRow}
use Rattle.mf_rows.specs.declared.kinds.FeatureRow.{FeatureRow}
use Rattle.spill_parts.specs.Parts.{Part, Piece, piece_of}
use Rattle.spill_parts.specs.Handed.{SixParts, AreRowsOf}

-- Six parts: the places of nodes, the refs, the members, and the units of candidates.
pub record Gathered : Type 0 where
  pub places : Part NodeRow
  pub refs : Part RefRow
  pub members : Part MemberRow
  pub node_units : Part FeatureRow
  pub way_units : Part FeatureRow
  pub relation_units : Part FeatureRow

-- the parts as bytes
abbrev pub gathered_pieces : Gathered → List Piece
gathered_pieces g = piece_of node_kind g.places ∷ piece_of ref_kind g.refs ∷ piece_of member_kind g.members
    ∷ piece_of feature_kind g.node_units ∷ piece_of feature_kind g.way_units
    ∷ piece_of feature_kind g.relation_units ∷ []

-- the rows of the parts
abbrev pub gathered_rows : Gathered → SixParts
gathered_rows g = record {
  places = g.places.rows;
  refs = g.refs.rows;
  members = g.members.rows;
  node_units = g.node_units.rows;
  way_units = g.way_units.rows;
  relation_units = g.relation_units.rows;
}

-- rows behind others, in each part
abbrev pub rows_behind : SixParts → SixParts → SixParts
rows_behind a b = record {
  places = a.places ++ b.places;
  refs = a.refs ++ b.refs;
  members = a.members ++ b.members;
  node_units = a.node_units ++ b.node_units;
  way_units = a.way_units ++ b.way_units;
  relation_units = a.relation_units ++ b.relation_units;
}

-- no rows
abbrev pub no_rows : SixParts
no_rows = record { places = []; refs = []; members = []; node_units = []; way_units = []; relation_units = [] }

-- The rows of these entities were put, each behind the rows that were there.
pub record HasPut (mapping : Mapping) (entities : List Entity) (old new : Gathered) : Type 0 where
  pub more : SixParts
  pub rows : AreRowsOf mapping entities more
  pub behind : gathered_rows new ≡ rows_behind (gathered_rows old) more

-- ---- how much is put

-- an entity has fewer than 2^32 refs or members
abbrev pub HasFew : Entity → Type 0
HasFew (node n) = ⊤
HasFew (way w) = length w.refs < 2 ^ 32
HasFew (relation r) = length r.members < 2 ^ 32

-- an entity takes at most so many bytes in each part: its refs or members, and the units of a candidate
abbrev pub most_bytes : Entity → ℕ
most_bytes (node n) = 65536
most_bytes (way w) = 65536 + 20 * length w.refs
most_bytes (relation r) = 65536 + 21 * length r.members

-- a part with so many bytes more is within its limit
abbrev pub HasSpace : {K : Type 0} → ℕ → Kind K → Part K → Type 0
HasSpace more kind p = kind.width * length p.rows + more ≤ part_limit

-- The parts have space for so many bytes more in each.
pub record HaveSpace (more : ℕ) (g : Gathered) : Type 0 where
  pub places : HasSpace more node_kind g.places
  pub refs : HasSpace more ref_kind g.refs
  pub members : HasSpace more member_kind g.members
  pub node_units : HasSpace more feature_kind g.node_units
  pub way_units : HasSpace more feature_kind g.way_units
  pub relation_units : HasSpace more feature_kind g.relation_units

-- a part has at most so many bytes more than it had
abbrev pub HasGrown : {K : Type 0} → ℕ → Kind K → Part K → Part K → Type 0
HasGrown more kind p p_now = kind.width * length p_now.rows ≤ kind.width * length p.rows + more

-- The parts have at most so many bytes more, in each, than they had.
pub record HaveGrown (more : ℕ) (old new : Gathered) : Type 0 where
  pub places : HasGrown more node_kind old.places new.places
  pub refs : HasGrown more ref_kind old.refs new.refs
  pub members : HasGrown more member_kind old.members new.members
  pub node_units : HasGrown more feature_kind old.node_units new.node_units
  pub way_units : HasGrown more feature_kind old.way_units new.way_units
  pub relation_units : HasGrown more feature_kind old.relation_units new.relation_units

-- ---- the store

-- What holds of the store whatever is answered: it has as many parts as before, and it is overrun only where one of
-- them had no space for so many bytes more.
pub record KeepsStore (more : ℕ) (g : Gathered) (before after : SpillState) : Type 0 where
  pub same : SameStore before after
  pub count : after.count ≡ before.count
  pub counts : before.faults ≤ after.faults
  pub within : HaveSpace more g → after.is_overrun ≡ before.is_overrun
