-- The entities of an extract: the OpenStreetMap wiki, "PBF Format", on nodes, ways and relations.
use Rattle.std.specs.Prelude.{ℕ, ℤ, List, Option, Some, None, filter_map}
use Rattle.mf_base.specs.declared.place.Place.{Place}
use Rattle.mf_base.specs.declared.kind.EntityKind.{EntityKind}
use Rattle.mf_base.specs.Texts.{Text}
use Rattle.mf_base.specs.Tags.{Tags}
use Rattle.mf_base.specs.declared.kind.EntityKind.TheVariants as kinds

-- A member of a relation, with the id as it is written.
pub record Member : Type 0 where
  pub kind : EntityKind
  pub id : ℤ
  pub role : Text

-- A node, with its place in microdegrees.
pub record Node : Type 0 where
  pub id : ℕ
  pub place : Place
  pub tags : Tags

-- A way, with its refs as they are written.
pub record Way : Type 0 where
  pub id : ℕ
  pub refs : List ℤ
  pub tags : Tags

-- A relation, with its members in their order.
pub record Relation : Type 0 where
  pub id : ℕ
  pub members : List Member
  pub tags : Tags

-- An entity of the input.
pub data Entity : Type 0 where
  node : Node → Entity
  way : Way → Entity
  relation : Relation → Entity

-- the kind of an entity
abbrev pub kind_of : Entity → EntityKind
kind_of (node n) = kinds.Node
kind_of (way w) = kinds.Way
kind_of (relation r) = kinds.Relation

-- the id of an entity
abbrev pub id_of : Entity → ℕ
id_of (node n) = n.id
id_of (way w) = w.id
id_of (relation r) = r.id

-- the entity as a node, where it is one
abbrev pub as_node : Entity → Option Node
as_node (node n) = Some n
as_node _ = None

-- the entity as a way, where it is one
abbrev pub as_way : Entity → Option Way
as_way (way w) = Some w
as_way _ = None

-- the entity as a relation, where it is one
abbrev pub as_relation : Entity → Option Relation
as_relation (relation r) = Some r
as_relation _ = None

-- the nodes among the entities, in the same order
abbrev pub nodes_of : List Entity → List Node
nodes_of entities = filter_map as_node entities

-- the ways among the entities, in the same order
abbrev pub ways_of : List Entity → List Way
ways_of entities = filter_map as_way entities

-- the relations among the entities, in the same order
abbrev pub relations_of : List Entity → List Relation
relations_of entities = filter_map as_relation entities
