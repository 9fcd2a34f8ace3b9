-- How many bytes entities take at least in the block that spells them. This project's own.
use Rattle.std.specs.Prelude.{ℕ, ◌+◌, List, [], ◌∷◌, length}
use Rattle.osm_model.specs.Entities.{Entity, node, way, relation}

-- the least size of an entity in bytes: one, and one more for each of its refs or members
abbrev pub entity_size : Entity → ℕ
entity_size (node n) = 1
entity_size (way w) = 1 + length w.refs
entity_size (relation r) = 1 + length r.members

-- the least size of entities in bytes
abbrev pub entities_size : List Entity → ℕ
entities_size [] = 0
entities_size (e ∷ entities) = entity_size e + entities_size entities
