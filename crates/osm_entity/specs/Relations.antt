-- A relation as it is lent from a block. This project's own.
use Rattle.std.specs.Prelude.{ℕ, List}
use Rattle.mf_base.specs.TagCursor.{block_of, all_tags}
use Rattle.osm_model.specs.Entities.{Relation, Entity, relation}
use Rattle.osm_entity.specs.Members.{members_left}
use Rattle.osm_entity.specs.declared.relation.RelationView.{RelationView}

-- the relation that is lent
abbrev pub relation_shown : RelationView → Relation
relation_shown v = record { id = v.id; members = members_left v.members; tags = all_tags v.tags }

-- the same as an entity
abbrev pub relation_told : RelationView → Entity
relation_told v = relation (relation_shown v)

-- the block that a relation is lent from
abbrev pub relation_block : RelationView → List ℕ
relation_block v = block_of v.tags
