-- A way as it is lent from a block. This project's own.
use Rattle.std.specs.Prelude.{ℕ, List}
use Rattle.mf_base.specs.TagCursor.{block_of, all_tags}
use Rattle.osm_model.specs.Entities.{Way, Entity, way}
use Rattle.osm_entity.specs.Refs.{refs_left}
use Rattle.osm_entity.specs.declared.way.WayView.{WayView}

-- the way that is lent
abbrev pub way_shown : WayView → Way
way_shown v = record { id = v.id; refs = refs_left v.refs; tags = all_tags v.tags }

-- the same as an entity
abbrev pub way_told : WayView → Entity
way_told v = way (way_shown v)

-- the block that a way is lent from
abbrev pub way_block : WayView → List ℕ
way_block v = block_of v.tags
