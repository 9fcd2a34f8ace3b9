-- A node that is lent, in the words of the definitions. This project's own.
use Rattle.std.specs.Prelude.{ℕ, ℤ, nat_abs, List, Option, option_map, ok_or, Result, Ok}
use Rattle.mf_base.specs.Spelling.{unzigzag_of}
use Rattle.mf_base.specs.Tags.{Tags}
use Rattle.mf_base.specs.TagCursor.{all_tags, block_of}
use Rattle.mf_base.specs.Steps.{◌>>=◌, refuse}
use Rattle.mf_base.specs.declared.place.Place.{Place}
use Rattle.mf_base.specs.declared.kind.EntityKind.TheVariants as kinds
use Rattle.osm_model.specs.declared.faults.EntityFault.{EntityFault}
use Rattle.osm_model.specs.declared.faults.EntityFault.TheVariants.{Missing}
use Rattle.osm_model.specs.Blocks.{BlockHead, PrimitiveBlock}
use Rattle.osm_model.specs.Objects.{Object, node_of, indexed_tags}
use Rattle.osm_model.specs.Entities.{Node, Entity, node}
use Rattle.osm_model.specs.Order.{order_fault}
use Rattle.osm_entity.specs.Place.{checked_place}
use Rattle.osm_entity.specs.declared.node_view.NodeView.{NodeView}

-- the node that is lent
abbrev pub node_shown : NodeView → Node
node_shown view = record { id = view.id; place = view.place; tags = all_tags view.tags }

-- the same as an entity
abbrev pub node_told : NodeView → Entity
node_told view = node (node_shown view)

-- the block from which it is lent
abbrev pub node_block : NodeView → List ℕ
node_block view = block_of view.tags

-- the id and the place of a node behind these entities, or the first fault before its tags
abbrev pub node_front : List Entity → BlockHead → ℤ → ℤ → ℤ → Result (ℕ × Place) EntityFault
node_front before head id lat lon = do
  _ ← refuse (order_fault before kinds.Node id)
  place ← checked_place head lat lon
  Ok (nat_abs id, place)

-- the node of this id, of these stored numbers and of these tags
abbrev pub node_at : PrimitiveBlock → ℤ → ℤ → ℤ → Result Tags EntityFault → Object
node_at in_block id lat lon tags =
    record { kind = kinds.Node; id = id; entity = node_of in_block.head id lat lon tags }

-- the number of a sint64, which must be there
abbrev pub sint64_stored : Option ℕ → Result ℤ EntityFault
sint64_stored n = ok_or (option_map unzigzag_of n) Missing

-- the node of numbers as they are stored and of indices of keys and values
abbrev pub stored_object : PrimitiveBlock → Option ℕ → Option ℕ → Option ℕ → List ℕ → List ℕ
    → Result Object EntityFault
stored_object in_block id lat lon keys vals = do
  i ← sint64_stored id
  y ← sint64_stored lat
  x ← sint64_stored lon
  Ok (node_at in_block i y x (indexed_tags in_block.strings keys vals))
