-- The order of the entities that were given, as it is kept. This project's own.
use Rattle.std.specs.Prelude.{◌≡◌, ℕ, nat_lt, List}
use Rattle.mf_base.specs.declared.kind.EntityKind.{EntityKind}
use Rattle.mf_base.specs.declared.kind.EntityKind.TheVariants.{Node, Way, Relation}
use Rattle.osm_model.specs.Entities.{Entity}
use Rattle.osm_model.specs.Order.{rank, has_later_kind, last_id}
use Rattle.osm_entity.specs.declared.order.Order.{Order}

-- the last id of this kind
abbrev pub kept_id : Order → EntityKind → ℕ
kept_id order Node = order.node
kept_id order Way = order.way
kept_id order Relation = order.relation

-- The order is that behind these entities: no kind after the last, and of each kind the last id.
pub record StandsBehind (before : List Entity) (order : Order) : Type 0 where
  pub kinds : (kind : EntityKind) → has_later_kind kind before ≡ nat_lt (rank kind) (rank order.kind)
  pub ids : (kind : EntityKind) → last_id kind before ≡ kept_id order kind
