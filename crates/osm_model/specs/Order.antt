-- The order of the entities of an input: this project's profile of the OpenStreetMap wiki, "PBF Format", on sorted
-- files.
use Rattle.std.specs.Prelude.{◌≡◌, ◌<◌, ◌≤◌, ℕ, Bool, ◌==◌, nat_lt, if◌then◌else◌, List, [], ◌∷◌, ◌++◌, map, filter}
use Rattle.std.specs.Prelude.{Option, Some, None, unwrap_or, Result, Ok, Err, ℤ, pos, int_le}
use Rattle.std.specs.List.{list_any, last_or, All, AllPairs}
use Rattle.mf_base.specs.Steps.{◌>>=◌, refuse}
use Rattle.mf_base.specs.declared.kind.EntityKind.{EntityKind}
use Rattle.mf_base.specs.declared.kind.EntityKind.TheVariants as kinds
use Rattle.osm_model.specs.declared.faults.EntityFault.{EntityFault}
use Rattle.osm_model.specs.declared.faults.EntityFault.TheVariants.{KindOrder, OutOfOrder}
use Rattle.osm_model.specs.Reading.{Reading, all_read, stops_at, then_reads}
use Rattle.osm_model.specs.Entities.{Entity, kind_of, id_of}
use Rattle.osm_model.specs.Objects.{Object}

-- the order of kinds: nodes, then ways, then relations
abbrev pub rank : EntityKind → ℕ
rank kinds.Node = 0
rank kinds.Way = 1
rank kinds.Relation = 2

-- some of the entities is of a kind that comes after this one
abbrev pub has_later_kind : EntityKind → List Entity → Bool
has_later_kind kind entities = list_any (λ e. nat_lt (rank kind) (rank (kind_of e))) entities

-- the ids of the entities of this kind, in the same order
abbrev pub ids_of : EntityKind → List Entity → List ℕ
ids_of kind entities = map id_of (filter (λ e. rank (kind_of e) == rank kind) entities)

-- the id of the last entity of this kind, and 0 where there is none
abbrev pub last_id : EntityKind → List Entity → ℕ
last_id kind entities = unwrap_or (last_or None (ids_of kind entities)) 0

-- The fault of an object of this kind and id behind these entities.
abbrev pub order_fault : List Entity → EntityKind → ℤ → Option EntityFault
order_fault before kind id =
    if has_later_kind kind before then Some KindOrder
    else (if int_le id (pos (last_id kind before)) then Some (OutOfOrder (last_id kind before) id) else None)

-- what an object is behind these entities, or its first fault
abbrev pub entity_behind : List Entity → Object → Result Entity EntityFault
entity_behind before object = do
  _ ← refuse (order_fault before object.kind object.id)
  object.entity

-- The entities of objects that stand in order, behind those before them, up to the first fault.
unfoldable pub in_order : List Entity → List (Result Object EntityFault) → Reading Entity EntityFault
in_order before [] = all_read
in_order before (Err fault ∷ others) = stops_at fault
in_order before (Ok object ∷ others) =
    elim (entity_behind before object) [
      | Ok e ↦ then_reads e (in_order (before ++ e ∷ []) others)
      | Err fault ↦ stops_at fault
    ]

-- the kind and the id of an entity
abbrev pub kind_and_id : Entity → EntityKind × ℕ
kind_and_id e = (kind_of e, id_of e)

-- The first kind and id may stand before the second: the kind is no later one, and where both are of one kind the id is
-- smaller.
abbrev pub Precedes : EntityKind × ℕ → EntityKind × ℕ → Type 0
Precedes a b = (rank a.0 ≤ rank b.0) × (a.0 ≡ b.0 → a.1 < b.1)

-- Of any two items, by the kind and the id that they tell, the first may stand before the second.
abbrev pub AreInOrder : {A : Type 0} → (A → EntityKind × ℕ) → List A → Type 0
AreInOrder tells xs = AllPairs (λ a b. Precedes (tells a) (tells b)) xs

-- Each id is above 0, and the entities are in order.
abbrev pub IsRising : List Entity → Type 0
IsRising es = All (λ e. 0 < id_of e) es × AreInOrder kind_and_id es
