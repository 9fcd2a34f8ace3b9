-- The id of an object that stands next: the OpenStreetMap wiki, "PBF Format", on Way and Relation. The order in which
-- faults are looked for is this project's profile.
use Rattle.std.specs.Prelude.{ℕ, ℤ, List, nat_abs, Option, option_map, ok_or, Result, Ok}
use Rattle.mf_base.specs.declared.kind.EntityKind.{EntityKind}
use Rattle.mf_base.specs.Steps.{◌>>=◌, refuse}
use Rattle.osm_model.specs.declared.faults.EntityFault.{EntityFault}
use Rattle.osm_model.specs.declared.faults.EntityFault.TheVariants.{Missing}
use Rattle.osm_model.specs.Wire.{int64}
use Rattle.osm_model.specs.Entities.{Entity}
use Rattle.osm_model.specs.Order.{order_fault}

-- the id of an object of this kind behind these entities, or its fault
abbrev pub id_behind : List Entity → EntityKind → ℤ → Result ℕ EntityFault
id_behind before kind id = do
  _ ← refuse (order_fault before kind id)
  Ok (nat_abs id)

-- the same by the number of the field of its id, an int64 that must be there
abbrev pub placed_id : List Entity → EntityKind → Option ℕ → Result ℕ EntityFault
placed_id before kind number = do
  id ← ok_or (option_map int64 number) Missing
  id_behind before kind id
