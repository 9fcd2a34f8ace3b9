-- What a reader of entities answers, in the words of the definitions. This project's own.
use Rattle.std.specs.Prelude.{List, Result, Ok, Err}
use Rattle.mf_base.specs.Steps.{◌>>=◌}
use Rattle.osm_model.specs.declared.faults.EntityFault.{EntityFault}
use Rattle.osm_model.specs.Entities.{Entity}
use Rattle.osm_model.specs.Objects.{Object}
use Rattle.osm_model.specs.Order.{entity_behind}

-- an answer, seen by what is told of it
abbrev pub answer_as : {A B F : Type 0} → (A → B) → Result A F → Result B F
answer_as tell (Ok x) = Ok (tell x)
answer_as tell (Err fault) = Err fault

-- the entity that an object is behind these entities, or the first fault of both
abbrev pub placed : List Entity → Result Object EntityFault → Result Entity EntityFault
placed before told = told >>= entity_behind before
