-- What a cursor over refs lends. This project's own.
use Rattle.std.specs.Prelude.{ℤ, List, Result, Ok}
use Rattle.std.specs.List.{list_all}
use Rattle.mf_base.specs.Steps.{◌>>=◌, require}
use Rattle.mf_base.specs.Ranges.{is_signed_64}
use Rattle.osm_model.specs.declared.faults.EntityFault.{EntityFault}
use Rattle.osm_model.specs.declared.faults.EntityFault.TheVariants.{Range}
use Rattle.osm_entity.specs.Sums.{sums_in}
use Rattle.osm_entity.specs.declared.refs.RefCursor.{RefCursor}

-- the refs that are left to be given
abbrev pub refs_left : RefCursor → List ℤ
refs_left cursor = sums_in cursor.sum cursor.rest.now

-- refs that are numbers of signed 64 bits, or the fault of one that is not
abbrev pub checked_refs : List ℤ → Result (List ℤ) EntityFault
checked_refs refs = do
  _ ← require (list_all is_signed_64 refs) Range
  Ok refs
