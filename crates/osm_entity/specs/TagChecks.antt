-- The check of the indices of tags. This project's own.
use Rattle.std.specs.Prelude.{ℕ, ◌==◌, List, length, if◌then◌else◌}
use Rattle.osm_model.specs.declared.faults.EntityFault.{EntityFault}
use Rattle.osm_model.specs.declared.faults.EntityFault.TheVariants.{StringIndex, KeyWithoutValue}

-- the fault of keys and values, one of whose indices is none, before these others
abbrev pub bad_index : List ℕ → List ℕ → EntityFault
bad_index keys vals = if length keys == length vals then StringIndex else KeyWithoutValue
