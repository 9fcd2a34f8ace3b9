-- What the types and calls of this crate stand for, in the words of the definitions.
use Rattle.std.specs.Prelude.{◌≡◌, ◌⊎◌, nat_le, Option, Some, None, Result, Err, if◌then◌else◌}
use Rattle.feature_model.specs.declared.fault.MappingFault.{MappingFault}
use Rattle.feature_model.specs.Mapping.{Entry}
use Rattle.tag_mapping.specs.declared.told.Told.{Told}

-- the entry that is told
abbrev pub told_shown : Told → Entry
told_shown told =
    record { key = told.key.now; value = told.value.now; zoom = told.zoom; water = told.water; label = told.label }

-- The fault is the one that is told, or memory is wanting.
abbrev pub IsFaultOf : {A : Type 0} → Result A MappingFault → MappingFault → Type 0
IsFaultOf {A} told fault = (fault ≡ MappingFault.Memory) ⊎ (told ≡ Err fault)

-- the entry, where its zoom level is one
abbrev pub of_a_zoom : Entry → Option Entry
of_a_zoom e = if nat_le e.zoom 21 then Some e else None
