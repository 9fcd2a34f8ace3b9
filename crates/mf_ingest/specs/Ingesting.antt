-- What was put to a store of the entities so far. This project's own.
use Rattle.std.specs.Prelude.{◌≡◌, ℕ, ◌+◌, ◌≤◌, List, [], ◌∷◌, ◌++◌}
use Rattle.mf_edge.specs.Device.{CountsOne}
use Rattle.mf_edge.specs.Spill.{SpillState, SameStore, part_limit}
use Rattle.osm_model.specs.Entities.{Entity}
use Rattle.extract_pass.specs.Counting.{counts_of}
use Rattle.spill_parts.specs.Parts.{HasJust}
use Rattle.mf_ingest.specs.Gathered.{gathered_pieces, gathered_rows, no_rows, HasPut, HaveGrown, most_bytes}
use Rattle.mf_ingest.specs.declared.ingester.Ingester.{Ingester}

-- how many bytes entities take at most in each part
abbrev pub most_of : List Entity → ℕ
most_of [] = 0
most_of (e ∷ entities) = most_bytes e + most_of entities

-- how many bytes each byte of an input comes to at most in each part
abbrev pub most_per_byte : ℕ
most_per_byte = 65536

-- What holds of the store whatever is answered: it has as many parts as at first, and it is overrun only where these
-- entities can pass the limit of a part.
pub record KeepsIngest {P : Type 0} (state : P → SpillState) (first now : Ingester P) (entities : List Entity)
    : Type 0 where
  pub same_mapping : now.mapping.now ≡ first.mapping.now
  pub same_reference : now.spill.ghost_name ≡ first.spill.ghost_name
  pub same : SameStore (state first.spill.now) (state now.spill.now)
  pub count : (state now.spill.now).count ≡ (state first.spill.now).count
  pub within : most_of entities ≤ part_limit → (state now.spill.now).is_overrun ≡ (state first.spill.now).is_overrun

-- The rows of these entities were put to the parts, which had none and are all parts of the store, and the entities were
-- counted.
pub record HasIngested {P : Type 0} (state : P → SpillState) (first now : Ingester P) (entities : List Entity)
    : Type 0 where
  pub kept : KeepsIngest state first now entities
  pub empty : gathered_rows first.parts ≡ no_rows
  pub put : HasPut first.mapping.now entities first.parts now.parts
  pub grown : HaveGrown (most_of entities) first.parts now.parts
  pub counts : now.counts ≡ counts_of entities
  pub just : HasJust (gathered_pieces now.parts) (state now.spill.now)
  pub same_faults : (state now.spill.now).faults ≡ (state first.spill.now).faults

-- The store failed at an entity behind these.
pub record HasFailed {P : Type 0} (state : P → SpillState) (first now : Ingester P) (before : List Entity) (e : Entity)
    : Type 0 where
  pub kept : KeepsIngest state first now (before ++ e ∷ [])
  pub failed : CountsOne (state first.spill.now).faults (state now.spill.now).faults
