-- What an ingest tells of the bytes that it took. This project's own.
use Rattle.std.specs.Prelude.{◌≡◌, ◌≤◌, ℕ, List, length, Some, None, Result, Ok, Err, ⊤}
use Rattle.std.specs.List.{AllByRecursion}
use Rattle.mf_edge.specs.Device.{IsAtEnd}
use Rattle.mf_edge.specs.Spill.{part_limit}
use Rattle.mf_edge.specs.Stream.{StreamState}
use Rattle.osm_model.specs.Entities.{Entity, nodes_of, ways_of, relations_of}
use Rattle.osm_model.specs.Input.{input_fault, input_entities, input_box}
use Rattle.feature_model.specs.Mapping.{Mapping}
use Rattle.pbf_frame.specs.FrameReading.{HasTaken}
use Rattle.extract_pass.specs.declared.fault.PassFault.{PassFault}
use Rattle.extract_pass.specs.declared.fault.PassFault.TheVariants as pass_fault
use Rattle.extract_pass.specs.EntityPass.{HasInputFault, WereHanded}
use Rattle.spill_parts.specs.Parts.{Piece}
use Rattle.spill_parts.specs.Handed.{AreRowsOf, ingested_rows}
use Rattle.spill_parts.specs.declared.handed.Ingested.{Ingested}
use Rattle.mf_ingest.specs.Ingesting.{most_of}
use Rattle.mf_ingest.specs.declared.ingest.IngestFault.{IngestFault}
use Rattle.mf_ingest.specs.declared.ingest.IngestFault.TheVariants as ingest_fault

-- the fault of a pass whose reader stops only where the store fails
abbrev pub told_pass : PassFault → IngestFault
told_pass (pass_fault.Input fault) = ingest_fault.Input fault
told_pass pass_fault.Read = ingest_fault.Read
told_pass pass_fault.Stopped = ingest_fault.Spill

-- The bytes are an accepted input, and the counts, the box and the parts are those of its entities.
pub record AreIngested (mapping : Mapping) (found : Ingested) (bytes : List ℕ) : Type 0 where
  pub sound : input_fault bytes ≡ None
  pub node_count : found.nodes ≡ length (nodes_of (input_entities bytes))
  pub way_count : found.ways ≡ length (ways_of (input_entities bytes))
  pub relation_count : found.relations ≡ length (relations_of (input_entities bytes))
  pub boxed : found.bounds ≡ input_box bytes
  pub rows : AreRowsOf mapping (input_entities bytes) (ingested_rows found)

-- Of the bytes that were taken: they are an accepted input, at whose end the source stands, and its entities were put; or
-- an input that begins with them has this first fault. Where a device failed nothing is said.
abbrev pub TellsIngest : Mapping → StreamState → Result Ingested IngestFault → StreamState → Type 0
TellsIngest mapping old (Ok found) new =
    HasTaken (λ bytes. AreIngested mapping found bytes × IsAtEnd new.source) old new
TellsIngest mapping old (Err (ingest_fault.Input fault)) new = HasTaken (HasInputFault fault new.source) old new
TellsIngest mapping old (Err ingest_fault.Read) new = ⊤
TellsIngest mapping old (Err ingest_fault.Spill) new = ⊤

-- The same of all bytes of a source that tells them.
abbrev pub TellsIngestOf : Mapping → List ℕ → Result Ingested IngestFault → Type 0
TellsIngestOf mapping all (Ok found) = AreIngested mapping found all
TellsIngestOf mapping all (Err (ingest_fault.Input fault)) = input_fault all ≡ Some fault
TellsIngestOf mapping all (Err ingest_fault.Read) = ⊤
TellsIngestOf mapping all (Err ingest_fault.Spill) = ⊤

-- Of these bytes, all entities that a pass can have handed on fit into a part.
abbrev pub HasSmallParts : List ℕ → Type 0
HasSmallParts bytes = (entities : List Entity) → WereHanded bytes entities → most_of entities ≤ part_limit

-- no part has more bytes
abbrev pub AreWithin : ℕ → List Piece → Type 0
AreWithin most pieces = AllByRecursion (λ (p : Piece). p.size ≤ most) pieces
