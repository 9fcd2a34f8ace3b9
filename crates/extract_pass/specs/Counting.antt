-- How many entities there are of each kind, and what a count of a whole extract tells. This project's own.
use Rattle.std.specs.Prelude.{◌≡◌, ℕ, List, length, Option, Some, None, Result, Ok, Err, ⊤}
use Rattle.mf_base.specs.declared.place.Rect.{Rect}
use Rattle.mf_edge.specs.Device.{IsAtEnd}
use Rattle.mf_edge.specs.Stream.{StreamState}
use Rattle.osm_model.specs.Entities.{Entity, nodes_of, ways_of, relations_of}
use Rattle.osm_model.specs.Input.{input_fault, input_entities, known_box}
use Rattle.pbf_frame.specs.FrameReading.{HasTaken}
use Rattle.extract_pass.specs.declared.counts.Counts.{Counts}
use Rattle.extract_pass.specs.declared.count.Counted.{Counted}
use Rattle.extract_pass.specs.declared.fault.PassFault.{PassFault}
use Rattle.extract_pass.specs.declared.fault.PassFault.TheVariants as pass_fault
use Rattle.extract_pass.specs.EntityPass.{HasInputFault}

-- the counts of entities
abbrev pub counts_of : List Entity → Counts
counts_of entities = record {
  nodes = length (nodes_of entities);
  ways = length (ways_of entities);
  relations = length (relations_of entities);
}

-- These entities were counted, whatever the counts were at first.
abbrev pub HasCounted : Counts → Counts → List Entity → Type 0
HasCounted first now entities = now ≡ counts_of entities

-- A count stops at no entity.
abbrev pub NeverStops : Counts → Counts → List Entity → Entity → Type 0
NeverStops first now before e = ⊥

-- The bytes are an accepted input, with these counts, and with this box where the words have this one.
pub record AreCounted (words : Option Rect) (counted : Counted) (bytes : List ℕ) : Type 0 where
  pub sound : input_fault bytes ≡ None
  pub counts : counted.counts ≡ counts_of (input_entities bytes)
  pub bounds : counted.bounds ≡ known_box words bytes

-- Of the bytes that were taken: they are an accepted input, at whose end the source stands, and were counted; or an input
-- that begins with them has this first fault. Where the source failed nothing is said.
abbrev pub TellsCount : Option Rect → StreamState → Result Counted PassFault → StreamState → Type 0
TellsCount words old (Ok counted) new =
    HasTaken (λ bytes. AreCounted words counted bytes × IsAtEnd new.source) old new
TellsCount words old (Err (pass_fault.Input fault)) new = HasTaken (HasInputFault fault new.source) old new
TellsCount words old (Err pass_fault.Stopped) new = ⊥
TellsCount words old (Err pass_fault.Read) new = ⊤

-- The same of all bytes of a source that tells them.
abbrev pub TellsCountOf : Option Rect → List ℕ → Result Counted PassFault → Type 0
TellsCountOf words all (Ok counted) = AreCounted words counted all
TellsCountOf words all (Err (pass_fault.Input fault)) = input_fault all ≡ Some fault
TellsCountOf words all (Err pass_fault.Stopped) = ⊥
TellsCountOf words all (Err pass_fault.Read) = ⊤
