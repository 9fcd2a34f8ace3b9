-- What a pass over the entities of a whole extract tells of the bytes that it took. This project's own.
use Rattle.std.specs.Prelude.{◌≡◌, ◌⊎◌, ℕ, List, [], ◌∷◌, ◌++◌, length, Option, Some, None, Result, Ok, Err}
use Rattle.std.specs.Option.{option_or}
use Rattle.mf_base.specs.declared.place.Rect.{Rect}
use Rattle.mf_edge.specs.Device.{SourceState, IsAtEnd}
use Rattle.mf_edge.specs.Stream.{StreamState}
use Rattle.osm_model.specs.declared.faults.InputFault.{InputFault}
use Rattle.osm_model.specs.declared.faults.InputCode.TheVariants as input_codes
use Rattle.osm_model.specs.Frames.{Frame, LeadsTo, known_at}
use Rattle.osm_model.specs.Entities.{Entity}
use Rattle.osm_model.specs.Input.{input_fault, input_entities, input_box}
use Rattle.osm_model.specs.Outcome.{Outcome, input_outcome, outcome_behind}
use Rattle.pbf_frame.specs.declared.frame_fault.NextFault.{NextFault}
use Rattle.pbf_frame.specs.declared.frame_fault.NextFault.TheVariants as next_fault
use Rattle.pbf_frame.specs.FrameReading.{HasTaken}
use Rattle.extract_pass.specs.declared.fault.BlobStop.{BlobStop}
use Rattle.extract_pass.specs.declared.fault.BlobStop.TheVariants as blob_stop
use Rattle.extract_pass.specs.declared.fault.PassFault.{PassFault}
use Rattle.extract_pass.specs.declared.fault.PassFault.TheVariants as pass_fault
use Rattle.extract_pass.specs.BlobReading.{sound_entities}

-- ---- the blobs so far

-- what blobs come to of which the first have these entities and this box, by what the others come to
abbrev pub with_read : List Entity → Option Rect → Outcome → Outcome
with_read entities bounds rest = record {
  fault = rest.fault;
  entities = entities ++ rest.entities;
  bounds = option_or bounds rest.bounds;
}

-- The bytes are blobs without a fault, with these entities and this box: so much is known of an input that begins with
-- them, whatever follows.
abbrev pub AreRead : List ℕ → List Entity → Option Rect → Type 0
AreRead bytes entities bounds = (more : List ℕ)
    → input_outcome (bytes ++ more) ≡ with_read entities bounds (outcome_behind entities (known_at (length bytes) more))

-- Bytes were taken that are blobs without a fault, and this stands behind them.
abbrev pub HasRead : (List Entity → Option Rect → Type 0) → StreamState → StreamState → Type 0
HasRead Stands old new = HasTaken (λ bytes. (entities : List Entity) × (bounds : Option Rect) × Stands entities bounds
    × AreRead bytes entities bounds) old new

-- ---- which entities were handed on

-- Bytes at this offset, behind these entities, begin with a blob whose first entities are these.
pub record BeginWith (before : List Entity) (at : ℕ) (bytes : List ℕ) (entities : List Entity) : Type 0 where
  pub front : List ℕ
  pub more : List ℕ
  pub whole : bytes ≡ front ++ more
  pub blob : Frame
  pub leads : LeadsTo at front blob
  pub left : List Entity
  pub first : sound_entities before blob.content ≡ entities ++ left

-- The entities are those of blobs without a fault that the bytes begin with, and then none, or the first of the blob
-- behind those.
pub record WereHanded (bytes : List ℕ) (entities : List Entity) : Type 0 where
  pub front : List ℕ
  pub rest : List ℕ
  pub whole : bytes ≡ front ++ rest
  pub sound : input_fault front ≡ None
  pub more : List Entity
  pub told : entities ≡ input_entities front ++ more
  pub from : (more ≡ []) ⊎ BeginWith (input_entities front) (length front) rest more

-- The reader has read entities of the bytes.
abbrev pub HasHanded : (List Entity → Type 0) → List ℕ → Type 0
HasHanded Stands bytes = (entities : List Entity) × WereHanded bytes entities × Stands entities

-- The reader stopped at the last of the entities of the bytes that it was handed.
abbrev pub HasStopped : (List Entity → Entity → Type 0) → List ℕ → Type 0
HasStopped StoppedAt bytes =
    (entities : List Entity) × (e : Entity) × WereHanded bytes (entities ++ e ∷ []) × StoppedAt entities e

-- ---- the whole extract

-- the fault of a pass where no next blob was given
abbrev pub told_fault : NextFault → PassFault
told_fault next_fault.Read = pass_fault.Read
told_fault (next_fault.Frame at fault) = pass_fault.Input (record { at = at; code = input_codes.Frame fault })

-- the fault of a pass that ended in the blob that begins at this offset
abbrev pub told_stop : ℕ → BlobStop → PassFault
told_stop at (blob_stop.Fault code) = pass_fault.Input (record { at = at; code = code })
told_stop at blob_stop.Reader = pass_fault.Stopped

-- An input that begins with these bytes has this first fault, whatever follows them, or because the source ends behind
-- them.
abbrev pub HasInputFault : InputFault → SourceState → List ℕ → Type 0
HasInputFault fault source bytes = ((more : List ℕ) → input_fault (bytes ++ more) ≡ Some fault)
    ⊎ ((input_fault bytes ≡ Some fault) × IsAtEnd source)

-- The bytes are an accepted input with this box, and the reader has read its entities.
pub record IsAccepted (Stands : List Entity → Type 0) (bounds : Option Rect) (bytes : List ℕ) : Type 0 where
  pub sound : input_fault bytes ≡ None
  pub stands : Stands (input_entities bytes)
  pub boxed : input_box bytes ≡ bounds

-- Of the bytes that were taken: they are an accepted input, at whose end the source stands; or an input that begins with
-- them has this first fault, and the reader has read entities of them; or the reader stopped at one of their entities.
-- Where the source failed, the reader has read entities of the bytes that were taken before.
abbrev pub TellsPass : (List Entity → Type 0) → (List Entity → Entity → Type 0) → StreamState
    → Result (Option Rect) PassFault → StreamState → Type 0
TellsPass Stands StoppedAt old (Ok bounds) new =
    HasTaken (λ bytes. IsAccepted Stands bounds bytes × IsAtEnd new.source) old new
TellsPass Stands StoppedAt old (Err (pass_fault.Input fault)) new =
    HasTaken (λ bytes. HasInputFault fault new.source bytes × HasHanded Stands bytes) old new
TellsPass Stands StoppedAt old (Err pass_fault.Stopped) new = HasTaken (HasStopped StoppedAt) old new
TellsPass Stands StoppedAt old (Err pass_fault.Read) new = (mid : StreamState) × HasTaken (HasHanded Stands) old mid

-- The same of all bytes of a source that tells them.
abbrev pub TellsPassOf : (List Entity → Type 0) → (List Entity → Entity → Type 0) → List ℕ
    → Result (Option Rect) PassFault → Type 0
TellsPassOf Stands StoppedAt all (Ok bounds) = IsAccepted Stands bounds all
TellsPassOf Stands StoppedAt all (Err (pass_fault.Input fault)) =
    (input_fault all ≡ Some fault) × HasHanded Stands all
TellsPassOf Stands StoppedAt all (Err pass_fault.Stopped) = HasStopped StoppedAt all
TellsPassOf Stands StoppedAt all (Err pass_fault.Read) = HasHanded Stands all
