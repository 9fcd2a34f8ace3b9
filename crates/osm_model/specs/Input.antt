-- What a whole input spells: its first fault, its entities and its box. This project's profile of the OpenStreetMap
-- wiki, "PBF Format".
use Rattle.std.specs.Prelude.{◌≡◌, ◌≢◌, ℕ, List, [], ◌∷◌, ◌++◌, length, flat_map, filter_map, slice_get, unwrap_or}
use Rattle.std.specs.Prelude.{Option, Some, None, option_map, Ok, Err, ⊤}
use Rattle.std.specs.Option.{option_or}
use Rattle.mf_base.specs.declared.place.Rect.{Rect}
use Rattle.mf_base.specs.Steps.{fault_of, answer_of}
use Rattle.osm_model.specs.declared.faults.InputCode.{InputCode}
use Rattle.osm_model.specs.declared.faults.InputFault.{InputFault}
use Rattle.osm_model.specs.declared.faults.InputCode.TheVariants as input_codes
use Rattle.osm_model.specs.Reading.{Reading, all_read, stops_at, then_reads}
use Rattle.osm_model.specs.Frames.{Content, header, primitive, unread, Frame, FrameFaultAt, AreFrames, frame_front}
use Rattle.osm_model.specs.Frames.{frames}
use Rattle.osm_model.specs.Blocks.{header_box, block}
use Rattle.osm_model.specs.Entities.{Entity}
use Rattle.osm_model.specs.Objects.{block_objects, block_entities}
use Rattle.osm_model.specs.Order.{in_order}

-- the first fault of a PrimitiveBlock behind these entities
unfoldable pub block_fault : List Entity → List ℕ → Option InputCode
block_fault before raw =
    elim (block raw) [
      | Ok in_block ↦ option_map input_codes.Entity (in_order before (block_objects in_block)).fault
      | Err fault ↦ Some (input_codes.Block fault)
    ]

-- the first fault of what a blob holds, behind these entities
abbrev pub content_fault : List Entity → Content → Option InputCode
content_fault before (header raw) = option_map input_codes.Block (fault_of (header_box raw))
content_fault before (primitive raw) = block_fault before raw
content_fault before (unread kind) = None

-- the entities of a PrimitiveBlock, in the order of the bytes
unfoldable pub entities_in : List ℕ → List Entity
entities_in raw = elim (block raw) [ Ok in_block ↦ block_entities in_block | Err fault ↦ [] ]

-- the entities of what a blob holds
abbrev pub content_entities : Content → List Entity
content_entities (header raw) = []
content_entities (primitive raw) = entities_in raw
content_entities (unread kind) = []

-- the entities of blobs, in the order of the bytes
abbrev pub entities_of : List Frame → List Entity
entities_of fs = flat_map (λ (f : Frame). content_entities f.content) fs

-- the box of what a blob holds: that of a HeaderBlock with a bbox
abbrev pub content_box : Content → Option Rect
content_box (header raw) = unwrap_or (answer_of (header_box raw)) None
content_box (primitive raw) = None
content_box (unread kind) = None

-- The blobs whose content has no fault behind these entities and those of the blobs before it, up to the first fault.
unfoldable pub sound_frames : List Entity → List Frame → Reading Frame InputFault
sound_frames before [] = all_read
sound_frames before (f ∷ fs) =
    elim (content_fault before f.content) [
      | None ↦ then_reads f (sound_frames (before ++ content_entities f.content) fs)
      | Some code ↦ stops_at (record { at = f.at; code = code })
    ]

-- the longest list of blobs without a fault that the bytes begin with
unfoldable pub good_frames : List ℕ → List Frame
good_frames bytes = (sound_frames [] (frames bytes).items).items

-- a fault of a blob as one of the input
abbrev pub as_input_fault : FrameFaultAt → InputFault
as_input_fault told = record { at = told.at; code = input_codes.Frame told.fault }

-- The first fault of an input: None exactly where it is accepted.
unfoldable pub input_fault : List ℕ → Option InputFault
input_fault bytes =
    let read = frames bytes in
    option_or (sound_frames [] read.items).fault (option_map as_input_fault read.fault)

-- The entities of an input, in the order of the bytes.
unfoldable pub input_entities : List ℕ → List Entity
input_entities bytes = entities_of (good_frames bytes)

-- The box that an input gives: that of the first header with one.
unfoldable pub input_box : List ℕ → Option Rect
input_box bytes = slice_get (filter_map (λ (f : Frame). content_box f.content) (good_frames bytes)) 0

-- The box of the words, or else that of the input.
abbrev pub known_box : Option Rect → List ℕ → Option Rect
known_box words bytes = option_or words (input_box bytes)

-- Blobs whose content has no fault behind these entities and those of the blobs before it.
abbrev pub AreSound : List Entity → List Frame → Type 0
AreSound before [] = ⊤
AreSound before (f ∷ fs) = (content_fault before f.content ≡ None) × AreSound (before ++ content_entities f.content) fs

-- the first step that bytes at this offset break, behind these entities
abbrev pub first_step : List Entity → ℕ → List ℕ → Option InputCode
first_step before at bytes =
    elim (frame_front at bytes) [ Ok found ↦ content_fault before found.0 | Err fault ↦ Some (input_codes.Frame fault) ]

-- Nothing is left, or bytes at this offset that break a step behind these entities.
abbrev pub InputEnds : List Entity → ℕ → List ℕ → Option InputFault → Type 0
InputEnds before at rest None = rest ≡ []
InputEnds before at rest (Some fault) = (rest ≢ []) × (fault.at ≡ at) × (first_step before at rest ≡ Some fault.code)

-- The input is blobs without a fault, and then nothing, or bytes that break a step.
pub record ReadsInput (bytes : List ℕ) (good : List Frame) (fault : Option InputFault) : Type 0 where
  pub front : List ℕ
  pub rest : List ℕ
  pub whole : bytes ≡ front ++ rest
  pub spelled : AreFrames 0 front good
  pub sound : AreSound [] good
  pub ended : InputEnds (entities_of good) (length front) rest fault
