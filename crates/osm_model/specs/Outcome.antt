-- What an input comes to, blob by blob, for whoever reads it from front to back: this project's own.
use Rattle.std.specs.Prelude.{◌≡◌, ℕ, List, [], ◌++◌, filter_map, slice_get, Option, Some, None, option_map}
use Rattle.std.specs.Option.{option_or}
use Rattle.mf_base.specs.declared.place.Rect.{Rect}
use Rattle.osm_model.specs.declared.faults.InputFault.{InputFault}
use Rattle.osm_model.specs.Reading.{Reading}
use Rattle.osm_model.specs.Frames.{Content, Frame, FrameFaultAt, AreFrames}
use Rattle.osm_model.specs.Entities.{Entity}
use Rattle.osm_model.specs.Input.{content_entities, content_box, entities_of, sound_frames, as_input_fault, input_fault}
use Rattle.osm_model.specs.Input.{input_entities, input_box, AreSound}

-- The first fault, the entities before it, and the first box before it.
pub record Outcome : Type 0 where
  pub fault : Option InputFault
  pub entities : List Entity
  pub bounds : Option Rect

-- what an input comes to
abbrev pub input_outcome : List ℕ → Outcome
input_outcome bytes = record { fault = input_fault bytes; entities = input_entities bytes; bounds = input_box bytes }

-- the box of the first of the blobs that has one
abbrev pub first_box : List Frame → Option Rect
first_box fs = slice_get (filter_map (λ (f : Frame). content_box f.content) fs) 0

-- What blobs come to behind these entities, and then the end or the fault of bytes that begin with no blob.
unfoldable pub outcome_behind : List Entity → Reading Frame FrameFaultAt → Outcome
outcome_behind before read =
    let sound = sound_frames before read.items in
    record {
      fault = option_or sound.fault (option_map as_input_fault read.fault);
      entities = entities_of sound.items;
      bounds = first_box sound.items;
    }

-- nothing was left, and there was no fault
abbrev pub all_accepted : Outcome
all_accepted = record { fault = None; entities = []; bounds = None }

-- the fault stands here
abbrev pub refused_for : InputFault → Outcome
refused_for fault = record { fault = Some fault; entities = []; bounds = None }

-- what a blob without a fault holds, and then what those behind it come to
abbrev pub with_blob : Content → Outcome → Outcome
with_blob content rest = record {
  fault = rest.fault;
  entities = content_entities content ++ rest.entities;
  bounds = option_or (content_box content) rest.bounds;
}

-- The bytes are blobs without a fault, with these entities and this box.
pub record AreSoundBlobs (bytes : List ℕ) (entities : List Entity) (bounds : Option Rect) : Type 0 where
  pub blobs : List Frame
  pub spelled : AreFrames 0 bytes blobs
  pub sound : AreSound [] blobs
  pub told : entities_of blobs ≡ entities
  pub boxed : first_box blobs ≡ bounds
