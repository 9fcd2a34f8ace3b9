-- What a reader of entities and a pass over one blob tell. This project's own.
use Rattle.std.specs.Prelude.{◌≡◌, ℕ, List, [], ◌∷◌, ◌++◌, Option, Some, None, option_map, Result, Ok, Err}
use Rattle.std.specs.Option.{option_or}
use Rattle.mf_base.specs.declared.place.Rect.{Rect}
use Rattle.osm_model.specs.declared.faults.EntityFault.{EntityFault}
use Rattle.osm_model.specs.declared.faults.InputCode.{InputCode}
use Rattle.osm_model.specs.declared.faults.InputCode.TheVariants as input_codes
use Rattle.osm_model.specs.Reading.{Reading}
use Rattle.osm_model.specs.Frames.{Content, header, primitive, unread}
use Rattle.osm_model.specs.Blocks.{block}
use Rattle.osm_model.specs.Entities.{Entity}
use Rattle.osm_model.specs.Objects.{block_objects}
use Rattle.osm_model.specs.Order.{in_order}
use Rattle.osm_model.specs.Input.{content_fault, content_entities, content_box}
use Rattle.osm_entity.specs.Order.{StandsBehind}
use Rattle.osm_entity.specs.declared.order.Order.{Order}
use Rattle.extract_pass.specs.declared.fault.BlobStop.{BlobStop}
use Rattle.extract_pass.specs.declared.fault.BlobStop.TheVariants as blob_stop
use Rattle.extract_pass.specs.declared.reader.Stopped.{Stopped}

-- ---- one entity

-- The reader has read this entity behind those before it, or it stopped at it.
abbrev pub AnswersEntity : {A : Type 0} → (List Entity → Type 0) → (List Entity → Entity → Type 0) → List Entity
    → Entity → Result A Stopped → Type 0
AnswersEntity Stands StoppedAt before e (Ok x) = Stands (before ++ e ∷ [])
AnswersEntity Stands StoppedAt before e (Err stop) = StoppedAt before e

-- The reader stopped at one of these entities, behind those before it.
abbrev pub StoppedAmong : (List Entity → Entity → Type 0) → List Entity → List Entity → Type 0
StoppedAmong StoppedAt before entities =
    (given : List Entity) × (e : Entity) × (left : List Entity) × (entities ≡ given ++ e ∷ left)
    × StoppedAt (before ++ given) e

-- ---- the objects of a block

-- What was read of a block behind the entities before it: all its entities, the order is that behind them, and there was
-- no fault; or those before its first fault; or the reader stopped at one of them.
abbrev pub ReadsObjects : {A : Type 0} → (List Entity → Type 0) → (List Entity → Entity → Type 0) → List Entity
    → Reading Entity EntityFault → Result A BlobStop → Order → Type 0
ReadsObjects Stands StoppedAt before read (Ok x) order =
    (read.fault ≡ None) × StandsBehind (before ++ read.items) order × Stands (before ++ read.items)
ReadsObjects Stands StoppedAt before read (Err (blob_stop.Fault code)) order =
    (option_map input_codes.Entity read.fault ≡ Some code) × Stands (before ++ read.items)
ReadsObjects Stands StoppedAt before read (Err blob_stop.Reader) order = StoppedAmong StoppedAt before read.items

-- ---- a blob

-- the entities of a PrimitiveBlock before its first fault behind these entities
unfoldable pub sound_in : List Entity → List ℕ → List Entity
sound_in before raw =
    elim (block raw) [ Ok in_block ↦ (in_order before (block_objects in_block)).items | Err fault ↦ [] ]

-- the entities of what a blob holds before its first fault behind these entities
abbrev pub sound_entities : List Entity → Content → List Entity
sound_entities before (header raw) = []
sound_entities before (primitive raw) = sound_in before raw
sound_entities before (unread kind) = []

-- What was kept of a blob without entities behind these entities and this box, or its fault.
abbrev pub NotesBlob : {A : Type 0} → (List Entity → Option Rect → Type 0) → List Entity → Option Rect → Content
    → Result A InputCode → Type 0
NotesBlob Behind entities bounds content (Ok x) =
    (content_fault entities content ≡ None)
    × Behind (entities ++ content_entities content) (option_or bounds (content_box content))
NotesBlob Behind entities bounds content (Err code) = content_fault entities content ≡ Some code

-- What was read of a blob behind these entities and this box: all its entities, and there was no fault; or those before
-- its first fault; or the reader stopped at one of them.
abbrev pub ReadsBlob : {A : Type 0} → (List Entity → Option Rect → Type 0) → (List Entity → Type 0)
    → (List Entity → Entity → Type 0) → List Entity → Option Rect → Content → Result A BlobStop → Type 0
ReadsBlob Behind Stands StoppedAt entities bounds content (Ok x) =
    (content_fault entities content ≡ None)
    × Behind (entities ++ content_entities content) (option_or bounds (content_box content))
    × Stands (entities ++ content_entities content)
ReadsBlob Behind Stands StoppedAt entities bounds content (Err (blob_stop.Fault code)) =
    (content_fault entities content ≡ Some code) × Stands (entities ++ sound_entities entities content)
ReadsBlob Behind Stands StoppedAt entities bounds content (Err blob_stop.Reader) =
    StoppedAmong StoppedAt entities (sound_entities entities content)
