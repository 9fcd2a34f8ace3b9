-- What the steps of reading one blob tell of the bytes that they took from a source. This project's own.
use Rattle.std.specs.Prelude.{◌≡◌, ◌⊎◌, ℕ, ◌+◌, ◌<◌, ◌≤◌, List, [], ◌∷◌, length, slice_range, Option, Some, None}
use Rattle.std.specs.Prelude.{Result, Ok, Err, IsSome, ⊤}
use Rattle.byteorder.specs.Endian.{big_number}
use Rattle.mf_base.specs.Spelling.{IsBytes}
use Rattle.mf_edge.specs.Device.{SourceState, IsAtEnd}
use Rattle.mf_edge.specs.Stream.{StreamState, IsWalk}
use Rattle.osm_model.specs.declared.limits.TheConstants.{HEADER_LIMIT, OFFSET_LIMIT}
use Rattle.osm_model.specs.Frames.{unread, SpellsFrame, raw_bytes}
use Rattle.osm_model.specs.declared.faults.FrameFault.{FrameFault}
use Rattle.osm_model.specs.declared.faults.FrameFault.TheVariants.{Truncated}
use Rattle.pbf_frame.specs.declared.frame_fault.NextFault.{NextFault}
use Rattle.pbf_frame.specs.declared.frame_fault.NextFault.TheVariants as next_fault
use Rattle.pbf_frame.specs.declared.frame.BlobKind.{BlobKind}
use Rattle.pbf_frame.specs.declared.blob_read.Step.{Step}
use Rattle.pbf_frame.specs.declared.blob_read.Step.TheVariants.{End, Passed, Kept}
use Rattle.pbf_frame.specs.declared.blob_head.BlobHead.{BlobHead}
use Rattle.pbf_frame.specs.BlobSteps.{IsKind, head_of}
use Rattle.pbf_frame.specs.FrameReading.{HasTaken, BeginsNoBlob, content_shown}

-- What a fault of a step tells: what was taken, at the blob's offset. Where the source failed nothing is said.
abbrev pub FailsAt : (FrameFault → List ℕ → Type 0) → ℕ → StreamState → NextFault → StreamState → Type 0
FailsAt Fails blob old (next_fault.Frame told fault) new = (told ≡ blob) × HasTaken (Fails fault) old new
FailsAt Fails blob old next_fault.Read new = ⊤

-- What a step tells: what was taken, by its answer or by its fault.
abbrev pub Tells : {A : Type 0} → (A → List ℕ → Type 0) → (FrameFault → List ℕ → Type 0) → ℕ → StreamState
    → Result A NextFault → StreamState → Type 0
Tells Holds Fails blob old (Ok x) new = HasTaken (Holds x) old new
Tells Holds Fails blob old (Err fault) new = FailsAt Fails blob old fault new

-- The input ended before there were so many bytes; some that were read before count in the fault.
abbrev pub IsCut : ℕ → ℕ → SourceState → FrameFault → List ℕ → Type 0
IsCut had size source fault bytes = (fault ≡ Truncated (had + length bytes)) × (length bytes < size) × IsAtEnd source

-- The byte was taken, or there was none.
abbrev pub IsFirst : SourceState → Option ℕ → List ℕ → Type 0
IsFirst source (Some first) bytes = bytes ≡ first ∷ []
IsFirst source None bytes = (bytes ≡ []) × IsAtEnd source

-- The four bytes at a blob's offset tell how many bytes its BlobHeader has.
pub record HasLength (at size : ℕ) (four : List ℕ) : Type 0 where
  pub near : at < OFFSET_LIMIT
  pub count : length four ≡ 4
  pub number : big_number 4 four ≡ size
  pub few : size ≤ HEADER_LIMIT
  pub small : IsBytes four

-- The bytes are a BlobHeader of this size that tells this.
abbrev pub HasHead : ℕ → BlobHead → List ℕ → Type 0
HasHead size head bytes =
    (length bytes ≡ size) × (kind : List ℕ) × IsKind head.kind kind × (head_of bytes ≡ Ok (kind, head.size))

-- The BlobHeader of this size is cut, or is refused.
abbrev pub HeadFails : ℕ → SourceState → FrameFault → List ℕ → Type 0
HeadFails size source fault bytes =
    IsCut 0 size source fault bytes ⊎ ((length bytes ≡ size) × (head_of bytes ≡ Err fault))

-- The bytes are a Blob whose raw bytes are in the block, or one that was passed over.
abbrev pub HoldsBlob : Option BlobKind → ℕ → List ℕ → Step → List ℕ → Type 0
HoldsBlob (Some kind) at block (Kept f) bytes =
    (f.at ≡ at) × (f.kind ≡ kind) × (raw_bytes bytes ≡ Ok (slice_range block f.start f.end))
HoldsBlob None at block Passed bytes = ⊤
HoldsBlob (Some kind) at block Passed bytes = ⊥
HoldsBlob None at block (Kept f) bytes = ⊥
HoldsBlob kind at block End bytes = ⊥

-- The Blob is cut, or is refused, which happens to those alone that are read.
abbrev pub BlobFails : BlobHead → SourceState → FrameFault → List ℕ → Type 0
BlobFails head source fault bytes =
    IsCut 0 head.size source fault bytes
    ⊎ ((length bytes ≡ head.size) × IsSome head.kind × (raw_bytes bytes ≡ Err fault))

-- What the bytes at a blob's offset spell: nothing at the end of the input, a blob that was passed over, or one whose
-- raw
-- bytes are in the block.
abbrev pub SpellsStep : ℕ → List ℕ → SourceState → Step → List ℕ → Type 0
SpellsStep at block source End bytes = (bytes ≡ []) × IsAtEnd source
SpellsStep at block source Passed bytes = (at < OFFSET_LIMIT) × (kind : List ℕ) × SpellsFrame (unread kind) bytes
SpellsStep at block source (Kept f) bytes =
    (at < OFFSET_LIMIT) × (f.at ≡ at) × SpellsFrame (content_shown f.kind (slice_range block f.start f.end)) bytes

-- What the step over one blob tells.
abbrev pub TellsBlob : StreamState → List ℕ → Result Step NextFault → StreamState → Type 0
TellsBlob old block result new =
    Tells (SpellsStep old.offset block new.source) (λ fault bytes. BeginsNoBlob old.offset fault new.source bytes)
    old.offset old result new

-- A step went over one blob, which begins below the limit: bytes were taken, and each read took some.
pub record IsOverBlob (old new : StreamState) : Type 0 where
  pub near : old.offset < OFFSET_LIMIT
  pub grows : old.offset < new.offset
  pub walk : IsWalk 0 old new
