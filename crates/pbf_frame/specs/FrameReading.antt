-- What the reader of blobs tells of the bytes that it took from a source. This project's own.
use Rattle.std.specs.Prelude.{◌≡◌, ◌≢◌, ◌⊎◌, ℕ, ◌+◌, ◌<◌, ◌≤◌, List, [], ◌++◌, length, slice_range, Option, Some, None}
use Rattle.std.specs.Prelude.{option_map, Result, Ok, Err, ⊤}
use Rattle.mf_edge.specs.Device.{SourceState, Took, IsAtEnd}
use Rattle.mf_edge.specs.Stream.{StreamState, IsWalk}
use Rattle.osm_model.specs.declared.faults.FrameFault.{FrameFault}
use Rattle.osm_model.specs.declared.limits.TheConstants.{BLOB_LIMIT, FRAME_LIMIT, OFFSET_LIMIT}
use Rattle.osm_model.specs.Reading.{Reading, all_read, stops_at, then_reads}
use Rattle.osm_model.specs.Frames as model
use Rattle.osm_model.specs.Frames.{Content, header, primitive, unread, SpellsFrame, FrameFaultAt, raw_bytes}
use Rattle.osm_model.specs.Frames.{frame_front, known_at, PassesOver, LeadsTo}
use Rattle.pbf_frame.specs.declared.frame_fault.NextFault.{NextFault}
use Rattle.pbf_frame.specs.declared.frame_fault.NextFault.TheVariants as next_fault
use Rattle.pbf_frame.specs.declared.frame.BlobKind.{BlobKind}
use Rattle.pbf_frame.specs.declared.frame.BlobKind.TheVariants.{Header, Primitive}
use Rattle.pbf_frame.specs.declared.frame.Frame.{Frame}

-- ---- what was taken

-- Bytes were taken from a stream, as many as its offset rose by, and this holds of them.
pub record HasTaken (Holds : List ℕ → Type 0) (old new : StreamState) : Type 0 where
  pub bytes : List ℕ
  pub taken : Took old.source bytes new.source
  pub counted : new.offset ≡ old.offset + length bytes
  pub holds : Holds bytes

-- The bytes at this offset, of which there are some, begin with no blob for this fault, whatever follows them, or
-- because the source ends behind them.
abbrev pub BeginsNoBlob : ℕ → FrameFault → SourceState → List ℕ → Type 0
BeginsNoBlob at fault source bytes =
    (bytes ≢ []) × (((more : List ℕ) → frame_front at (bytes ++ more) ≡ Err fault)
    ⊎ ((frame_front at bytes ≡ Err fault) × IsAtEnd source))

-- ---- the next blob

-- the raw bytes of a blob that was given are in the block
abbrev pub content_shown : BlobKind → List ℕ → Content
content_shown Header raw = header raw
content_shown Primitive raw = primitive raw

-- the blob that was given, with its raw bytes in the block
abbrev pub frame_shown : List ℕ → Frame → model.Frame
frame_shown block f = record { at = f.at; content = content_shown f.kind (slice_range block f.start f.end) }

-- The raw bytes of a blob that was given are in the block, and are not too many.
pub record IsInBlock (f : Frame) (block : List ℕ) : Type 0 where
  pub ordered : f.start ≤ f.end
  pub within : f.end ≤ length block
  pub few : f.end ≤ BLOB_LIMIT

-- A blob was given: bytes were taken, each read took some, and the blob begins below the limit.
pub record IsGiven (old new : StreamState) : Type 0 where
  pub grows : old.offset < new.offset
  pub walk : IsWalk 0 old new
  pub below : new.offset < OFFSET_LIMIT + FRAME_LIMIT

-- The bytes at this offset are blobs that are passed over, and then some that begin with no blob.
pub record FailsBehind (at told : ℕ) (fault : FrameFault) (source : SourceState) (bytes : List ℕ) : Type 0 where
  pub front : List ℕ
  pub rest : List ℕ
  pub whole : bytes ≡ front ++ rest
  pub passed : PassesOver at front
  pub place : told ≡ at + length front
  pub begins : BeginsNoBlob told fault source rest

-- What was taken: blobs that are passed over, and then the blob that was given, or the end of the input, or what begins
-- with no blob. Where the source failed nothing is said.
abbrev pub TakesBlobs : StreamState → List ℕ → Result (Option Frame) NextFault → StreamState → Type 0
TakesBlobs old block (Ok (Some f)) new = HasTaken (λ bytes. LeadsTo old.offset bytes (frame_shown block f)) old new
TakesBlobs old block (Ok None) new = HasTaken (λ bytes. PassesOver old.offset bytes × IsAtEnd new.source) old new
TakesBlobs old block (Err (next_fault.Frame told fault)) new =
    HasTaken (FailsBehind old.offset told fault new.source) old new
TakesBlobs old block (Err next_fault.Read) new = ⊤

-- What was answered is the next blob of a known type, or the fault before it, or None at the end of the input. Where
-- the
-- source failed nothing is said.
abbrev pub IsNext : List ℕ → Result (Option Frame) NextFault → Result (Option model.Frame) FrameFaultAt → Type 0
IsNext block (Ok found) next = next ≡ Ok (option_map (frame_shown block) found)
IsNext block (Err (next_fault.Frame at fault)) next = next ≡ Err (record { at = at; fault = fault })
IsNext block (Err next_fault.Read) next = ⊤

-- Of the blobs that were left the first was given, and the others are left; or none was left, and there is no fault, or
-- this one. Where the source failed nothing is said.
abbrev pub GivesBlob : List ℕ → Result (Option Frame) NextFault → (before now : Reading model.Frame FrameFaultAt)
    → Type 0
GivesBlob block (Ok (Some f)) before now = before ≡ then_reads (frame_shown block f) now
GivesBlob block (Ok None) before now = before ≡ all_read
GivesBlob block (Err (next_fault.Frame at fault)) before now = before ≡ stops_at (record { at = at; fault = fault })
GivesBlob block (Err next_fault.Read) before now = ⊤

-- The stream's source has bytes left, and the blobs of them are those of all these but for what was given.
abbrev pub LeavesBlobs : List ℕ → StreamState → List ℕ → Result (Option Frame) NextFault → StreamState → Type 0
LeavesBlobs all old block result new =
    (rest : List ℕ) × (new.source.left ≡ Some rest)
    × GivesBlob block result (known_at old.offset all) (known_at new.offset rest)
