-- The blobs of an extract: the OpenStreetMap wiki, "PBF Format", on its file format. A blob is a length, a BlobHeader
-- and a Blob; these two, with a capital, are messages. That the limit on datasize counts the whole Blob, that blobs
-- begin below 2^62, that compressed data is refused, and the order in which faults are looked for, is this project's
-- profile.
use Rattle.std.specs.Prelude.{Bool, true, false, filter, Result, ◌≡◌, ◌≢◌, ℕ, zero, suc, ◌+◌, ◌-◌, ◌≤◌, ◌<◌, ◌&&◌, ◌==◌}
use Rattle.std.specs.Prelude.{nat_lt, nat_le, if◌then◌else◌, List, [], ◌∷◌, ◌++◌, length, take, drop, map, find, Option}
use Rattle.std.specs.Prelude.{Some, None, option_map, ok_or, Ok, Err, codes, bytes_eq, MatchOption, ⊤}
use Rattle.byteorder.specs.Endian.{big_number}
use Rattle.mf_base.specs.Spelling.{big_endian}
use Rattle.mf_base.specs.Steps.{◌>>=◌, require, refuse, told_as}
use Rattle.osm_model.specs.declared.numbers.TheConstants.{BLOB_HEADER_TYPE, BLOB_HEADER_DATASIZE, BLOB_RAW}
use Rattle.osm_model.specs.declared.numbers.TheConstants.{BLOB_RAW_SIZE, BLOB_ZLIB_DATA, BLOB_ZSTD_DATA}
use Rattle.osm_model.specs.declared.limits.TheConstants.{HEADER_LIMIT, BLOB_LIMIT, LENGTH_SIZE, OFFSET_LIMIT}
use Rattle.osm_model.specs.declared.tables.TheConstants.{BLOB_HEADER, BLOB}
use Rattle.osm_model.specs.declared.faults.FrameFault.{FrameFault}
use Rattle.osm_model.specs.declared.faults.FrameFault.TheVariants.{Truncated, RawSize, BlobWire, Compressed, NoBytes}
use Rattle.osm_model.specs.declared.faults.FrameFault.TheVariants.{TooLong, HeaderLength, HeaderWire, NoKind, NoSize}
use Rattle.osm_model.specs.declared.faults.FrameFault.TheVariants.{BlobSize}
use Rattle.osm_model.specs.Reading.{Reading, all_read, stops_at, then_reads}
use Rattle.osm_model.specs.Wire.{Field, IsMessage}
use Rattle.osm_model.specs.Tables.{FitsTable, message, once_of, number_of}

-- What a blob holds, by its type: the raw bytes of a HeaderBlock or of a PrimitiveBlock, or bytes that are not read, of
-- which the type alone is kept.
pub data Content : Type 0 where
  header : List ℕ → Content
  primitive : List ℕ → Content
  unread : List ℕ → Content

-- A frame is what a blob holds with the offset of the blob in the input, in bytes: that of its length.
pub record Frame : Type 0 where
  pub at : ℕ
  pub content : Content

-- the type that the BlobHeader tells
abbrev pub type_of : Content → List ℕ
type_of (header raw) = codes "OSMHeader"
type_of (primitive raw) = codes "OSMData"
type_of (unread type) = type

-- the number of the first field with compressed data: of zlib, lzma, bzip2, lz4 or zstd
abbrev pub compressed_of : List Field → Option ℕ
compressed_of fs = find (λ k. nat_le BLOB_ZLIB_DATA k && nat_le k BLOB_ZSTD_DATA) (map (λ (f : Field). f.number) fs)

-- The bytes are a BlobHeader with this type and this datasize.
pub record IsBlobHeader (type : List ℕ) (size : ℕ) (b : List ℕ) : Type 0 where
  pub fields : List Field
  pub spelled : IsMessage b fields
  pub fits : FitsTable BLOB_HEADER fields
  pub named : once_of BLOB_HEADER_TYPE fields ≡ Some type
  pub sized : number_of BLOB_HEADER_DATASIZE fields ≡ Some size

-- The bytes are a Blob message that holds these raw bytes, and no other data.
pub record IsBlob (raw : List ℕ) (b : List ℕ) : Type 0 where
  pub fields : List Field
  pub spelled : IsMessage b fields
  pub fits : FitsTable BLOB fields
  pub plain : compressed_of fields ≡ None
  pub held : once_of BLOB_RAW fields ≡ Some raw
  pub told : MatchOption (number_of BLOB_RAW_SIZE fields) ⊤ (λ size. size ≡ length raw)

-- The bytes are a Blob message that holds the raw bytes, where the type is known; of other types they may be any.
abbrev pub HoldsContent : Content → List ℕ → Type 0
HoldsContent (header raw) b = IsBlob raw b
HoldsContent (primitive raw) b = IsBlob raw b
HoldsContent (unread type) b = (type ≢ codes "OSMHeader") × (type ≢ codes "OSMData")

-- The bytes spell a blob: the length of the BlobHeader in four bytes, the highest first, then the BlobHeader, then the
-- Blob.
pub record SpellsFrame (content : Content) (b : List ℕ) : Type 0 where
  pub head : List ℕ
  pub body : List ℕ
  pub whole : b ≡ big_endian LENGTH_SIZE (length head) ++ head ++ body
  pub head_size : length head ≤ HEADER_LIMIT
  pub body_size : length body ≤ BLOB_LIMIT
  pub head_holds : IsBlobHeader (type_of content) (length body) head
  pub body_holds : HoldsContent content body

-- The bytes are these blobs, one after another, the first at this offset, and each begins before 2^62.
abbrev pub AreFrames : ℕ → List ℕ → List Frame → Type 0
AreFrames at b [] = b ≡ []
AreFrames at b (f ∷ fs) =
    (front : List ℕ) × (rest : List ℕ) × (f.at ≡ at) × (at < OFFSET_LIMIT) × SpellsFrame f.content front
    × AreFrames (at + length front) rest fs × (b ≡ front ++ rest)

-- the first so many bytes, where there are as many
abbrev pub whole_part : ℕ → List ℕ → Result (List ℕ) FrameFault
whole_part count bytes = do
  _ ← require (nat_le count (length bytes)) (Truncated (length bytes))
  Ok (take count bytes)

-- the fault of a raw_size that is there and is not the number of bytes found
abbrev pub raw_size_fault : Option ℕ → ℕ → Option FrameFault
raw_size_fault None found = None
raw_size_fault (Some told) found = if told == found then None else Some (RawSize told found)

-- the raw bytes of a Blob, or its first fault
unfoldable pub raw_bytes : List ℕ → Result (List ℕ) FrameFault
raw_bytes bytes = do
  fs ← told_as BlobWire (message BLOB bytes)
  _ ← refuse (option_map Compressed (compressed_of fs))
  raw ← ok_or (once_of BLOB_RAW fs) NoBytes
  _ ← refuse (raw_size_fault (number_of BLOB_RAW_SIZE fs) (length raw))
  Ok raw

-- what a blob of this type holds, by the bytes of its Blob
abbrev pub content_in : List ℕ → List ℕ → Result Content FrameFault
content_in type bytes =
    if bytes_eq type (codes "OSMHeader") then (raw_bytes bytes >>= λ raw. Ok (header raw))
    else (if bytes_eq type (codes "OSMData") then (raw_bytes bytes >>= λ raw. Ok (primitive raw))
    else Ok (unread type))

-- The blob that the bytes at this offset begin with, and how many bytes it takes, or its first fault.
unfoldable pub frame_front : ℕ → List ℕ → Result (Content × ℕ) FrameFault
frame_front at bytes = do
  _ ← require (nat_lt at OFFSET_LIMIT) TooLong
  size ← whole_part LENGTH_SIZE bytes
  let head_size = big_number LENGTH_SIZE size
  _ ← require (nat_le head_size HEADER_LIMIT) HeaderLength
  head ← whole_part head_size (drop LENGTH_SIZE bytes)
  fs ← told_as HeaderWire (message BLOB_HEADER head)
  type ← ok_or (once_of BLOB_HEADER_TYPE fs) NoKind
  body_size ← ok_or (number_of BLOB_HEADER_DATASIZE fs) NoSize
  _ ← require (nat_le body_size BLOB_LIMIT) BlobSize
  body ← whole_part body_size (drop (LENGTH_SIZE + head_size) bytes)
  content ← content_in type body
  Ok (content, LENGTH_SIZE + head_size + body_size)

-- A fault of a blob, with the offset of the blob.
pub record FrameFaultAt : Type 0 where
  pub at : ℕ
  pub fault : FrameFault

-- the blobs behind so many bytes, the first byte being at this offset, up to the first fault
unfoldable pub frames_behind : ℕ → ℕ → List ℕ → Reading Frame FrameFaultAt
frames_behind at skip [] = all_read
frames_behind at (suc skip) (b ∷ rest) = frames_behind (suc at) skip rest
frames_behind at zero (b ∷ rest) =
    elim (frame_front at (b ∷ rest)) [
      | Ok found ↦ then_reads (record { at = at; content = found.0 }) (frames_behind (suc at) (found.1 - 1) rest)
      | Err fault ↦ stops_at (record { at = at; fault = fault })
    ]

-- the blobs of bytes from this offset on, up to the first fault in one
abbrev pub frames_at : ℕ → List ℕ → Reading Frame FrameFaultAt
frames_at at bytes = frames_behind at 0 bytes

-- the blobs of an input, up to the first fault in one
abbrev pub frames : List ℕ → Reading Frame FrameFaultAt
frames bytes = frames_at 0 bytes

-- a blob whose type is known
abbrev pub is_known : Frame → Bool
is_known f = elim f.content [ header raw ↦ true | primitive raw ↦ true | unread type ↦ false ]

-- the blobs of known types; those of other types are passed over
abbrev pub known_frames : List Frame → List Frame
known_frames fs = filter is_known fs

-- the blobs of known types in bytes from this offset on, and the first fault
abbrev pub known_at : ℕ → List ℕ → Reading Frame FrameFaultAt
known_at at bytes = let read = frames_at at bytes in record { items = known_frames read.items; fault = read.fault }

-- the first blob of a known type, or the fault before it, or None at the end of the input
abbrev pub next_known : Reading Frame FrameFaultAt → Result (Option Frame) FrameFaultAt
next_known read = elim (find is_known read.items) [
  | Some f ↦ Ok (Some f)
  | None ↦ elim read.fault [ Some told ↦ Err told | None ↦ Ok None ]
]

-- The bytes at this offset are blobs that are passed over: none is of a known type.
pub record PassesOver (at : ℕ) (bytes : List ℕ) : Type 0 where
  pub passed : List Frame
  pub unknown : known_frames passed ≡ []
  pub spelled : AreFrames at bytes passed

-- The bytes at this offset are blobs that are passed over, and then the blob f, of a known type.
pub record LeadsTo (at : ℕ) (bytes : List ℕ) (f : Frame) : Type 0 where
  pub passed : List Frame
  pub unknown : known_frames passed ≡ []
  pub known : is_known f ≡ true
  pub spelled : AreFrames at bytes (passed ++ f ∷ [])

-- Nothing is left, or bytes at this offset that begin with no blob.
abbrev pub FramesEnd : ℕ → List ℕ → Option FrameFaultAt → Type 0
FramesEnd at rest None = rest ≡ []
FramesEnd at rest (Some told) = (rest ≢ []) × (told.at ≡ at) × (frame_front at rest ≡ Err told.fault)

-- What is read of the bytes at this offset is blobs in front, and the fault of what is left.
pub record ReadsFrames (at : ℕ) (bytes : List ℕ) (read : Reading Frame FrameFaultAt) : Type 0 where
  pub front : List ℕ
  pub rest : List ℕ
  pub whole : bytes ≡ front ++ rest
  pub spelled : AreFrames at front read.items
  pub ended : FramesEnd (at + length front) rest read.fault
