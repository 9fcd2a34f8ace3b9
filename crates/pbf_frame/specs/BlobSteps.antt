-- The steps in which a blob is read, and what the reader tells of each: the OpenStreetMap wiki, "PBF Format", on its
-- file format.
use Rattle.std.specs.Prelude.{◌≡◌, ◌≢◌, ℕ, nat_le, List, slice_range, Option, Some, None, ok_or, Result, Ok, Err, codes}
use Rattle.mf_base.specs.Steps.{◌>>=◌, require, told_as}
use Rattle.osm_model.specs.declared.numbers.TheConstants.{BLOB_HEADER_TYPE, BLOB_HEADER_DATASIZE}
use Rattle.osm_model.specs.declared.limits.TheConstants.{BLOB_LIMIT}
use Rattle.osm_model.specs.declared.tables.TheConstants.{BLOB_HEADER}
use Rattle.osm_model.specs.Tables.{message, once_of, number_of}
use Rattle.osm_model.specs.declared.faults.FrameFault.{FrameFault}
use Rattle.osm_model.specs.declared.faults.FrameFault.TheVariants.{HeaderWire, NoKind, NoSize, BlobSize}
use Rattle.pbf_frame.specs.declared.frame.BlobKind.{BlobKind}
use Rattle.pbf_frame.specs.declared.frame.BlobKind.TheVariants.{Header, Primitive}
use Rattle.pbf_frame.specs.declared.blob_head.BlobHead.{BlobHead}

-- ---- the BlobHeader

-- the type and the datasize of a BlobHeader, or its first fault
unfoldable pub head_of : List ℕ → Result (List ℕ × ℕ) FrameFault
head_of head = do
  parts ← told_as HeaderWire (message BLOB_HEADER head)
  kind ← ok_or (once_of BLOB_HEADER_TYPE parts) NoKind
  size ← ok_or (number_of BLOB_HEADER_DATASIZE parts) NoSize
  _ ← require (nat_le size BLOB_LIMIT) BlobSize
  Ok (kind, size)

-- The type is that of blobs that are read, or another.
abbrev pub IsKind : Option BlobKind → List ℕ → Type 0
IsKind (Some Header) kind = kind ≡ codes "OSMHeader"
IsKind (Some Primitive) kind = kind ≡ codes "OSMData"
IsKind None kind = (kind ≢ codes "OSMHeader") × (kind ≢ codes "OSMData")

-- What was read of a BlobHeader is its type and its datasize, or its first fault.
abbrev pub TellsHead : Result BlobHead FrameFault → Result (List ℕ × ℕ) FrameFault → Type 0
TellsHead (Ok h) told = (kind : List ℕ) × IsKind h.kind kind × (told ≡ Ok (kind, h.size))
TellsHead (Err fault) told = told ≡ Err fault

-- ---- the Blob

-- the raw bytes at the place that was found, or the fault
abbrev pub raw_shown : List ℕ → Result (ℕ × ℕ) FrameFault → Result (List ℕ) FrameFault
raw_shown bytes (Ok place) = Ok (slice_range bytes place.0 place.1)
raw_shown bytes (Err fault) = Err fault
