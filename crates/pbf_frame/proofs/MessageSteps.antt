-- What the steps through a BlobHeader and a Blob tell.
use Rattle.std.proofs.Common.{◌≡◌, ◌∙◌, ℕ, ◌-◌, ◌<◌, ◌≤◌, List, length, drop, refl, sym, ap, arith, Some, None, Ok, Err}
use Rattle.std.specs.Prelude.{slice_range}
use Rattle.std.proofs.lemmas.Bool.{le-leb, lt-leb}
use Rattle.std.proofs.lemmas.List.{length-take-le, length-drop}
use Rattle.osm_model.specs.declared.limits.TheConstants.{BLOB_LIMIT}
use Rattle.osm_model.specs.declared.tables.TheConstants.{BLOB_HEADER, BLOB}
use Rattle.osm_model.specs.declared.faults.MessageFault.{MessageFault}
use Rattle.osm_model.specs.declared.faults.FrameFault.{FrameFault}
use Rattle.osm_model.specs.declared.faults.FrameFault.TheVariants.{BlobSize, BlobWire, Compressed, HeaderWire, NoBytes}
use Rattle.osm_model.specs.declared.faults.FrameFault.TheVariants.{NoKind, NoSize}
use Rattle.osm_model.specs.Wire.{Field}
use Rattle.osm_model.specs.Tables.{Table, message, message_fault, once_of, number_of}
use Rattle.osm_model.specs.Frames.{compressed_of, raw_size_fault, raw_bytes}
use Rattle.pbf_frame.specs.BlobSteps.{head_of}

message-fault : (table : Table) (bytes : List ℕ) (fault : MessageFault) → Some fault ≡ message_fault table bytes
    → message table bytes ≡ Err fault
unfolding message
message-fault table bytes fault e = rw (sym e, message) refl

-- ---- the BlobHeader

pub head-wire : (head : List ℕ) (fault : MessageFault) → Some fault ≡ message_fault BLOB_HEADER head
    → head_of head ≡ Err (HeaderWire fault)
unfolding head_of
head-wire head fault e = rw (message-fault BLOB_HEADER head fault e) refl

pub head-no_type : (head : List ℕ) (parts : List Field) → message BLOB_HEADER head ≡ Ok parts → None ≡ once_of 1 parts
    → head_of head ≡ Err NoKind
unfolding head_of
head-no_type head parts read none = rw read (rw (sym none) refl)

pub head-no_size : (head : List ℕ) (parts : List Field) (kind : List ℕ) → message BLOB_HEADER head ≡ Ok parts
    → Some kind ≡ once_of 1 parts → None ≡ number_of 3 parts → head_of head ≡ Err NoSize
unfolding head_of
head-no_size head parts kind read named none = rw read (rw (sym named) (rw (sym none) refl))

pub head-blob_size : (head : List ℕ) (parts : List Field) (kind : List ℕ) (size : ℕ)
    → message BLOB_HEADER head ≡ Ok parts → Some kind ≡ once_of 1 parts → Some size ≡ number_of 3 parts
    → BLOB_LIMIT < size → head_of head ≡ Err BlobSize
unfolding head_of
head-blob_size head parts kind size read named told many =
    rw read (rw (sym named) (rw (sym told) (rw (lt-leb size BLOB_LIMIT many) refl)))

pub head-ok : (head : List ℕ) (parts : List Field) (kind : List ℕ) (size : ℕ) → message BLOB_HEADER head ≡ Ok parts
    → Some kind ≡ once_of 1 parts → Some size ≡ number_of 3 parts → size ≤ BLOB_LIMIT → head_of head ≡ Ok (kind, size)
unfolding head_of
head-ok head parts kind size read named told few =
    rw read (rw (sym named) (rw (sym told) (rw (le-leb size BLOB_LIMIT few) refl)))

-- ---- the Blob

pub raw-wire : (b : List ℕ) (fault : MessageFault) → Some fault ≡ message_fault BLOB b
    → Err (BlobWire fault) ≡ raw_bytes b
unfolding raw_bytes
raw-wire b fault e = rw (message-fault BLOB b fault e) refl

pub raw-compressed : (b : List ℕ) (parts : List Field) (k : ℕ) → message BLOB b ≡ Ok parts
    → Some k ≡ compressed_of parts → Err (Compressed k) ≡ raw_bytes b
unfolding raw_bytes
raw-compressed b parts k read e = rw read (rw (sym e) refl)

pub raw-no_data : (b : List ℕ) (parts : List Field) → message BLOB b ≡ Ok parts → None ≡ compressed_of parts
    → None ≡ once_of 1 parts → Err NoBytes ≡ raw_bytes b
unfolding raw_bytes
raw-no_data b parts read plain none = rw read (rw (sym plain) (rw (sym none) refl))

size_of : (b : List ℕ) (start end : ℕ) → start ≤ end → end ≤ length b → length (slice_range b start end) ≡ end - start
size_of b start end order within =
    length-take-le (end - start) (drop start b) (omega (arith, order, within, length-drop start b))

pub raw-size : (b : List ℕ) (parts : List Field) (start end : ℕ) (fault : FrameFault) → start ≤ end → end ≤ length b
    → message BLOB b ≡ Ok parts → None ≡ compressed_of parts
    → Some (slice_range b start end) ≡ once_of 1 parts → Some fault ≡ raw_size_fault (number_of 2 parts) (end - start)
    → Err fault ≡ raw_bytes b
unfolding raw_bytes
raw-size b parts start end fault order within read plain held e =
    let wrong : raw_size_fault (number_of 2 parts) (length (slice_range b start end)) ≡ Some fault =
    ap (raw_size_fault (number_of 2 parts)) (size_of b start end order within) ∙ sym e in
    rw read (rw (sym plain) (rw (sym held) (rw wrong refl)))

pub raw-ok : (b : List ℕ) (parts : List Field) (start end : ℕ) → start ≤ end → end ≤ length b
    → message BLOB b ≡ Ok parts → None ≡ compressed_of parts
    → Some (slice_range b start end) ≡ once_of 1 parts → None ≡ raw_size_fault (number_of 2 parts) (end - start)
    → Ok (slice_range b start end) ≡ raw_bytes b
unfolding raw_bytes
raw-ok b parts start end order within read plain held e =
    let right : raw_size_fault (number_of 2 parts) (length (slice_range b start end)) ≡ None =
    ap (raw_size_fault (number_of 2 parts)) (size_of b start end order within) ∙ sym e in
    rw read (rw (sym plain) (rw (sym held) (rw right refl)))
