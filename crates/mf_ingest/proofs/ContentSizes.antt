-- The entities of a blob take no more bytes than the blob.
use Rattle.std.proofs.Common.{◌≡◌, ◌∙◌, ◌+◌, ◌-◌, ◌<◌, ◌≤◌, ℕ, zero, suc, List, [], ◌∷◌, Bool, true, false}
use Rattle.std.proofs.Common.{Some, Result, Ok, Err, refl, sym, ap, subst, arith, length, drop, cond}
use Rattle.std.specs.Prelude.{filter_map, slice_get, nat_le, nat_lt, ok_or, bytes_eq, codes}
use Rattle.std.proofs.lemmas.Bool.{leb-true}
use Rattle.std.proofs.lemmas.List.{length-drop, length-take-le}
use Rattle.std.proofs.lemmas.Option.{none-some, same_Some}
use Rattle.byteorder.specs.Endian.{big_number}
use Rattle.mf_base.specs.Steps.{◌>>=◌, require, told_as}
use Rattle.mf_base.proofs.StepLaws.{bind_ok, ok_is, require_ok}
use Rattle.osm_model.specs.declared.faults.BlockFault.{BlockFault}
use Rattle.osm_model.specs.declared.faults.EntityFault.{EntityFault}
use Rattle.osm_model.specs.declared.faults.FrameFault.{FrameFault}
use Rattle.osm_model.specs.declared.faults.FrameFault.TheVariants.{TooLong, HeaderLength, HeaderWire, NoKind, NoSize}
use Rattle.osm_model.specs.declared.faults.FrameFault.TheVariants.{BlobSize}
use Rattle.osm_model.specs.declared.limits.TheConstants.{HEADER_LIMIT, BLOB_LIMIT, OFFSET_LIMIT}
use Rattle.osm_model.specs.declared.numbers.TheConstants.{BLOB_HEADER_TYPE, BLOB_HEADER_DATASIZE, BLOB_RAW}
use Rattle.osm_model.specs.declared.numbers.TheConstants.{BLOCK_PRIMITIVEGROUP}
use Rattle.osm_model.specs.declared.tables.TheConstants.{BLOB_HEADER, BLOB}
use Rattle.osm_model.specs.Wire.{fields}
use Rattle.osm_model.specs.Tables.{message, bytes_of, once_of, number_of}
use Rattle.osm_model.specs.Frames.{Content, header, primitive, unread, Frame, whole_part, raw_bytes}
use Rattle.osm_model.specs.Frames.{content_in, frame_front, frames_behind, frames_at}
use Rattle.osm_model.specs.Blocks.{PrimitiveBlock, block}
use Rattle.osm_model.specs.Entities.{Entity}
use Rattle.osm_model.specs.Objects.{Object, told_entity, block_objects, block_entities}
use Rattle.osm_model.specs.Input.{content_entities, entities_in}
use Rattle.osm_model.proofs.BlockLaws.{message-items, block-parts}
use Rattle.osm_model.proofs.FrameLaws.{raw_found}
use Rattle.osm_model.proofs.TableMessageLaws.{message_is}
use Rattle.extract_pass.specs.EntitySizes.{entities_size}
use Rattle.extract_pass.specs.BlobReading.{sound_in, sound_entities}
use Rattle.extract_pass.proofs.FieldSizes.{total, bytes_size, field_size, fields-size, bytes-of-size}
use Rattle.extract_pass.proofs.ObjectSizes.{object_size, objects_size, block-size, in_order-size}

-- ---- the raw bytes of a Blob

first-size : (xs : List (List ℕ)) (x : List ℕ) → slice_get xs 0 ≡ Some x → length x ≤ total bytes_size xs
first-size [] x e = absurd (none-some x e)
first-size (y ∷ xs) x e = omega (arith, ap length (same_Some y x e))

raw-size : (raw bytes : List ℕ) → raw_bytes bytes ≡ Ok raw → length raw ≤ length bytes
raw-size raw bytes e =
    let is = raw_found raw bytes e in
    let items = message-items BLOB bytes is.fields (message_is BLOB bytes is.fields is.spelled is.fits) in
    let most = subst (λ fs. total field_size fs ≤ length bytes) (sym items) (fields-size bytes) in
    let one = first-size (bytes_of BLOB_RAW is.fields) raw is.held in
    omega (arith, most, bytes-of-size BLOB_RAW is.fields, one)

-- how many bytes of what a blob holds are read
abbrev pub content_size : Content → ℕ
content_size (header raw) = length raw
content_size (primitive raw) = length raw
content_size (unread type) = 0

held-size : (type bytes : List ℕ) (c : Content) → content_in type bytes ≡ Ok c → content_size c ≤ length bytes
held-size type bytes c = go (bytes_eq type (codes "OSMHeader")) (bytes_eq type (codes "OSMData"))
  where
    go : (first second : Bool)
        → cond first (raw_bytes bytes >>= λ raw. Ok (header raw))
        (cond second (raw_bytes bytes >>= λ raw. Ok (primitive raw)) (Ok (unread type))) ≡ Ok c
        → content_size c ≤ length bytes
    go true second e =
        let (raw, is, last) = bind_ok _ _ _ e in
        subst (λ c. content_size c ≤ length bytes) (ok_is _ _ last) (raw-size raw bytes is)
    go false true e =
        let (raw, is, last) = bind_ok _ _ _ e in
        subst (λ c. content_size c ≤ length bytes) (ok_is _ _ last) (raw-size raw bytes is)
    go false false e = subst (λ c. content_size c ≤ length bytes) (ok_is _ _ e) (omega arith)

-- ---- blobs

part-size : (n : ℕ) (bytes part : List ℕ) → whole_part n bytes ≡ Ok part
    → (n ≤ length bytes) × (length part ≡ n)
part-size n bytes part e =
    let (u, fits, last) = bind_ok _ _ _ e in
    let within = leb-true _ _ (require_ok _ _ u fits) in
    (within, ap length (sym (ok_is _ _ last)) ∙ length-take-le n bytes within)

-- A blob that the bytes begin with takes some of them, and what is read of it is no more.
record FrontSize (c : Content) (size : ℕ) (bytes : List ℕ) : Type 0 where
  pub some : 0 < size
  pub within : size ≤ length bytes
  pub held : content_size c ≤ size

parts-size : (bytes four head body type : List ℕ) (n m : ℕ) (c : Content) → whole_part 4 bytes ≡ Ok four
    → whole_part n (drop 4 bytes) ≡ Ok head → whole_part m (drop (4 + n) bytes) ≡ Ok body
    → content_in type body ≡ Ok c → FrontSize c (4 + n + m) bytes
parts-size bytes four head body type n m c first second third held =
    let in_first = part-size 4 bytes four first in
    let in_second = part-size n (drop 4 bytes) head second in
    let in_third = part-size m (drop (4 + n) bytes) body third in
    let few = held-size type body c held in
    record {
      some = omega arith;
      within = omega (
        arith,
        in_first.0,
        in_second.0,
        in_third.0,
        length-drop 4 bytes,
        length-drop (4 + n) bytes,
      );
      held = omega (arith, few, in_third.1);
    }

front-size : (at : ℕ) (bytes : List ℕ) (c : Content) (size : ℕ) → frame_front at bytes ≡ Ok (c, size)
    → FrontSize c size bytes
unfolding frame_front
front-size at bytes c size e =
    let (u, near, r1) = bind_ok (require (nat_lt at OFFSET_LIMIT) TooLong) _ _ e in
    let (four, first, r2) = bind_ok (whole_part 4 bytes) _ _ r1 in
    let n = big_number 4 four in
    let (v, few, r3) = bind_ok (require (nat_le n HEADER_LIMIT) HeaderLength) _ _ r2 in
    let (head, second, r4) = bind_ok (whole_part n (drop 4 bytes)) _ _ r3 in
    let (parts, read, r5) = bind_ok (told_as HeaderWire (message BLOB_HEADER head)) _ _ r4 in
    let (type, named, r6) = bind_ok (ok_or (once_of BLOB_HEADER_TYPE parts) NoKind) _ _ r5 in
    let (m, told, r7) = bind_ok (ok_or (number_of BLOB_HEADER_DATASIZE parts) NoSize) _ _ r6 in
    let (w, most, r8) = bind_ok (require (nat_le m BLOB_LIMIT) BlobSize) _ _ r7 in
    let (body, third, r9) = bind_ok (whole_part m (drop (4 + n) bytes)) _ _ r8 in
    let (content, held, last) = bind_ok (content_in type body) _ _ r9 in
    let pair = ok_is _ _ last in
    subst (λ c. FrontSize c size bytes) (ap (λ p. p.0) pair)
    (subst (λ size. FrontSize content size bytes) (ap (λ p. p.1) pair)
    (parts-size bytes four head body type n m content first second third held))

-- how many bytes of what blobs hold are read
abbrev pub contents_size : List Frame → ℕ
contents_size fs = total (λ (f : Frame). content_size f.content) fs

behind-size : (bytes : List ℕ) (at skip : ℕ) → contents_size (frames_behind at skip bytes).items ≤ length bytes - skip
unfolding frames_behind
behind-size [] at skip = omega arith
behind-size (b ∷ rest) at (suc skip) = let more = behind-size rest (suc at) skip in omega (arith, more)
behind-size (b ∷ rest) at zero =
    go (λ size. behind-size rest (suc at) (size - 1)) (frame_front at (b ∷ rest)) refl
  where
    go : ((size : ℕ) → contents_size (frames_behind (suc at) (size - 1) rest).items ≤ length rest - (size - 1))
        → (r : Result (Content × ℕ) FrameFault) → frame_front at (b ∷ rest) ≡ r
        → contents_size (frames_behind at 0 (b ∷ rest)).items ≤ suc (length rest) - 0
    go more (Ok (c, size)) e =
        let one = front-size at (b ∷ rest) c size e in
        let others = more size in
        rw (e, frames_behind) (omega (arith, one.some, one.within, one.held, others))
    go more (Err fault) e = rw (e, frames_behind) (omega arith)

pub frames-size : (at : ℕ) (bytes : List ℕ) → contents_size (frames_at at bytes).items ≤ length bytes
frames-size at bytes = let most = behind-size bytes at 0 in omega (arith, most)

-- ---- the entities of what a blob holds

told-size : (objects : List (Result Object EntityFault))
    → entities_size (filter_map told_entity objects) ≤ objects_size objects
told-size [] = omega arith
told-size (Err fault ∷ others) = let more = told-size others in omega (arith, more)
told-size (Ok object ∷ others) = go object.entity (told-size others)
  where
    go : (r : Result Entity EntityFault) → entities_size (filter_map told_entity others) ≤ objects_size others
        → entities_size (filter_map told_entity (Ok (record object { entity = r }) ∷ others))
        ≤ object_size (Ok (record object { entity = r })) + objects_size others
    go (Ok e) more = omega (arith, more)
    go (Err fault) more = omega (arith, more)

objects-size : (raw : List ℕ) (b : PrimitiveBlock) → block raw ≡ Ok b → objects_size (block_objects b) ≤ length raw
objects-size raw b e =
    let most = subst (λ groups. objects_size (block_objects b) ≤ total bytes_size groups) (block-parts raw b e).groups
    (block-size b) in
    omega (arith, most, bytes-of-size BLOCK_PRIMITIVEGROUP (fields raw).items, fields-size raw)

raw-entities : (raw : List ℕ) → entities_size (entities_in raw) ≤ length raw
unfolding entities_in block_entities
raw-entities raw = go (block raw) refl
  where
    go : (r : Result PrimitiveBlock BlockFault) → block raw ≡ r → entities_size (entities_in raw) ≤ length raw
    go (Ok b) e =
        let few = told-size (block_objects b) in
        let most = objects-size raw b e in
        rw (e, entities_in) (omega (arith, few, most))
    go (Err fault) e = rw (e, entities_in) (omega arith)

raw-sound : (before : List Entity) (raw : List ℕ) → entities_size (sound_in before raw) ≤ length raw
unfolding sound_in
raw-sound before raw = go (block raw) refl
  where
    go : (r : Result PrimitiveBlock BlockFault) → block raw ≡ r → entities_size (sound_in before raw) ≤ length raw
    go (Ok b) e =
        let few = in_order-size before (block_objects b) in
        let most = objects-size raw b e in
        rw (e, sound_in) (omega (arith, few, most))
    go (Err fault) e = rw (e, sound_in) (omega arith)

pub content-entities : (c : Content) → entities_size (content_entities c) ≤ content_size c
content-entities (header raw) = omega arith
content-entities (primitive raw) = raw-entities raw
content-entities (unread type) = omega arith

pub sound-size : (before : List Entity) (c : Content) → entities_size (sound_entities before c) ≤ content_size c
sound-size before (header raw) = omega arith
sound-size before (primitive raw) = raw-sound before raw
sound-size before (unread type) = omega arith
