-- The entities of an input that were handed on take no more bytes than it has.
use Rattle.std.proofs.Common.{◌≡◌, ◌+◌, ◌*◌, ◌≤◌, ℕ, List, [], ◌∷◌, ◌++◌, ap, subst, arith, length, inl, inr}
use Rattle.std.proofs.Common.{length-append, ◌⊎◌}
use Rattle.mf_edge.specs.Spill.{part_limit}
use Rattle.osm_model.specs.Frames.{Frame, frames, frames_at}
use Rattle.osm_model.specs.Entities.{Entity, node, way, relation}
use Rattle.osm_model.specs.Input.{good_frames, sound_frames, entities_of, input_entities, content_entities}
use Rattle.osm_model.proofs.FrameListLaws.{frames-append}
use Rattle.osm_model.proofs.InputLaws.{sound_to}
use Rattle.extract_pass.specs.EntitySizes.{entity_size, entities_size}
use Rattle.extract_pass.specs.EntityPass.{BeginWith, WereHanded}
use Rattle.extract_pass.proofs.FieldSizes.{total-append}
use Rattle.mf_ingest.specs.Gathered.{most_bytes}
use Rattle.mf_ingest.specs.Ingesting.{most_of, most_per_byte}
use Rattle.mf_ingest.specs.Ingest.{HasSmallParts}
use Rattle.mf_ingest.proofs.ContentSizes.{content_size, contents_size, frames-size, content-entities, sound-size}

append-size : (xs ys : List Entity) → entities_size (xs ++ ys) ≡ entities_size xs + entities_size ys
append-size [] ys = omega arith
append-size (x ∷ xs) ys = let more = append-size xs ys in omega (arith, more)

-- ---- all entities of an input

blobs-size : (fs : List Frame) → entities_size (entities_of fs) ≤ contents_size fs
blobs-size [] = omega arith
blobs-size (f ∷ fs) =
    let one = content-entities f.content in
    let more = blobs-size fs in
    omega (arith, one, more, append-size (content_entities f.content) (entities_of fs))

good-size : (bytes : List ℕ) → contents_size (good_frames bytes) ≤ length bytes
unfolding good_frames
good-size bytes =
    let all = frames-size 0 bytes in
    let sound = sound_to (frames bytes).items [] in
    let parts = total-append (λ (f : Frame). content_size f.content) (sound_frames [] (frames bytes).items).items
    sound.later in
    omega (arith, all, ap contents_size sound.whole, parts)

input-size : (bytes : List ℕ) → entities_size (input_entities bytes) ≤ length bytes
unfolding input_entities
input-size bytes = omega (arith, blobs-size (good_frames bytes), good-size bytes)

-- ---- the first of one blob more

begun-size : (before : List Entity) (at : ℕ) (bytes : List ℕ) (entities : List Entity)
    → BeginWith before at bytes entities → entities_size entities ≤ length bytes
begun-size before at bytes entities begun =
    let size = λ (f : Frame). content_size f.content in
    let found = begun.leads.passed ++ begun.blob ∷ [] in
    let behind = (frames_at (at + length begun.front) begun.more).items in
    let all = subst (λ b. contents_size (frames_at at b).items ≤ length bytes) begun.whole (frames-size at bytes) in
    let blobs = ap (λ r. contents_size r.items) (frames-append at found begun.front begun.more begun.leads.spelled) in
    let few = sound-size before begun.blob.content in
    omega (
      arith,
      all,
      blobs,
      few,
      total-append size found behind,
      total-append size begun.leads.passed (begun.blob ∷ []),
      ap entities_size begun.first,
      append-size entities begun.left,
    )

-- ---- what was handed on

more-size : (before : List Entity) (at : ℕ) (bytes : List ℕ) (entities : List Entity)
    → (entities ≡ []) ⊎ BeginWith before at bytes entities → entities_size entities ≤ length bytes
more-size before at bytes entities (inl none) = omega (arith, ap entities_size none)
more-size before at bytes entities (inr begun) = begun-size before at bytes entities begun

pub handed-size : (bytes : List ℕ) (entities : List Entity) → WereHanded bytes entities
    → entities_size entities ≤ length bytes
handed-size bytes entities handed =
    let first = input-size handed.front in
    let others = more-size (input_entities handed.front) (length handed.front) handed.rest handed.more handed.from in
    omega (
      arith,
      first,
      others,
      ap entities_size handed.told,
      append-size (input_entities handed.front) handed.more,
      ap length handed.whole,
      length-append handed.front handed.rest,
    )

-- ---- what they come to in parts

one-most : (e : Entity) → most_bytes e ≤ most_per_byte * entity_size e
one-most (node n) = omega arith
one-most (way w) = omega arith
one-most (relation r) = omega arith

sizes-most : (entities : List Entity) → most_of entities ≤ most_per_byte * entities_size entities
sizes-most [] = omega arith
sizes-most (e ∷ entities) =
    let one = one-most e in
    let more = sizes-most entities in
    omega (arith, one, more)

pub handed-most : (bytes : List ℕ) (entities : List Entity) → WereHanded bytes entities
    → most_of entities ≤ most_per_byte * length bytes
handed-most bytes entities handed = omega (arith, sizes-most entities, handed-size bytes entities handed)

pub small-parts : (bytes : List ℕ) → most_per_byte * length bytes ≤ part_limit → HasSmallParts bytes
small-parts bytes few entities handed = omega (arith, few, handed-most bytes entities handed)
