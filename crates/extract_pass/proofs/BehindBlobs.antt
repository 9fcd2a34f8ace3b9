-- Where a pass stands once it has read a blob.
use Rattle.std.proofs.Common.{◌≡◌, ◌∙◌, ◌++◌, List, ℕ, [], Option, Some, None, Result, Ok, Err, refl, sym, ap, subst}
use Rattle.std.proofs.Common.{append-nil}
use Rattle.std.specs.Prelude.{option_map, unwrap_or}
use Rattle.std.specs.Option.{option_or}
use Rattle.mf_base.specs.declared.place.Rect.{Rect}
use Rattle.mf_base.specs.Steps.{fault_of, answer_of}
use Rattle.osm_model.specs.declared.faults.BlockFault.{BlockFault}
use Rattle.osm_model.specs.declared.faults.EntityFault.{EntityFault}
use Rattle.osm_model.specs.declared.faults.InputCode.{InputCode}
use Rattle.osm_model.specs.declared.faults.InputCode.TheVariants as input_codes
use Rattle.osm_model.specs.Frames.{header, primitive}
use Rattle.osm_model.specs.Blocks.{block_strings, header_box}
use Rattle.osm_model.specs.Entities.{Entity}
use Rattle.osm_model.specs.Objects.{Object}
use Rattle.osm_model.specs.Input.{content_fault, content_entities, content_box}
use Rattle.osm_model.specs.Order.{in_order, IsRising}
use Rattle.osm_entity.specs.Order.{StandsBehind}
use Rattle.extract_pass.specs.declared.behind.Behind.{Behind}
use Rattle.extract_pass.specs.declared.fault.BlobStop.{BlobStop}
use Rattle.extract_pass.specs.declared.fault.BlobStop.TheVariants as blob_stop
use Rattle.extract_pass.specs.Behind.{IsBehind}
use Rattle.extract_pass.specs.BlobReading.{ReadsObjects, NotesBlob, ReadsBlob, StoppedAmong}
use Rattle.extract_pass.proofs.BlockPass.{HasObjects, objects-rise, primitive-sound, sound-in, sound-none, block-refused}
use Rattle.extract_pass.proofs.BlockPass.{stop-in}

-- ---- a HeaderBlock

pub header-refused : (es : List Entity) (raw : List ℕ) (fault : BlockFault) (r : Result (Option Rect) BlockFault)
    → r ≡ header_box raw → r ≡ Err fault → content_fault es (header raw) ≡ Some (input_codes.Block fault)
header-refused es raw fault r is e = ap (λ x. option_map input_codes.Block (fault_of x)) (sym is ∙ e)

pub header-sound : (es : List Entity) (raw : List ℕ) (found : Option Rect) (r : Result (Option Rect) BlockFault)
    → r ≡ header_box raw → r ≡ Ok found → content_fault es (header raw) ≡ None
header-sound es raw found r is e = ap (λ x. option_map input_codes.Block (fault_of x)) (sym is ∙ e)

pub header-boxed : (raw : List ℕ) (found : Option Rect) (r : Result (Option Rect) BlockFault)
    → r ≡ header_box raw → r ≡ Ok found → content_box (header raw) ≡ found
header-boxed raw found r is e = ap (λ x. unwrap_or (answer_of x) None) (sym is ∙ e)

pub header-behind : (old new : Behind) (es : List Entity) (box : Option Rect) (raw : List ℕ) (found : Option Rect)
    → IsBehind old es box → content_box (header raw) ≡ found → new.order ≡ old.order
    → new.bounds ≡ option_or old.bounds found
    → IsBehind new (es ++ []) (option_or box (content_box (header raw)))
header-behind old new es box raw found t is order bounds =
    let same : es ≡ es ++ [] = sym (append-nil es) in record {
      rising = subst IsRising same t.rising;
      order = subst (λ xs. StandsBehind xs new.order) same (subst (λ o. StandsBehind es o) (sym order) t.order);
      boxed = bounds ∙ ap (λ o. option_or o found) t.boxed ∙ ap (option_or box) (sym is);
    }

-- what was kept of a header, for a pass whose reader reads nothing of it
pub header-reads : (A B : Type 0) (Behind : List Entity → Option Rect → Type 0) (Stands : List Entity → Type 0)
    (StoppedAt : List Entity → Entity → Type 0) (es : List Entity) (box : Option Rect) (raw : List ℕ)
    (x : A) (y : B) → NotesBlob Behind es box (header raw) (Ok x) → Stands es
    → ReadsBlob Behind Stands StoppedAt es box (header raw) (Ok y)
header-reads A B Behind Stands StoppedAt es box raw x y notes stands =
    (notes.0, notes.1, subst Stands (sym (append-nil es)) stands)

pub header-stops : (A B : Type 0) (Behind : List Entity → Option Rect → Type 0) (Stands : List Entity → Type 0)
    (StoppedAt : List Entity → Entity → Type 0) (es : List Entity) (box : Option Rect) (raw : List ℕ)
    (code : InputCode) → NotesBlob {A = A} Behind es box (header raw) (Err code) → Stands es
    → ReadsBlob {A = B} Behind Stands StoppedAt es box (header raw) (Err (blob_stop.Fault code))
header-stops A B Behind Stands StoppedAt es box raw code notes stands =
    (notes, subst Stands (sym (append-nil es)) stands)

-- ---- a PrimitiveBlock

or_none : (box : Option Rect) → box ≡ option_or box None
or_none None = refl
or_none (Some x) = refl

-- a block that is refused up to its strings, of which nothing is read
pub block-none : (A : Type 0) (Behind : List Entity → Option Rect → Type 0) (Stands : List Entity → Type 0)
    (StoppedAt : List Entity → Entity → Type 0) (es : List Entity) (box : Option Rect) (raw : List ℕ)
    (fault : BlockFault) → block_strings raw ≡ Err fault → Stands es
    → ReadsBlob {A = A} Behind Stands StoppedAt es box (primitive raw)
    (Err (blob_stop.Fault (input_codes.Block fault)))
block-none A Behind Stands StoppedAt es box raw fault e stands = (
  block-refused es raw fault e,
  subst Stands (sym (append-nil es) ∙ ap (λ xs. es ++ xs) (sym (sound-none es raw fault e))) stands,
)

-- the objects of a block, as they were read, are what the blob holds
pub block-reads : (A : Type 0) (Stands : List Entity → Type 0) (StoppedAt : List Entity → Entity → Type 0)
    (old new : Behind) (es : List Entity) (box : Option Rect) (raw : List ℕ)
    (objects : List (Result Object EntityFault)) (answer : Result A BlobStop) → HasObjects raw objects
    → IsBehind old es box → new.bounds ≡ old.bounds
    → ReadsObjects Stands StoppedAt es (in_order es objects) answer new.order
    → ReadsBlob (IsBehind new) Stands StoppedAt es box (primitive raw) answer
block-reads A Stands StoppedAt old new es box raw objects (Ok x) has t bounds reads =
    let sound = primitive-sound es raw has.in_block has.is
    (ap (λ l. (in_order es l).fault) (sym has.same) ∙ reads.0) in
    let items : (in_order es objects).items ≡ content_entities (primitive raw) =
    ap (λ l. (in_order es l).items) has.same ∙ sym sound.told in (
      sound.sound,
      record {
        rising = subst (λ xs. IsRising (es ++ xs)) items (objects-rise es raw objects has t.rising);
        order = subst (λ xs. StandsBehind (es ++ xs) new.order) items reads.1;
        boxed = bounds ∙ t.boxed ∙ or_none box;
      },
      subst (λ xs. Stands (es ++ xs)) items reads.2,
    )
block-reads A Stands StoppedAt old new es box raw objects (Err (blob_stop.Fault code)) has t bounds reads = (
  stop-in es raw objects has ∙ reads.0,
  subst (λ xs. Stands (es ++ xs)) (sym (sound-in es raw objects has)) reads.1,
)
block-reads A Stands StoppedAt old new es box raw objects (Err blob_stop.Reader) has t bounds reads =
    subst (StoppedAmong StoppedAt es) (sym (sound-in es raw objects has)) reads
