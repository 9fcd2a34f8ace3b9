-- A pass over the blobs of an extract, by what its reader and the reader of blobs tell.
use Rattle.std.proofs.Common.{◌≡◌, ◌∙◌, ℕ, List, [], ◌∷◌, ◌++◌, length, refl, sym, ap, subst, arith, inl, inr}
use Rattle.std.proofs.Common.{Option, Some, None, Result, Ok, Err, length-append, append-nil, append_assoc}
use Rattle.std.specs.Option.{option_or}
use Rattle.std.proofs.lemmas.Option.{none-some, same_Some}
use Rattle.mf_base.specs.declared.place.Rect.{Rect}
use Rattle.mf_edge.specs.Device.{Takes, HasNone}
use Rattle.mf_edge.specs.Stream.{StreamState, IsWalk}
use Rattle.osm_model.specs.declared.faults.InputFault.{InputFault}
use Rattle.osm_model.specs.Frames.{Frame, LeadsTo, PassesOver}
use Rattle.osm_model.specs.Entities.{Entity}
use Rattle.osm_model.specs.Input.{content_entities, content_box}
use Rattle.osm_model.specs.Input.{input_fault}
use Rattle.extract_pass.specs.declared.fault.PassFault.{PassFault}
use Rattle.extract_pass.specs.declared.fault.PassFault.TheVariants as pass_fault
use Rattle.extract_pass.specs.declared.fault.BlobStop.{BlobStop}
use Rattle.extract_pass.specs.declared.fault.BlobStop.TheVariants as blob_stop
use Rattle.pbf_frame.specs.declared.frame.Frame as given
use Rattle.pbf_frame.specs.declared.frame_fault.NextFault.{NextFault}
use Rattle.pbf_frame.specs.declared.frame_fault.NextFault.TheVariants as next_fault
use Rattle.pbf_frame.specs.FrameReading.{HasTaken, TakesBlobs, frame_shown, FailsBehind}
use Rattle.mf_edge.proofs.Taking.{Takes-then}
use Rattle.extract_pass.specs.BlobReading.{ReadsBlob, StoppedAmong, sound_entities}
use Rattle.extract_pass.specs.EntityPass.{AreRead, HasRead, HasInputFault, IsAccepted, WereHanded, HasStopped}
use Rattle.extract_pass.specs.EntityPass.{TellsPass, TellsPassOf, told_fault, told_stop}
use Rattle.extract_pass.proofs.ReadBlobs.{read-none, read-blob, read-fault, read-end, read-no_blob}
use Rattle.extract_pass.proofs.ReadBlobs.{handed-all, handed-blob, handed-longer}

takes-none : (left : Option (List ℕ)) → Takes left [] left
takes-none None = refl
takes-none (Some all) = refl

-- What is kept stands behind the blobs so far, and the reader has read their entities.
abbrev pub Both : (List Entity → Option Rect → Type 0) → (List Entity → Type 0) → List Entity → Option Rect → Type 0
Both Behind Stands entities bounds = Behind entities bounds × Stands entities

pub pass-first : (Behind : List Entity → Option Rect → Type 0) (Stands : List Entity → Type 0) (old : StreamState)
    → Behind [] None → Stands [] → HasRead (Both Behind Stands) old old
pass-first Behind Stands old behind stands = record {
  bytes = [];
  taken = takes-none old.source.left;
  counted = omega arith;
  holds = ([], None, (behind, stands), read-none);
}

pub walk-none : (old : StreamState) → IsWalk 0 old old
walk-none old = record {
  same_reference = refl;
  rises = omega arith;
  far = omega arith;
  reads = omega arith;
  counts = omega arith;
}

-- bytes that were taken, and then others
join : (old mid new : StreamState) (P Q R : List ℕ → Type 0) (first : HasTaken P old mid) (second : HasTaken Q mid new)
    → R (first.bytes ++ second.bytes) → HasTaken R old new
join old mid new P Q R first second holds = record {
  bytes = first.bytes ++ second.bytes;
  taken = Takes-then old.source.left mid.source.left new.source.left first.bytes second.bytes first.taken second.taken;
  counted = omega (arith, first.counted, second.counted, length-append first.bytes second.bytes);
  holds = holds;
}

-- how many bytes were taken since the start
place : (P : List ℕ → Type 0) (old mid : StreamState) → old.offset ≡ 0 → (h : HasTaken P old mid)
    → mid.offset ≡ length h.bytes
place P old mid start h = omega (arith, h.counted, start)

-- What was read of the blob that was given, wherever it stands.
abbrev pub ReadsNext : {A : Type 0} → (List Entity → Option Rect → Type 0) → (List Entity → Type 0)
    → (List Entity → Option Rect → Type 0) → (List Entity → Type 0) → (List Entity → Entity → Type 0)
    → List ℕ → given.Frame → Result A BlobStop → Type 0
ReadsNext Behind Stands BehindNow Now StoppedAt block f answer =
    (es : List Entity) (box : Option Rect) → Behind es box → Stands es
    → ReadsBlob BehindNow Now StoppedAt es box (frame_shown block f).content answer

pub pass-blob : (Behind : List Entity → Option Rect → Type 0) (Stands : List Entity → Type 0)
    (BehindNow : List Entity → Option Rect → Type 0) (Now : List Entity → Type 0)
    (StoppedAt : List Entity → Entity → Type 0) (old mid new : StreamState) (block : List ℕ)
    (result : Result (Option given.Frame) NextFault) (f : given.Frame) (A : Type 0) (x : A)
    → old.offset ≡ 0 → HasRead (Both Behind Stands) old mid → TakesBlobs mid block result new
    → result ≡ Ok (Some f) → ReadsNext Behind Stands BehindNow Now StoppedAt block f (Ok x)
    → HasRead (Both BehindNow Now) old new
pass-blob Behind Stands BehindNow Now StoppedAt old mid new block result f A x start so takes is reads =
    let shown = frame_shown block f in
    let second = subst (λ r. TakesBlobs mid block r new) is takes in
    let (es, box, stands, read) = so.holds in
    let told = reads es box stands.0 stands.1 in
    let led = subst (λ n. LeadsTo n second.bytes shown) (place _ old mid start so) second.holds in
    join old mid new _ _ _ so second (
      es ++ content_entities shown.content,
      option_or box (content_box shown.content),
      (told.1, told.2),
      read-blob so.bytes second.bytes es box shown read led told.0,
    )

-- the reader stopped at an entity of the blob
stopped : (StoppedAt : List Entity → Entity → Type 0) (bytes b : List ℕ) (es : List Entity) (box : Option Rect)
    (f : Frame) → AreRead bytes es box → LeadsTo (length bytes) b f
    → StoppedAmong StoppedAt es (sound_entities es f.content) → HasStopped StoppedAt (bytes ++ b)
stopped StoppedAt bytes b es box f read led (given, e, left, items, stop) =
    let first : sound_entities es f.content ≡ (given ++ e ∷ []) ++ left = items ∙ sym (append_assoc given (e ∷ []) left) in (
      es ++ given,
      e,
      subst (WereHanded (bytes ++ b)) (sym (append_assoc es given (e ∷ [])))
          (handed-blob bytes b es (given ++ e ∷ []) left box f read led first),
      stop,
    )

pub pass-stop : (Behind : List Entity → Option Rect → Type 0) (Stands : List Entity → Type 0)
    (BehindNow : List Entity → Option Rect → Type 0) (Now : List Entity → Type 0)
    (StoppedAt : List Entity → Entity → Type 0) (old mid new : StreamState) (block : List ℕ)
    (result : Result (Option given.Frame) NextFault) (f : given.Frame) (A : Type 0) (stop : BlobStop)
    → old.offset ≡ 0 → HasRead (Both Behind Stands) old mid → TakesBlobs mid block result new
    → result ≡ Ok (Some f) → ReadsNext {A = A} Behind Stands BehindNow Now StoppedAt block f (Err stop)
    → TellsPass Now StoppedAt old (Err (told_stop f.at stop)) new
pass-stop Behind Stands BehindNow Now StoppedAt old mid new block result f A (blob_stop.Fault code) start so takes is
    reads =
    let shown = frame_shown block f in
    let second = subst (λ r. TakesBlobs mid block r new) is takes in
    let (es, box, stands, read) = so.holds in
    let told = reads es box stands.0 stands.1 in
    let led = subst (λ n. LeadsTo n second.bytes shown) (place _ old mid start so) second.holds in
    let sound = sound_entities es shown.content in
    join old mid new _ _ _ so second (
      read-fault so.bytes second.bytes es box shown code new.source read led told.0,
      (es ++ sound, handed-blob so.bytes second.bytes es sound [] box shown read led (sym (append-nil sound)), told.1),
    )
pass-stop Behind Stands BehindNow Now StoppedAt old mid new block result f A blob_stop.Reader start so takes is reads =
    let shown = frame_shown block f in
    let second = subst (λ r. TakesBlobs mid block r new) is takes in
    let (es, box, stands, read) = so.holds in
    let led = subst (λ n. LeadsTo n second.bytes shown) (place _ old mid start so) second.holds in
    join old mid new _ _ _ so second
    (stopped StoppedAt so.bytes second.bytes es box shown read led (reads es box stands.0 stands.1))

pub pass-end : (Behind : List Entity → Option Rect → Type 0) (Stands : List Entity → Type 0)
    (StoppedAt : List Entity → Entity → Type 0) (old mid new : StreamState) (block : List ℕ)
    (result : Result (Option given.Frame) NextFault) (bounds : Option Rect)
    → old.offset ≡ 0 → HasRead (Both Behind Stands) old mid → TakesBlobs mid block result new → result ≡ Ok None
    → ((es : List Entity) (box : Option Rect) → Behind es box → box ≡ bounds)
    → TellsPass Stands StoppedAt old (Ok bounds) new
pass-end Behind Stands StoppedAt old mid new block result bounds start so takes is boxed =
    let second = subst (λ r. TakesBlobs mid block r new) is takes in
    let (es, box, stands, read) = so.holds in
    let over = subst (λ n. PassesOver n second.bytes) (place _ old mid start so) second.holds.0 in
    join old mid new _ _ _ so second (
      subst (λ b. IsAccepted Stands b (so.bytes ++ second.bytes)) (boxed es box stands.0)
          (read-end Stands so.bytes second.bytes es box read over stands.1),
      second.holds.1,
    )

pub pass-none : (Behind : List Entity → Option Rect → Type 0) (Stands : List Entity → Type 0)
    (StoppedAt : List Entity → Entity → Type 0) (old mid new : StreamState) (block : List ℕ)
    (result : Result (Option given.Frame) NextFault) (fault : NextFault)
    → old.offset ≡ 0 → HasRead (Both Behind Stands) old mid → TakesBlobs mid block result new → result ≡ Err fault
    → TellsPass Stands StoppedAt old (Err (told_fault fault)) new
pass-none Behind Stands StoppedAt old mid new block result next_fault.Read start so takes is =
    let (es, box, stands, read) = so.holds in (
      mid,
      record {
        bytes = so.bytes;
        taken = so.taken;
        counted = so.counted;
        holds = (es, handed-all so.bytes es box read, stands.1);
      },
    )
pass-none Behind Stands StoppedAt old mid new block result (next_fault.Frame told why) start so takes is =
    let second = subst (λ r. TakesBlobs mid block r new) is takes in
    let (es, box, stands, read) = so.holds in
    let fails = subst (λ n. FailsBehind n told why new.source second.bytes) (place _ old mid start so) second.holds in
    join old mid new _ _ _ so second (
      read-no_blob so.bytes second.bytes es box told why new.source read fails,
      (es, handed-longer so.bytes second.bytes es (handed-all so.bytes es box read), stands.1),
    )

-- ---- of a source that tells its bytes

all_taken : (all bytes : List ℕ) (left now : Option (List ℕ)) → left ≡ Some all → Takes left bytes now
    → (rest : List ℕ) × (now ≡ Some rest) × (all ≡ bytes ++ rest)
all_taken all bytes None now told taken = absurd (none-some all told)
all_taken all bytes (Some left) None told taken = absurd taken
all_taken all bytes (Some left) (Some rest) told taken = (rest, refl, sym (same_Some left all told) ∙ taken)

none_left : (now : Option (List ℕ)) (rest : List ℕ) → now ≡ Some rest → HasNone now → rest ≡ []
none_left now rest e end = rw e at end

-- the first fault of all bytes, of which some were taken
fault_of_all : (fault : InputFault) (old new : StreamState) (all bytes : List ℕ) → old.source.left ≡ Some all
    → Takes old.source.left bytes new.source.left → HasInputFault fault new.source bytes
    → input_fault all ≡ Some fault
fault_of_all fault old new all bytes told taken has =
    let (rest, now, whole) = all_taken all bytes old.source.left new.source.left told taken in
    ap input_fault whole ∙ go rest now has
  where
    go : (rest : List ℕ) → new.source.left ≡ Some rest → HasInputFault fault new.source bytes
        → input_fault (bytes ++ rest) ≡ Some fault
    go rest now (inl always) = always rest
    go rest now (inr (e, end)) =
        ap (λ r. input_fault (bytes ++ r)) (none_left new.source.left rest now end)
        ∙ ap input_fault (append-nil bytes) ∙ e

-- entities of the bytes that were taken are entities of all bytes
handed_of_all : (es : List Entity) (old new : StreamState) (all bytes : List ℕ) → old.source.left ≡ Some all
    → Takes old.source.left bytes new.source.left → WereHanded bytes es → WereHanded all es
handed_of_all es old new all bytes told taken handed =
    let (rest, now, whole) = all_taken all bytes old.source.left new.source.left told taken in
    subst (λ b. WereHanded b es) (sym whole) (handed-longer bytes rest es handed)

pub told-exact : (Stands : List Entity → Type 0) (StoppedAt : List Entity → Entity → Type 0) (old new : StreamState)
    (all : List ℕ) (result : Result (Option Rect) PassFault) → TellsPass Stands StoppedAt old result new
    → old.source.left ≡ Some all → TellsPassOf Stands StoppedAt all result
told-exact Stands StoppedAt old new all (Ok bounds) h told =
    let (rest, now, whole) = all_taken all h.bytes old.source.left new.source.left told h.taken in
    let same : h.bytes ≡ all = sym (append-nil h.bytes)
    ∙ ap (λ r. h.bytes ++ r) (sym (none_left new.source.left rest now h.holds.1)) ∙ sym whole in
    subst (IsAccepted Stands bounds) same h.holds.0
told-exact Stands StoppedAt old new all (Err (pass_fault.Input fault)) h told =
    let (es, handed, stands) = h.holds.1 in (
      fault_of_all fault old new all h.bytes told h.taken h.holds.0,
      (es, handed_of_all es old new all h.bytes told h.taken handed, stands),
    )
told-exact Stands StoppedAt old new all (Err pass_fault.Stopped) h told =
    let (es, e, handed, stop) = h.holds in (
      es,
      e,
      handed_of_all (es ++ e ∷ []) old new all h.bytes told h.taken handed,
      stop,
    )
told-exact Stands StoppedAt old new all (Err pass_fault.Read) (mid, h) told =
    let (es, handed, stands) = h.holds in (es, handed_of_all es old mid all h.bytes told h.taken handed, stands)
