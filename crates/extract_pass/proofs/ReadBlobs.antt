-- Blobs of an extract, one behind another, whatever follows them.
use Rattle.std.proofs.Common.{◌≡◌, ◌⊎◌, ◌∙◌, ◌+◌, ℕ, List, [], ◌∷◌, ◌++◌, length, refl, sym, ap, subst, cond, true, inl, inr}
use Rattle.std.proofs.Common.{Option, Some, None, append_assoc, append-nil, length-append, Err}
use Rattle.std.specs.Option.{option_or}
use Rattle.std.proofs.lemmas.List.Elements.{filter-append}
use Rattle.mf_base.specs.declared.place.Rect.{Rect}
use Rattle.mf_edge.specs.Device.{SourceState}
use Rattle.osm_model.specs.declared.faults.FrameFault.{FrameFault}
use Rattle.osm_model.specs.declared.faults.InputCode.{InputCode}
use Rattle.osm_model.specs.declared.faults.InputCode.TheVariants as input_codes
use Rattle.osm_model.specs.Reading.{Reading, all_read, stops_at, then_reads}
use Rattle.osm_model.specs.Frames.{Frame, FrameFaultAt, AreFrames, LeadsTo, PassesOver, frames_at, frame_front}
use Rattle.osm_model.specs.Frames.{is_known}
use Rattle.osm_model.specs.Frames.{known_at, known_frames}
use Rattle.osm_model.specs.Entities.{Entity}
use Rattle.osm_model.specs.Input.{content_fault, content_entities, content_box, input_fault, input_entities}
use Rattle.osm_model.specs.Outcome.{Outcome, input_outcome, outcome_behind, with_blob}
use Rattle.osm_model.proofs.FrameListLaws.{frames-nil, frames-stop, frames-append}
use Rattle.osm_model.proofs.OutcomeLaws.{outcome-blob, outcome-fault, outcome-end, outcome-no_blob, known-outcome}
use Rattle.pbf_frame.specs.FrameReading.{BeginsNoBlob, FailsBehind}
use Rattle.extract_pass.specs.BlobReading.{sound_entities}
use Rattle.extract_pass.specs.EntityPass.{with_read, AreRead, HasInputFault, IsAccepted, WereHanded, BeginWith}

-- ---- blobs of known types

known_append : (at : ℕ) (fs : List Frame) (front rest : List ℕ) → AreFrames at front fs
    → known_at at (front ++ rest) ≡ record {
      items = known_frames fs ++ (known_at (at + length front) rest).items;
      fault = (known_at (at + length front) rest).fault;
    }
known_append at fs front rest h =
    let behind : Reading Frame FrameFaultAt = frames_at (at + length front) rest in
    ap (λ (read : Reading Frame FrameFaultAt). record { items = known_frames read.items; fault = read.fault })
    (frames-append at fs front rest h)
    ∙ ap (λ fs. record { items = fs; fault = behind.fault }) (filter-append is_known fs behind.items)

one_known : (passed : List Frame) (f : Frame) → known_frames passed ≡ [] → is_known f ≡ true
    → known_frames (passed ++ (f ∷ [])) ≡ f ∷ []
one_known passed f none known = filter-append is_known passed (f ∷ []) ∙ ap (λ fs. fs ++ known_frames (f ∷ [])) none
    ∙ ap (λ c. cond c (f ∷ []) []) known

known_led : (at : ℕ) (b rest : List ℕ) (f : Frame) → LeadsTo at b f
    → known_at at (b ++ rest) ≡ then_reads f (known_at (at + length b) rest)
known_led at b rest f led =
    let behind : Reading Frame FrameFaultAt = known_at (at + length b) rest in
    known_append at (led.passed ++ (f ∷ [])) b rest led.spelled
    ∙ ap (λ fs. record { items = fs ++ behind.items; fault = behind.fault })
    (one_known led.passed f led.unknown led.known)

known_passed : (at : ℕ) (b rest : List ℕ) → PassesOver at b
    → known_at at (b ++ rest) ≡ known_at (at + length b) rest
known_passed at b rest over =
    let behind : Reading Frame FrameFaultAt = known_at (at + length b) rest in
    known_append at over.passed b rest over.spelled
    ∙ ap (λ fs. record { items = fs ++ behind.items; fault = behind.fault }) over.unknown

known_none : (at : ℕ) → known_at at [] ≡ all_read
known_none at = ap (λ (read : Reading Frame FrameFaultAt). record {
  items = known_frames read.items;
  fault = read.fault;
}) (frames-nil at)

known_stop : (at b : ℕ) (rest : List ℕ) (fault : FrameFault) → frame_front at (b ∷ rest) ≡ Err fault
    → known_at at (b ∷ rest) ≡ stops_at (record { at = at; fault = fault })
known_stop at b rest fault e = ap (λ (read : Reading Frame FrameFaultAt). record {
  items = known_frames read.items;
  fault = read.fault;
}) (frames-stop at b rest fault e)

-- ---- the blobs so far

or_assoc : (a b c : Option Rect) → option_or a (option_or b c) ≡ option_or (option_or a b) c
or_assoc None b c = refl
or_assoc (Some x) b c = refl

or_none : (o : Option Rect) → option_or o None ≡ o
or_none None = refl
or_none (Some x) = refl

pub read-none : AreRead [] [] None
read-none more = known-outcome more

length_two : (x y : List ℕ) → length (x ++ y) ≡ length x + length y
length_two x y = length-append x y

-- one blob more, whatever it holds
behind_blob : (bytes b more : List ℕ) (es : List Entity) (box : Option Rect) (f : Frame) → AreRead bytes es box
    → LeadsTo (length bytes) b f
    → input_outcome ((bytes ++ b) ++ more)
    ≡ with_read es box (outcome_behind es (then_reads f (known_at (length (bytes ++ b)) more)))
behind_blob bytes b more es box f read led =
    ap input_outcome (append_assoc bytes b more) ∙ read (b ++ more)
    ∙ ap (λ r. with_read es box (outcome_behind es r)) (known_led (length bytes) b more f led
    ∙ ap (λ n. then_reads f (known_at n more)) (sym (length_two bytes b)))

with_more : (es : List Entity) (box : Option Rect) (f : Frame) (rest : Outcome)
    → with_read es box (with_blob f.content rest)
    ≡ with_read (es ++ content_entities f.content) (option_or box (content_box f.content)) rest
with_more es box f rest =
    ap (λ all. record {
      fault = rest.fault;
      entities = all;
      bounds = option_or box (option_or (content_box f.content) rest.bounds);
    }) (sym (append_assoc es (content_entities f.content) rest.entities))
    ∙ ap (λ o. record {
      fault = rest.fault;
      entities = (es ++ content_entities f.content) ++ rest.entities;
      bounds = o;
    }) (or_assoc box (content_box f.content) rest.bounds)

pub read-blob : (bytes b : List ℕ) (es : List Entity) (box : Option Rect) (f : Frame) → AreRead bytes es box
    → LeadsTo (length bytes) b f → content_fault es f.content ≡ None
    → AreRead (bytes ++ b) (es ++ content_entities f.content) (option_or box (content_box f.content))
read-blob bytes b es box f read led sound more =
    let rest : Reading Frame FrameFaultAt = known_at (length (bytes ++ b)) more in
    behind_blob bytes b more es box f read led ∙ ap (with_read es box) (outcome-blob es f rest sound)
    ∙ with_more es box f (outcome_behind (es ++ content_entities f.content) rest)

-- ---- the ends of a pass

pub read-fault : (bytes b : List ℕ) (es : List Entity) (box : Option Rect) (f : Frame) (code : InputCode)
    (source : SourceState) → AreRead bytes es box → LeadsTo (length bytes) b f
    → content_fault es f.content ≡ Some code
    → HasInputFault (record { at = f.at; code = code }) source (bytes ++ b)
read-fault bytes b es box f code source read led wrong = inl (λ more.
    ap (λ (o : Outcome). o.fault) (behind_blob bytes b more es box f read led
    ∙ ap (with_read es box) (outcome-fault es f (known_at (length (bytes ++ b)) more) code wrong)))

-- blobs without a fault, and then some that are passed over, are all of an input
read_whole : (bytes b : List ℕ) (es : List Entity) (box : Option Rect) → AreRead bytes es box
    → PassesOver (length bytes) b
    → input_outcome (bytes ++ b) ≡ record { fault = None; entities = es; bounds = box }
read_whole bytes b es box read over =
    ap (λ x. input_outcome (bytes ++ x)) (sym (append-nil b)) ∙ read (b ++ [])
    ∙ ap (λ r. with_read es box (outcome_behind es r)) (known_passed (length bytes) b [] over
    ∙ known_none (length bytes + length b)) ∙ ap (with_read es box) (outcome-end es)
    ∙ ap (λ all. record { fault = None; entities = all; bounds = option_or box None }) (append-nil es)
    ∙ ap (λ o. record { fault = None; entities = es; bounds = o }) (or_none box)

-- the same where nothing is behind them
read_alone : (bytes : List ℕ) (es : List Entity) (box : Option Rect) → AreRead bytes es box
    → input_outcome bytes ≡ record { fault = None; entities = es; bounds = box }
read_alone bytes es box read =
    ap input_outcome (sym (append-nil bytes)) ∙ read []
    ∙ ap (λ r. with_read es box (outcome_behind es r)) (known_none (length bytes))
    ∙ ap (with_read es box) (outcome-end es)
    ∙ ap (λ all. record { fault = None; entities = all; bounds = option_or box None }) (append-nil es)
    ∙ ap (λ o. record { fault = None; entities = es; bounds = o }) (or_none box)

pub read-end : (Stands : List Entity → Type 0) (bytes b : List ℕ) (es : List Entity) (box : Option Rect)
    → AreRead bytes es box → PassesOver (length bytes) b → Stands es → IsAccepted Stands box (bytes ++ b)
read-end Stands bytes b es box read over stands =
    let end = read_whole bytes b es box read over in record {
      sound = ap (λ (o : Outcome). o.fault) end;
      stands = subst (λ (o : Outcome). Stands o.entities) (sym end) stands;
      boxed = ap (λ (o : Outcome). o.bounds) end;
    }

-- the fault where bytes that begin with no blob stand behind some that are passed over
fault_there : (bytes front rest more : List ℕ) (es : List Entity) (box : Option Rect) (told : ℕ) (fault : FrameFault)
    → AreRead bytes es box → PassesOver (length bytes) front
    → known_at (length bytes + length front) (rest ++ more) ≡ stops_at (record { at = told; fault = fault })
    → input_fault ((bytes ++ (front ++ rest)) ++ more) ≡ Some (record { at = told; code = input_codes.Frame fault })
fault_there bytes front rest more es box told fault read over stop =
    ap (λ (o : Outcome). o.fault) (ap input_outcome (append_assoc bytes (front ++ rest) more
    ∙ ap (λ x. bytes ++ x) (append_assoc front rest more)) ∙ read (front ++ (rest ++ more))
    ∙ ap (λ r. with_read es box (outcome_behind es r)) (known_passed (length bytes) front (rest ++ more) over ∙ stop)
    ∙ ap (with_read es box) (outcome-no_blob es (record { at = told; fault = fault })))

begins_none : (at told : ℕ) (fault : FrameFault) (rest more : List ℕ) → told ≡ at → (rest ≡ [] → ⊥)
    → frame_front told (rest ++ more) ≡ Err fault
    → known_at at (rest ++ more) ≡ stops_at (record { at = told; fault = fault })
begins_none at told fault [] more place some e = absurd (some refl)
begins_none at told fault (b ∷ rest) more place some e =
    ap (λ n. known_at n ((b ∷ rest) ++ more)) (sym place) ∙ known_stop told b (rest ++ more) fault e

pub read-no_blob : (bytes b : List ℕ) (es : List Entity) (box : Option Rect) (told : ℕ) (fault : FrameFault)
    (source : SourceState) → AreRead bytes es box → FailsBehind (length bytes) told fault source b
    → HasInputFault (record { at = told; code = input_codes.Frame fault }) source (bytes ++ b)
read-no_blob bytes b es box told fault source read fails = go fails.begins
  where
    whole : bytes ++ b ≡ bytes ++ (fails.front ++ fails.rest)
    whole = ap (λ x. bytes ++ x) fails.whole

    here : (more : List ℕ) → frame_front told (fails.rest ++ more) ≡ Err fault
        → input_fault ((bytes ++ b) ++ more) ≡ Some (record { at = told; code = input_codes.Frame fault })
    here more e =
        ap (λ x. input_fault (x ++ more)) whole
        ∙ fault_there bytes fails.front fails.rest more es box told fault read fails.passed
        (begins_none (length bytes + length fails.front) told fault fails.rest more fails.place fails.begins.0 e)

    go : BeginsNoBlob told fault source fails.rest
        → HasInputFault (record { at = told; code = input_codes.Frame fault }) source (bytes ++ b)
    go (some, inl always) = inl (λ more. here more (always more))
    go (some, inr (e, end)) = inr (
      ap input_fault (sym (append-nil (bytes ++ b)))
          ∙ here [] (ap (frame_front told) (append-nil fails.rest) ∙ e),
      end,
    )

-- ---- which entities were handed on

pub handed-all : (bytes : List ℕ) (es : List Entity) (box : Option Rect) → AreRead bytes es box → WereHanded bytes es
handed-all bytes es box read =
    let alone = read_alone bytes es box read in record {
      front = bytes;
      rest = [];
      whole = sym (append-nil bytes);
      sound = ap (λ (o : Outcome). o.fault) alone;
      more = [];
      told = sym (ap (λ (o : Outcome). o.entities) alone) ∙ sym (append-nil _);
      from = inl refl;
    }

-- the first entities of the blob behind those that were read
pub handed-blob : (bytes b : List ℕ) (es given left : List Entity) (box : Option Rect) (f : Frame)
    → AreRead bytes es box → LeadsTo (length bytes) b f → sound_entities es f.content ≡ given ++ left
    → WereHanded (bytes ++ b) (es ++ given)
handed-blob bytes b es given left box f read led first =
    let alone = read_alone bytes es box read in
    let same : input_entities bytes ≡ es = ap (λ (o : Outcome). o.entities) alone in record {
      front = bytes;
      rest = b;
      whole = refl;
      sound = ap (λ (o : Outcome). o.fault) alone;
      more = given;
      told = ap (λ xs. xs ++ given) (sym same);
      from = inr (record {
        front = b;
        more = [];
        whole = sym (append-nil b);
        blob = f;
        leads = led;
        left = left;
        first = ap (λ xs. sound_entities xs f.content) same ∙ first;
      });
    }

begin_longer : (before : List Entity) (at : ℕ) (bytes more : List ℕ) (es : List Entity)
    → BeginWith before at bytes es → BeginWith before at (bytes ++ more) es
begin_longer before at bytes more es h = record {
  front = h.front;
  more = h.more ++ more;
  whole = ap (λ x. x ++ more) h.whole ∙ append_assoc h.front h.more more;
  blob = h.blob;
  leads = h.leads;
  left = h.left;
  first = h.first;
}

-- the same of more bytes
pub handed-longer : (bytes more : List ℕ) (es : List Entity) → WereHanded bytes es → WereHanded (bytes ++ more) es
handed-longer bytes more es h = record {
  front = h.front;
  rest = h.rest ++ more;
  whole = ap (λ x. x ++ more) h.whole ∙ append_assoc h.front h.rest more;
  sound = h.sound;
  more = h.more;
  told = h.told;
  from = go h.from;
}
  where
    go : (h.more ≡ []) ⊎ BeginWith (input_entities h.front) (length h.front) h.rest h.more
        → (h.more ≡ []) ⊎ BeginWith (input_entities h.front) (length h.front) (h.rest ++ more) h.more
    go (inl none) = inl none
    go (inr begins) = inr (begin_longer (input_entities h.front) (length h.front) h.rest more h.more begins)
