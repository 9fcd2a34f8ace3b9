-- Blobs without a fault so far, and one more: a pass over bytes that were taken from a source cites this.
use Rattle.std.proofs.Common.{◌≡◌, ◌∙◌, ℕ, ◌+◌, List, [], ◌∷◌, ◌++◌, length, refl, sym, ap, subst, arith, append-nil}
use Rattle.std.proofs.Common.{append_assoc, Bool, true, false, Option, Some, None}
use Rattle.std.specs.Prelude.{slice_get, filter_map}
use Rattle.std.specs.List.{cons_option}
use Rattle.std.proofs.lemmas.Bool.{false≢true}
use Rattle.std.specs.Option.{option_or}
use Rattle.mf_base.specs.declared.place.Rect.{Rect}
use Rattle.osm_model.specs.Frames.{Content, header, primitive, unread, Frame, AreFrames, known_frames, PassesOver}
use Rattle.osm_model.specs.Frames.{LeadsTo}
use Rattle.osm_model.specs.Entities.{Entity}
use Rattle.osm_model.specs.Input.{content_fault, content_entities, content_box, entities_of, input_entities, input_box}
use Rattle.osm_model.specs.Input.{good_frames, AreSound}
use Rattle.osm_model.specs.Outcome.{input_outcome, first_box, AreSoundBlobs}
use Rattle.osm_model.proofs.FrameListLaws.{frames_join}
use Rattle.osm_model.proofs.NextLaws.{unknown_first}
use Rattle.osm_model.proofs.InputOnly.{input_whole}

-- ---- lists of blobs

pub entities-append : (fs gs : List Frame) → entities_of (fs ++ gs) ≡ entities_of fs ++ entities_of gs
entities-append [] gs = refl
entities-append (f ∷ fs) gs = ap (λ es. content_entities f.content ++ es) (entities-append fs gs)
    ∙ sym (append_assoc (content_entities f.content) (entities_of fs) (entities_of gs))

first_one : (o : Option Rect) (rest : List Rect) → slice_get (cons_option o rest) 0 ≡ option_or o (slice_get rest 0)
first_one None rest = refl
first_one (Some box) rest = refl

or_assoc : (a b c : Option Rect) → option_or a (option_or b c) ≡ option_or (option_or a b) c
or_assoc None b c = refl
or_assoc (Some x) b c = refl

first-next : (f : Frame) (fs : List Frame) → first_box (f ∷ fs) ≡ option_or (content_box f.content) (first_box fs)
first-next f fs = first_one (content_box f.content) (filter_map (λ (g : Frame). content_box g.content) fs)

pub box-append : (fs gs : List Frame) → first_box (fs ++ gs) ≡ option_or (first_box fs) (first_box gs)
box-append [] gs = refl
box-append (f ∷ fs) gs =
    first-next f (fs ++ gs) ∙ ap (option_or (content_box f.content)) (box-append fs gs)
    ∙ or_assoc (content_box f.content) (first_box fs) (first_box gs)
    ∙ ap (λ o. option_or o (first_box gs)) (sym (first-next f fs))

pub sound_join : (before : List Entity) (fs gs : List Frame) → AreSound before fs
    → AreSound (before ++ entities_of fs) gs → AreSound before (fs ++ gs)
sound_join before [] gs h k = subst (λ es. AreSound es gs) (append-nil before) k
sound_join before (f ∷ fs) gs h k = (
  h.0,
  sound_join (before ++ content_entities f.content) fs gs h.1
      (subst (λ es. AreSound es gs) (sym (append_assoc before (content_entities f.content) (entities_of fs))) k),
)

-- ---- blobs that are passed over

abbrev known_of : Content → Bool
known_of c = elim c [ header raw ↦ true | primitive raw ↦ true | unread type ↦ false ]

-- They have no fault, and hold no entity and no box.
record HoldNothing (before : List Entity) (passed : List Frame) : Type 0 where
  sound : AreSound before passed
  none : entities_of passed ≡ []
  no_box : first_box passed ≡ None

nothing_more : (before : List Entity) (f : Frame) (fs : List Frame) → (c : Content) → f.content ≡ c
    → known_of c ≡ false → HoldNothing before fs → HoldNothing before (f ∷ fs)
nothing_more before f fs (header raw) e unknown h = absurd (false≢true (sym unknown))
nothing_more before f fs (primitive raw) e unknown h = absurd (false≢true (sym unknown))
nothing_more before f fs (unread type) e unknown h =
    let same : before ++ content_entities f.content ≡ before = ap (λ c. before ++ content_entities c) e
    ∙ append-nil before in record {
      sound = (ap (content_fault before) e, subst (λ es. AreSound es fs) (sym same) h.sound);
      none = ap (λ c. content_entities c ++ entities_of fs) e ∙ h.none;
      no_box = first-next f fs ∙ ap (λ c. option_or (content_box c) (first_box fs)) e ∙ h.no_box;
    }

hold_nothing : (before : List Entity) (passed : List Frame) → known_frames passed ≡ [] → HoldNothing before passed
hold_nothing before [] e = record { sound = tt; none = refl; no_box = refl }
hold_nothing before (f ∷ fs) e =
    let parts = unknown_first f fs e in
    nothing_more before f fs f.content refl parts.0 (hold_nothing before fs parts.1)

-- ---- one more blob, and the end

or_none : (a : Option Rect) → option_or a None ≡ a
or_none None = refl
or_none (Some x) = refl

joined : (front more : List ℕ) (entities : List Entity) (bounds : Option Rect) (fs : List Frame)
    → (so : AreSoundBlobs front entities bounds) → AreFrames (length front) more fs → AreSound entities fs
    → AreSoundBlobs (front ++ more) (entities ++ entities_of fs) (option_or bounds (first_box fs))
joined front more entities bounds fs so spelled sound =
    let place : length front ≡ 0 + length front = omega arith in record {
      blobs = so.blobs ++ fs;
      spelled = frames_join 0 so.blobs fs front more so.spelled (subst (λ n. AreFrames n more fs) place spelled);
      sound = sound_join [] so.blobs fs so.sound (subst (λ es. AreSound es fs) (sym so.told) sound);
      told = entities-append so.blobs fs ∙ ap (λ es. es ++ entities_of fs) so.told;
      boxed = box-append so.blobs fs ∙ ap (λ b. option_or b (first_box fs)) so.boxed;
    }

pub blobs-none : AreSoundBlobs [] [] None
blobs-none = record { blobs = []; spelled = refl; sound = tt; told = refl; boxed = refl }

pub blobs-more : (front more : List ℕ) (entities : List Entity) (bounds : Option Rect) (f : Frame)
    → AreSoundBlobs front entities bounds → LeadsTo (length front) more f → content_fault entities f.content ≡ None
    → AreSoundBlobs (front ++ more) (entities ++ content_entities f.content) (option_or bounds (content_box f.content))
blobs-more front more entities bounds f so led none =
    let nothing = hold_nothing entities led.passed led.unknown in
    let same : entities ++ entities_of led.passed ≡ entities = ap (λ es. entities ++ es) nothing.none
    ∙ append-nil entities in
    let here : content_fault (entities ++ entities_of led.passed) f.content ≡ None =
    ap (λ es. content_fault es f.content) same ∙ none in
    let told : entities_of (led.passed ++ f ∷ []) ≡ content_entities f.content = entities-append led.passed (f ∷ [])
    ∙ ap (λ es. es ++ (content_entities f.content ++ [])) nothing.none ∙ append-nil (content_entities f.content) in
    let boxed : first_box (led.passed ++ f ∷ []) ≡ content_box f.content = box-append led.passed (f ∷ [])
    ∙ ap (λ b. option_or b (first_box (f ∷ []))) nothing.no_box ∙ first-next f []
    ∙ or_none (content_box f.content) in
    let all = joined front more entities bounds (led.passed ++ f ∷ []) so led.spelled
    (sound_join entities led.passed (f ∷ []) nothing.sound (here, tt)) in
    subst (λ es. AreSoundBlobs (front ++ more) (entities ++ es) (option_or bounds (content_box f.content))) told
    (subst (λ b. AreSoundBlobs (front ++ more) (entities ++ entities_of (led.passed ++ f ∷ [])) (option_or bounds b))
    boxed all)

pub blobs-passed : (front more : List ℕ) (entities : List Entity) (bounds : Option Rect)
    → AreSoundBlobs front entities bounds → PassesOver (length front) more
    → AreSoundBlobs (front ++ more) entities bounds
blobs-passed front more entities bounds so over =
    let nothing = hold_nothing entities over.passed over.unknown in
    let same : entities ++ entities_of over.passed ≡ entities = ap (λ es. entities ++ es) nothing.none
    ∙ append-nil entities in
    let boxed : option_or bounds (first_box over.passed) ≡ bounds = ap (option_or bounds) nothing.no_box
    ∙ or_none bounds in
    subst (λ es. AreSoundBlobs (front ++ more) es bounds) same
    (subst (λ b. AreSoundBlobs (front ++ more) (entities ++ entities_of over.passed) b) boxed
    (joined front more entities bounds over.passed so over.spelled nothing.sound))

pub blobs-whole : (bytes : List ℕ) (entities : List Entity) (bounds : Option Rect)
    → AreSoundBlobs bytes entities bounds
    → input_outcome bytes ≡ record { fault = None; entities = entities; bounds = bounds }
unfolding input_entities input_box
blobs-whole bytes entities bounds so =
    let (good, none) =
    input_whole bytes so.blobs (record {
      front = bytes;
      rest = [];
      whole = sym (append-nil bytes);
      spelled =
          so.spelled;
      sound = so.sound;
      ended = refl;
    }) in
    ap (λ fault. record {
      fault = fault;
      entities = entities_of (good_frames bytes);
      bounds =
          first_box (good_frames bytes);
    }) none
    ∙ ap (λ fs. record { fault = None; entities = entities_of fs; bounds = first_box fs }) good
    ∙ ap (λ es. record { fault = None; entities = es; bounds = first_box so.blobs }) so.told
    ∙ ap (λ b. record { fault = None; entities = entities; bounds = b }) so.boxed
