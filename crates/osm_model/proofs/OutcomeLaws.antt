-- What an input comes to, blob by blob: a pass over the blobs of known types cites this.
use Rattle.std.proofs.Common.{◌≡◌, ◌∙◌, ℕ, List, [], ◌∷◌, ◌++◌, refl, sym, ap, append-nil, Bool, true, false, cond}
use Rattle.std.proofs.Common.{Option, Some, None}
use Rattle.std.specs.Prelude.{slice_get, filter_map, option_map}
use Rattle.std.specs.List.{cons_option}
use Rattle.std.specs.Option.{option_or}
use Rattle.mf_base.specs.declared.place.Rect.{Rect}
use Rattle.osm_model.specs.declared.faults.InputCode.{InputCode}
use Rattle.osm_model.specs.declared.faults.InputFault.{InputFault}
use Rattle.osm_model.specs.Reading.{Reading, all_read, stops_at, then_reads}
use Rattle.osm_model.specs.Frames.{Content, header, primitive, unread, Frame, FrameFaultAt, frames, is_known}
use Rattle.osm_model.specs.Frames.{known_frames, known_at}
use Rattle.osm_model.specs.Entities.{Entity}
use Rattle.osm_model.specs.Input.{content_fault, content_entities, content_box, entities_of, sound_frames}
use Rattle.osm_model.specs.Input.{as_input_fault, input_fault, input_entities, input_box, good_frames}
use Rattle.osm_model.specs.Outcome.{Outcome, input_outcome, first_box, outcome_behind, all_accepted, refused_for}
use Rattle.osm_model.specs.Outcome.{with_blob}
use Rattle.osm_model.proofs.InputLaws.{sound-nil, sound-next, sound-stop}

-- what sound blobs, and then this fault of bytes that begin with no blob, come to
abbrev outcome_of : Option FrameFaultAt → Reading Frame InputFault → Outcome
outcome_of told sound =
    record {
      fault = option_or sound.fault (option_map as_input_fault told);
      entities =
          entities_of sound.items;
      bounds = first_box sound.items;
    }

outcome-is : (before : List Entity) (read : Reading Frame FrameFaultAt)
    → outcome_behind before read ≡ outcome_of read.fault (sound_frames before read.items)
unfolding outcome_behind
outcome-is before read = refl

first_one : (o : Option Rect) (rest : List Rect) → slice_get (cons_option o rest) 0 ≡ option_or o (slice_get rest 0)
first_one None rest = refl
first_one (Some box) rest = refl

outcome-then : (told : Option FrameFaultAt) (f : Frame) (sound : Reading Frame InputFault)
    → outcome_of told (then_reads f sound) ≡ with_blob f.content (outcome_of told sound)
outcome-then told f sound =
    ap (λ b. record {
      fault = option_or sound.fault (option_map as_input_fault told);
      entities =
          content_entities f.content ++ entities_of sound.items;
      bounds = b;
    })
    (first_one (content_box f.content) (filter_map (λ (g : Frame). content_box g.content) sound.items))

pub outcome-blob : (before : List Entity) (f : Frame) (read : Reading Frame FrameFaultAt)
    → content_fault before f.content ≡ None
    → outcome_behind before (then_reads f read)
    ≡ with_blob f.content (outcome_behind (before ++ content_entities f.content) read)
outcome-blob before f read sound =
    outcome-is before (then_reads f read) ∙ ap (outcome_of read.fault) (sound-next before f read.items sound)
    ∙ outcome-then read.fault f (sound_frames (before ++ content_entities f.content) read.items)
    ∙ ap (with_blob f.content) (sym (outcome-is (before ++ content_entities f.content) read))

pub outcome-fault : (before : List Entity) (f : Frame) (read : Reading Frame FrameFaultAt) (code : InputCode)
    → content_fault before f.content ≡ Some code
    → outcome_behind before (then_reads f read) ≡ refused_for (record { at = f.at; code = code })
outcome-fault before f read code wrong = outcome-is before (then_reads f read)
    ∙ ap (outcome_of read.fault) (sound-stop before f read.items code wrong)

pub outcome-end : (before : List Entity) → outcome_behind before all_read ≡ all_accepted
outcome-end before = outcome-is before all_read ∙ ap (outcome_of None) (sound-nil before)

pub outcome-no_blob : (before : List Entity) (told : FrameFaultAt)
    → outcome_behind before (stops_at told) ≡ refused_for (as_input_fault told)
outcome-no_blob before told = outcome-is before (stops_at told) ∙ ap (outcome_of (Some told)) (sound-nil before)

-- ---- blobs that are passed over

abbrev known_of : Content → Bool
known_of c = elim c [ header raw ↦ true | primitive raw ↦ true | unread type ↦ false ]

abbrev read_of : List Frame → Option FrameFaultAt → Reading Frame FrameFaultAt
read_of fs told = record { items = fs; fault = told }

-- a known blob is kept
one_known : (f : Frame) (fs : List Frame) (told : Option FrameFaultAt)
    → ((b : List Entity) → outcome_behind b (read_of (known_frames fs) told) ≡ outcome_behind b (read_of fs told))
    → (before : List Entity) → is_known f ≡ true
    → outcome_behind before (read_of (known_frames (f ∷ fs)) told) ≡ outcome_behind before (read_of (f ∷ fs) told)
one_known f fs told more before known = go (content_fault before f.content) refl
  where
    kept : outcome_behind before (read_of (known_frames (f ∷ fs)) told)
        ≡ outcome_behind before (then_reads f (read_of (known_frames fs) told))
    kept = ap (λ c. outcome_behind before (read_of (cond c (f ∷ known_frames fs) (known_frames fs)) told)) known

    go : (r : Option InputCode) → content_fault before f.content ≡ r
        → outcome_behind before (read_of (known_frames (f ∷ fs)) told) ≡ outcome_behind before (read_of (f ∷ fs) told)
    go None e =
        kept ∙ outcome-blob before f (read_of (known_frames fs) told) e
        ∙ ap (with_blob f.content) (more (before ++ content_entities f.content))
        ∙ sym (outcome-blob before f (read_of fs told) e)
    go (Some code) e = kept ∙ outcome-fault before f (read_of (known_frames fs) told) code e
        ∙ sym (outcome-fault before f (read_of fs told) code e)

known-same : (fs : List Frame) (told : Option FrameFaultAt) (before : List Entity)
    → outcome_behind before (read_of (known_frames fs) told) ≡ outcome_behind before (read_of fs told)
known-same [] told before = refl
known-same (f ∷ fs) told before = go (λ b. known-same fs told b) f.content refl
  where
    go : ((b : List Entity) → outcome_behind b (read_of (known_frames fs) told) ≡ outcome_behind b (read_of fs told))
        → (c : Content) → f.content ≡ c
        → outcome_behind before (read_of (known_frames (f ∷ fs)) told) ≡ outcome_behind before (read_of (f ∷ fs) told)
    go more (header raw) e = one_known f fs told more before (ap known_of e)
    go more (primitive raw) e = one_known f fs told more before (ap known_of e)
    go more (unread type) e =
        let none : content_fault before f.content ≡ None = ap (content_fault before) e in
        let nothing : before ++ content_entities f.content ≡ before = ap (λ c. before ++ content_entities c) e
        ∙ append-nil before in
        ap (λ c. outcome_behind before (read_of (cond (known_of c) (f ∷ known_frames fs) (known_frames fs)) told)) e
        ∙ more before
        ∙ sym (outcome-blob before f (read_of fs told) none
        ∙ ap (λ c. with_blob c (outcome_behind (before ++ content_entities f.content) (read_of fs told))) e
        ∙ ap (λ b. outcome_behind b (read_of fs told)) nothing)

input-is : (bytes : List ℕ) → input_outcome bytes ≡ outcome_behind [] (frames bytes)
unfolding input_fault input_entities input_box good_frames outcome_behind
input-is bytes = refl

pub known-outcome : (bytes : List ℕ) → input_outcome bytes ≡ outcome_behind [] (known_at 0 bytes)
known-outcome bytes = input-is bytes ∙ sym (known-same (frames bytes).items (frames bytes).fault [])
