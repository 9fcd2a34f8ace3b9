-- What is given of a source that tells its bytes is what comes next in them.
use Rattle.std.proofs.Common.{◌≡◌, ◌≢◌, ◌∙◌, ℕ, ◌+◌, List, [], ◌∷◌, ◌++◌, length, refl, sym, ap, subst, inl, inr, true}
use Rattle.std.proofs.Common.{cond, Option, Some, None, Result, Ok, Err, append_assoc, append-nil}
use Rattle.std.proofs.lemmas.List.Elements.{filter-append}
use Rattle.std.proofs.lemmas.Option.{none-some}
use Rattle.mf_base.proofs.StepLaws.{ok_is, err_is_no_ok}
use Rattle.mf_edge.specs.Device.{SourceState, Takes, HasNone}
use Rattle.mf_edge.specs.Stream.{StreamState}
use Rattle.osm_model.specs.Reading.{Reading, stops_at, then_reads}
use Rattle.osm_model.specs.declared.faults.FrameFault.{FrameFault}
use Rattle.osm_model.specs.Frames.{known_at}
use Rattle.osm_model.specs.Frames.{Frame, FrameFaultAt, AreFrames, is_known, known_frames, PassesOver, frames_at}
use Rattle.osm_model.specs.Frames.{next_known}
use Rattle.osm_model.proofs.FrameListLaws.{frames-nil, frames-stop, frames-append}
use Rattle.osm_model.proofs.NextLaws.{leads, passes}
use Rattle.pbf_frame.specs.declared.frame_fault.NextFault.{NextFault}
use Rattle.pbf_frame.specs.declared.frame_fault.NextFault.TheVariants as next_fault
use Rattle.pbf_frame.specs.declared.frame.Frame as given
use Rattle.pbf_frame.specs.FrameReading.{BeginsNoBlob, FailsBehind, TakesBlobs, IsNext, LeavesBlobs}
use Rattle.pbf_frame.specs.FrameReading.{frame_shown}

-- ---- the bytes that were taken and those that are left

left_told : (all bytes : List ℕ) (now : Option (List ℕ)) → Takes (Some all) bytes now
    → (rest : List ℕ) × (now ≡ Some rest) × (all ≡ bytes ++ rest)
left_told all bytes None taken = absurd taken
left_told all bytes (Some rest) taken = (rest, refl, taken)

at_end : (now : Option (List ℕ)) (rest : List ℕ) → now ≡ Some rest → HasNone now → rest ≡ []
at_end now rest e end = rw e at end

-- bytes that begin with no blob
fails_here : (at : ℕ) (fault : FrameFault) (source : SourceState) (bytes more : List ℕ) → source.left ≡ Some more
    → BeginsNoBlob at fault source bytes
    → frames_at at (bytes ++ more) ≡ stops_at (record { at = at; fault = fault })
fails_here at fault source [] more is h = absurd (h.0 refl)
fails_here at fault source (b ∷ bytes) more is (some, inl always) = frames-stop at b (bytes ++ more) fault (always more)
fails_here at fault source (b ∷ bytes) more is (some, inr (e, end)) =
    ap (frames_at at) (ap (λ m. (b ∷ bytes) ++ m) (at_end source.left more is end) ∙ append-nil (b ∷ bytes))
    ∙ frames-stop at b bytes fault e

-- a fault behind blobs that are passed over
fails_there : (at told : ℕ) (fault : FrameFault) (source : SourceState) (bytes rest : List ℕ) → source.left ≡ Some rest
    → (h : FailsBehind at told fault source bytes)
    → frames_at (at + length h.front) (h.rest ++ rest) ≡ stops_at (record { at = told; fault = fault })
fails_there at told fault source bytes rest e h =
    ap (λ n. frames_at n (h.rest ++ rest)) (sym h.place) ∙ fails_here told fault source h.rest rest e h.begins

behind_front : (at told : ℕ) (fault : FrameFault) (source : SourceState) (bytes rest all : List ℕ)
    → (h : FailsBehind at told fault source bytes) → all ≡ bytes ++ rest → all ≡ h.front ++ (h.rest ++ rest)
behind_front at told fault source bytes rest all h whole =
    whole ∙ ap (λ b. b ++ rest) h.whole ∙ append_assoc h.front h.rest rest

-- ---- what comes next

pub is-next : (old new : StreamState) (block all : List ℕ) (r : Result (Option given.Frame) NextFault)
    → TakesBlobs old block r new → old.source.left ≡ Some all → IsNext block r (next_known (frames_at old.offset all))
is-next old new block all (Ok (Some f)) h e =
    let (rest, is, whole) = left_told all h.bytes new.source.left (rw e at h.taken) in
    ap (λ b. next_known (frames_at old.offset b)) whole ∙ leads old.offset h.bytes rest (frame_shown block f) h.holds
is-next old new block all (Ok None) h e =
    let (rest, is, whole) = left_told all h.bytes new.source.left (rw e at h.taken) in
    ap (λ b. next_known (frames_at old.offset b)) whole ∙ passes old.offset h.bytes rest h.holds.0
    ∙ ap (λ b. next_known (frames_at (old.offset + length h.bytes) b)) (at_end new.source.left rest is h.holds.1)
    ∙ ap next_known (frames-nil (old.offset + length h.bytes))
is-next old new block all (Err (next_fault.Frame told f)) h e =
    let (rest, is, whole) = left_told all h.bytes new.source.left (rw e at h.taken) in
    let fails = h.holds in
    ap (λ b. next_known (frames_at old.offset b)) (behind_front old.offset told f new.source h.bytes rest all fails
    whole) ∙ passes old.offset fails.front (fails.rest ++ rest) fails.passed
    ∙ ap next_known (fails_there old.offset told f new.source h.bytes rest is fails)
is-next old new block all (Err next_fault.Read) h e = tt

-- ---- what is left to come

known-append : (at : ℕ) (fs : List Frame) (front rest : List ℕ) → AreFrames at front fs
    → known_at at (front ++ rest) ≡ record {
      items = known_frames fs ++ (known_at (at + length front) rest).items;
      fault = (known_at (at + length front) rest).fault;
    }
known-append at fs front rest h =
    let behind : Reading Frame FrameFaultAt = frames_at (at + length front) rest in
    ap (λ (read : Reading Frame FrameFaultAt). record { items = known_frames read.items; fault = read.fault })
    (frames-append at fs front rest h)
    ∙ ap (λ fs. record { items = fs; fault = behind.fault }) (filter-append is_known fs behind.items)

one_known : (passed : List Frame) (f : Frame) → known_frames passed ≡ [] → is_known f ≡ true
    → known_frames (passed ++ (f ∷ [])) ≡ f ∷ []
one_known passed f none known = filter-append is_known passed (f ∷ []) ∙ ap (λ fs. fs ++ known_frames (f ∷ [])) none
    ∙ ap (λ c. cond c (f ∷ []) []) known

known_passed : (at : ℕ) (front rest : List ℕ) → PassesOver at front
    → known_at at (front ++ rest) ≡ known_at (at + length front) rest
known_passed at front rest h = known-append at h.passed front rest h.spelled
    ∙ ap (λ fs. record {
      items = fs ++ (known_at (at + length front) rest).items;
      fault = (known_at (at + length front) rest).fault;
    }) h.unknown

pub leaves-blobs : (old new : StreamState) (block all : List ℕ) (r : Result (Option given.Frame) NextFault)
    → TakesBlobs old block r new → old.source.left ≡ Some all → r ≢ Err next_fault.Read
    → LeavesBlobs all old block r new
leaves-blobs old new block all (Ok (Some f)) h e some =
    let (rest, is, whole) = left_told all h.bytes new.source.left (rw e at h.taken) in
    let F : Frame = frame_shown block f in
    let led = h.holds in
    let behind : Reading Frame FrameFaultAt = known_at (old.offset + length h.bytes) rest in (
      rest,
      is,
      ap (known_at old.offset) whole ∙ known-append old.offset (led.passed ++ (F ∷ [])) h.bytes rest led.spelled
          ∙ ap (λ fs. record { items = fs ++ behind.items; fault = behind.fault })
          (one_known led.passed F led.unknown led.known)
          ∙ ap (λ n. then_reads F (known_at n rest)) (sym h.counted),
    )
leaves-blobs old new block all (Ok None) h e some =
    let (rest, is, whole) = left_told all h.bytes new.source.left (rw e at h.taken) in (
      rest,
      is,
      ap (known_at old.offset) whole ∙ known_passed old.offset h.bytes rest h.holds.0
          ∙ ap (known_at (old.offset + length h.bytes)) (at_end new.source.left rest is h.holds.1)
          ∙ ap (λ (read : Reading Frame FrameFaultAt). record { items = known_frames read.items; fault = read.fault })
          (frames-nil (old.offset + length h.bytes)),
    )
leaves-blobs old new block all (Err (next_fault.Frame told f)) h e some =
    let (rest, is, whole) = left_told all h.bytes new.source.left (rw e at h.taken) in
    let fails = h.holds in (
      rest,
      is,
      ap (known_at old.offset) (behind_front old.offset told f new.source h.bytes rest all fails whole)
          ∙ known_passed old.offset fails.front (fails.rest ++ rest) fails.passed
          ∙ ap (λ (read : Reading Frame FrameFaultAt). record { items = known_frames read.items; fault = read.fault })
          (fails_there old.offset told f new.source h.bytes rest is fails),
    )
leaves-blobs old new block all (Err next_fault.Read) h e some = absurd (some refl)

-- ---- the end

end_whole : (at : ℕ) (all bytes rest : List ℕ) → PassesOver at bytes → all ≡ bytes ++ rest → rest ≡ []
    → PassesOver at all
end_whole at all bytes rest h whole none =
    subst (PassesOver at) (sym (whole ∙ ap (λ b. bytes ++ b) none ∙ append-nil bytes)) h

pub end-passes : (old new : StreamState) (block all : List ℕ) (r : Result (Option given.Frame) NextFault)
    → TakesBlobs old block r new → old.source.left ≡ Some all → r ≡ Ok None → PassesOver old.offset all
end-passes old new block all r h e none =
    let ended = rw none at h in
    let (rest, is, whole) = left_told all ended.bytes new.source.left (rw e at ended.taken) in
    end_whole old.offset all ended.bytes rest ended.holds.0 whole (at_end new.source.left rest is ended.holds.1)

none_next : (at : ℕ) (all : List ℕ) → PassesOver at all → next_known (frames_at at all) ≡ Ok None
none_next at all h = ap (λ b. next_known (frames_at at b)) (sym (append-nil all)) ∙ passes at all [] h
    ∙ ap next_known (frames-nil (at + length all))

pub passes-is_end : (block : List ℕ) (at : ℕ) (all : List ℕ) (r : Result (Option given.Frame) NextFault)
    → IsNext block r (next_known (frames_at at all)) → r ≢ Err next_fault.Read → PassesOver at all → r ≡ Ok None
passes-is_end block at all (Ok (Some f)) next read h =
    absurd (none-some (frame_shown block f) (ok_is None (Some (frame_shown block f)) (sym (none_next at all h) ∙ next)))
passes-is_end block at all (Ok None) next read h = refl
passes-is_end block at all (Err (next_fault.Frame told f)) next read h =
    absurd (err_is_no_ok (record { at = told; fault = f }) None (sym next ∙ none_next at all h))
passes-is_end block at all (Err next_fault.Read) next read h = absurd (read refl)
