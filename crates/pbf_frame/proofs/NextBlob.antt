-- Blobs that are passed over, and what comes behind them.
use Rattle.std.proofs.Common.{◌≡◌, ◌∙◌, ℕ, ◌+◌, ◌<◌, List, [], ◌∷◌, ◌++◌, length, refl, sym, ap, subst, true}
use Rattle.std.proofs.Common.{Option, Some, Result, Ok, Err, append-nil}
use Rattle.std.specs.Prelude.{slice_range}
use Rattle.std.proofs.lemmas.List.Elements.{filter-append}
use Rattle.mf_edge.specs.Device.{SourceState}
use Rattle.mf_edge.specs.Stream.{StreamState}
use Rattle.osm_model.proofs.FrameListLaws.{frames_join}
use Rattle.osm_model.specs.declared.faults.FrameFault.{FrameFault}
use Rattle.osm_model.specs.declared.limits.TheConstants.{OFFSET_LIMIT}
use Rattle.osm_model.specs.Frames.{unread, Frame, AreFrames, SpellsFrame, is_known, PassesOver, LeadsTo}
use Rattle.pbf_frame.specs.declared.frame_fault.NextFault.{NextFault}
use Rattle.pbf_frame.specs.declared.frame_fault.NextFault.TheVariants as next_fault
use Rattle.pbf_frame.specs.declared.frame.BlobKind.{BlobKind}
use Rattle.pbf_frame.specs.declared.frame.BlobKind.TheVariants.{Header, Primitive}
use Rattle.pbf_frame.specs.declared.frame.Frame as given
use Rattle.pbf_frame.specs.declared.blob_read.Step.TheVariants.{Passed, Kept}
use Rattle.pbf_frame.specs.FrameReading.{HasTaken, BeginsNoBlob, FailsBehind, TakesBlobs, frame_shown, content_shown}
use Rattle.pbf_frame.specs.BlobReading.{FailsAt, SpellsStep}
use Rattle.pbf_frame.proofs.TakenSteps.{taken-then}

-- ---- blobs one after another

one_frame : (f : Frame) (at : ℕ) (y : List ℕ) → f.at ≡ at → at < OFFSET_LIMIT → SpellsFrame f.content y
    → AreFrames at y (f ∷ [])
one_frame f at y placed near spelled = (y, [], placed, near, spelled, refl, sym (append-nil y))

pub passes-more : (at m : ℕ) (block : List ℕ) (source : SourceState) (x y : List ℕ) → PassesOver at x
    → m ≡ at + length x → SpellsStep m block source Passed y → PassesOver at (x ++ y)
passes-more at m block source x y h place (near, kind, spelled) =
    let f : Frame = record { at = m; content = unread kind } in
    record {
      passed = h.passed ++ (f ∷ []);
      unknown = filter-append is_known h.passed (f ∷ []) ∙ ap (λ fs. fs ++ []) h.unknown;
      spelled = frames_join at h.passed (f ∷ []) x y h.spelled
          (subst (λ n. AreFrames n y (f ∷ [])) place (one_frame f m y refl near spelled));
    }

known_shown : (kind : BlobKind) (at : ℕ) (raw : List ℕ)
    → is_known (record { at = at; content = content_shown kind raw }) ≡ true
known_shown Header at raw = refl
known_shown Primitive at raw = refl

pub leads-to : (at m : ℕ) (block : List ℕ) (source : SourceState) (f : given.Frame) (x y : List ℕ) → PassesOver at x
    → m ≡ at + length x → SpellsStep m block source (Kept f) y → LeadsTo at (x ++ y) (frame_shown block f)
leads-to at m block source f x y h place (near, placed, spelled) = record {
  passed = h.passed;
  unknown = h.unknown;
  known = known_shown f.kind f.at (slice_range block f.start f.end);
  spelled = frames_join at h.passed (frame_shown block f ∷ []) x y h.spelled
      (subst (λ n. AreFrames n y (frame_shown block f ∷ [])) place
      (one_frame (frame_shown block f) m y placed near spelled));
}

-- what was taken is as much as the offset rose
counted : (old new : StreamState) (P : List ℕ → Type 0) → HasTaken P old new
    → HasTaken (λ x. P x × (new.offset ≡ old.offset + length x)) old new
counted old new P h = record { bytes = h.bytes; taken = h.taken; counted = h.counted; holds = (h.holds, h.counted) }

-- blobs were passed over, and then so many bytes more were taken
passed-then : (old mid new : StreamState) (Q R : List ℕ → Type 0) → HasTaken (PassesOver old.offset) old mid
    → HasTaken Q mid new
    → ((x y : List ℕ) → PassesOver old.offset x → mid.offset ≡ old.offset + length x → Q y → R (x ++ y))
    → HasTaken R old new
passed-then old mid new Q R first second join =
    taken-then old mid new (λ x. PassesOver old.offset x × (mid.offset ≡ old.offset + length x)) Q R
    (counted old mid (PassesOver old.offset) first) second (λ x y p q. join x y p.0 p.1 q)

pub took-passed : (old mid new : StreamState) (block : List ℕ) → HasTaken (PassesOver old.offset) old mid
    → HasTaken (SpellsStep mid.offset block new.source Passed) mid new
    → HasTaken (PassesOver old.offset) old new
took-passed old mid new block first h =
    passed-then old mid new (SpellsStep mid.offset block new.source Passed) (PassesOver old.offset) first h
    (λ x y p e q. passes-more old.offset mid.offset block new.source x y p e q)

pub takes-blob : (old mid new : StreamState) (block : List ℕ) (f : given.Frame)
    → HasTaken (PassesOver old.offset) old mid → HasTaken (SpellsStep mid.offset block new.source (Kept f)) mid new
    → TakesBlobs old block (Ok (Some f)) new
takes-blob old mid new block f first h =
    passed-then old mid new (SpellsStep mid.offset block new.source (Kept f))
    (λ b. LeadsTo old.offset b (frame_shown block f)) first h
    (λ x y p e q. leads-to old.offset mid.offset block new.source f x y p e q)

fails-behind : (at m told : ℕ) (fault : FrameFault) (source : SourceState) (x y : List ℕ) → PassesOver at x
    → m ≡ at + length x → told ≡ m → BeginsNoBlob m fault source y → FailsBehind at told fault source (x ++ y)
fails-behind at m told fault source x y h place same begins =
    record {
      front = x;
      rest = y;
      whole = refl;
      passed = h;
      place = same ∙ place;
      begins = subst (λ n. BeginsNoBlob n fault source y) (sym same) begins;
    }

pub takes-fault : (old mid new : StreamState) (block : List ℕ) (r : Result (Option given.Frame) NextFault)
    (fault : NextFault) → r ≡ Err fault → HasTaken (PassesOver old.offset) old mid
    → FailsAt (λ f bytes. BeginsNoBlob mid.offset f new.source bytes) mid.offset mid fault new
    → TakesBlobs old block r new
takes-fault old mid new block r (next_fault.Frame told f) e first h =
    rw e (passed-then old mid new (λ b. BeginsNoBlob mid.offset f new.source b)
    (FailsBehind old.offset told f new.source) first h.1
    (λ x y p same q. fails-behind old.offset mid.offset told f new.source x y p same h.0 q))
takes-fault old mid new block r next_fault.Read e first h = rw e tt
