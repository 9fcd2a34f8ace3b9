-- What is gathered, by what an ingest tells.
use Rattle.std.proofs.Common.{◌≡◌, List, ℕ, Some, None, Result, Ok, Err, sym, subst}
use Rattle.std.proofs.Common.{arith}
use Rattle.std.specs.Option.{option_or}
use Rattle.std.specs.Result.{IsErrAnd}
use Rattle.mf_base.specs.declared.place.Rect.{Rect}
use Rattle.osm_model.specs.declared.limits.TheConstants.{FRAME_LIMIT}
use Rattle.mf_edge.specs.Device.{SourceState}
use Rattle.mf_edge.specs.Stream.{StreamState, IsWalk}
use Rattle.pbf_frame.specs.FrameReading.{HasTaken}
use Rattle.spill_parts.specs.declared.handed.Ingested.{Ingested}
use Rattle.job_words.specs.Settings.{JobSettings}
use Rattle.mf_ingest.specs.declared.ingest.IngestFault.{IngestFault}
use Rattle.mf_ingest.specs.declared.ingest.IngestFault.TheVariants as ingest_fault
use Rattle.mf_ingest.specs.Ingest.{AreIngested, TellsIngest, TellsIngestOf}
use Rattle.mf_compile.specs.declared.fault.Fault.{Fault}
use Rattle.mf_compile.specs.declared.fault.Fault.TheVariants as fault
use Rattle.mf_compile.specs.Faults.{ingest_told}
use Rattle.mf_compile.specs.Outcomes.{job_box}
use Rattle.mf_compile.specs.Gathering.{HasRead, HasReadAll, AreGathered, TellsGathered, TellsGatheredOf}
use Rattle.mf_compile.proofs.Boxes.{box-refused, box-known, box-unknown}

-- what was taken from a stream was read of its source
has-read : (A B : List ℕ → Type 0) (old new : StreamState) → ((bytes : List ℕ) → A bytes → B bytes)
    → IsWalk FRAME_LIMIT old new → HasTaken A old new → HasRead B old.source new.source
has-read A B old new holds walk h = record {
  bytes = h.bytes;
  taken = h.taken;
  reads = omega (arith, walk.reads, h.counted);
  holds = holds h.bytes h.holds;
}

module _ (job : JobSettings) where
  gathers-ok : (found : Ingested) (box : Rect) (old new : StreamState) → IsWalk FRAME_LIMIT old new
      → TellsIngest job.mapping old (Ok found) new → option_or job.bounds found.bounds ≡ Some box
      → TellsGathered job old.source (Ok (found, box)) new.source
  gathers-ok found box old new walk h is = has-read _ _ old new
      (λ bytes held. (gathered-of bytes held.0, held.1)) walk h
    where
      gathered-of : (bytes : List ℕ) → AreIngested job.mapping found bytes → AreGathered job found box bytes
      gathered-of bytes parts = record {
        boxed = box-known job bytes found.bounds box parts.sound parts.boxed is;
        parts = parts;
      }

  -- the same of a source that a stream was made of, and where it stands afterwards
  pub ok-at : (found : Ingested) (box : Rect) (old new : StreamState) {i j : SourceState} → old.source ≡ i
      → new.source ≡ j → IsWalk FRAME_LIMIT old new → TellsIngest job.mapping old (Ok found) new
      → option_or job.bounds found.bounds ≡ Some box → HasReadAll (AreGathered job found box) i j
  ok-at found box old new {i = i} {j = j} before after walk h is =
      subst (λ s. HasReadAll (AreGathered job found box) s j) before
      (subst (λ s. HasReadAll (AreGathered job found box) old.source s) after
      (gathers-ok found box old new walk h is))

  pub exact-ok : (found : Ingested) (box : Rect) (all : List ℕ) → TellsIngestOf job.mapping all (Ok found)
      → option_or job.bounds found.bounds ≡ Some box → TellsGatheredOf job all (Ok (found, box))
  exact-ok found box all parts is =
      record { boxed = box-known job all found.bounds box parts.sound parts.boxed is; parts = parts }

  gathers-none : (found : Ingested) (old new : StreamState) → IsWalk FRAME_LIMIT old new
      → TellsIngest job.mapping old (Ok found) new → option_or job.bounds found.bounds ≡ None
      → TellsGathered job old.source (Err fault.NoBox) new.source
  gathers-none found old new walk h is = has-read _ _ old new
      (λ bytes held. (box-unknown job bytes found.bounds held.0.sound held.0.boxed is, held.1)) walk h

  pub none-at : (found : Ingested) (old new : StreamState) {i j : SourceState} → old.source ≡ i → new.source ≡ j
      → IsWalk FRAME_LIMIT old new → TellsIngest job.mapping old (Ok found) new
      → option_or job.bounds found.bounds ≡ None
      → HasReadAll (λ bytes. job_box job bytes ≡ Err fault.NoBox) i j
  none-at found old new {i = i} {j = j} before after walk h is =
      subst (λ s. HasReadAll (λ bytes. job_box job bytes ≡ Err fault.NoBox) s j) before
      (subst (λ s. HasReadAll (λ bytes. job_box job bytes ≡ Err fault.NoBox) old.source s) after
      (gathers-none found old new walk h is))

  pub exact-none : (found : Ingested) (all : List ℕ) → TellsIngestOf job.mapping all (Ok found)
      → option_or job.bounds found.bounds ≡ None → TellsGatheredOf job all (Err fault.NoBox)
  exact-none found all parts is = box-unknown job all found.bounds parts.sound parts.boxed is

  exact-err : (why : IngestFault) (all : List ℕ) → TellsIngestOf job.mapping all (Err why)
      → TellsGatheredOf job all (Err (ingest_told why))
  exact-err (ingest_fault.Input why) all h = box-refused job all why h
  exact-err ingest_fault.Read all h = tt
  exact-err ingest_fault.Spill all h = tt

  -- the fault of an ingest that was answered
  pub err-exact : (why : IngestFault) (all : List ℕ) (r : Result (Ingested × Rect) Fault)
      → IsErrAnd r (λ f. f ≡ ingest_told why) → TellsIngestOf job.mapping all (Err why) → TellsGatheredOf job all r
  err-exact why all (Ok found) is h = absurd is
  err-exact why all (Err f) is h = subst (λ w. TellsGatheredOf job all (Err w)) (sym is) (exact-err why all h)
