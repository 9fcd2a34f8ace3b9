-- What is gathered of an input. This project's own.
use Rattle.std.specs.Prelude.{◌≡◌, ◌+◌, ◌≤◌, ℕ, List, length, Result, Ok, Err, ⊤}
use Rattle.mf_base.specs.declared.place.Rect.{Rect}
use Rattle.osm_model.specs.declared.limits.TheConstants.{FRAME_LIMIT}
use Rattle.mf_edge.specs.Device.{SourceState, Took, IsAtEnd}
use Rattle.extract_pass.specs.EntityPass.{HasInputFault}
use Rattle.spill_parts.specs.declared.handed.Ingested.{Ingested}
use Rattle.job_words.specs.Settings.{JobSettings}
use Rattle.mf_ingest.specs.Ingest.{AreIngested}
use Rattle.mf_compile.specs.declared.fault.Fault.{Fault}
use Rattle.mf_compile.specs.declared.fault.Fault.TheVariants as fault
use Rattle.mf_compile.specs.Outcomes.{job_box}

-- Bytes were taken from a source, by at most one read for each and as many more as the longest blob has bytes, and this
-- holds of them.
pub record HasRead (Holds : List ℕ → Type 0) (old new : SourceState) : Type 0 where
  pub bytes : List ℕ
  pub taken : Took old bytes new
  pub reads : new.reads ≤ old.reads + length bytes + FRAME_LIMIT
  pub holds : Holds bytes

-- the same, and the source stands at its end
abbrev pub HasReadAll : (List ℕ → Type 0) → SourceState → SourceState → Type 0
HasReadAll Holds old new = HasRead (λ bytes. Holds bytes × IsAtEnd new) old new

-- The bytes are an accepted input, with this box, and the counts and the parts are those of its objects.
pub record AreGathered (job : JobSettings) (found : Ingested) (box : Rect) (bytes : List ℕ) : Type 0 where
  pub boxed : job_box job bytes ≡ Ok box
  pub parts : AreIngested job.mapping found bytes

-- Of the bytes that were taken: they are all of an accepted input, and what was gathered is theirs, or no box is known;
-- or an input that begins with them has this first fault. Where a device failed nothing is said.
abbrev pub TellsGathered : JobSettings → SourceState → Result (Ingested × Rect) Fault → SourceState → Type 0
TellsGathered job old (Ok found) new = HasReadAll (AreGathered job found.0 found.1) old new
TellsGathered job old (Err (fault.Input why)) new = HasRead (HasInputFault why new) old new
TellsGathered job old (Err fault.NoBox) new = HasReadAll (λ bytes. job_box job bytes ≡ Err fault.NoBox) old new
TellsGathered job old (Err (fault.Limit why)) new = ⊥
TellsGathered job old (Err fault.Read) new = ⊤
TellsGathered job old (Err fault.Write) new = ⊥
TellsGathered job old (Err fault.Spill) new = ⊤

-- The same of all bytes of a source that tells them.
abbrev pub TellsGatheredOf : JobSettings → List ℕ → Result (Ingested × Rect) Fault → Type 0
TellsGatheredOf job all (Ok found) = AreGathered job found.0 found.1 all
TellsGatheredOf job all (Err (fault.Input why)) = job_box job all ≡ Err (fault.Input why)
TellsGatheredOf job all (Err fault.NoBox) = job_box job all ≡ Err fault.NoBox
TellsGatheredOf job all (Err (fault.Limit why)) = ⊥
TellsGatheredOf job all (Err fault.Read) = ⊤
TellsGatheredOf job all (Err fault.Write) = ⊥
TellsGatheredOf job all (Err fault.Spill) = ⊤
