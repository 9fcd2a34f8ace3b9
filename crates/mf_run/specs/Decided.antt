-- What the definitions decide of a run. This project's own.
use Rattle.std.specs.Prelude.{◌≡◌, ℕ, ◌≤◌, List, [], Result, Ok, Err}
use Rattle.mf_base.specs.declared.place.Rect.{Rect}
use Rattle.osm_model.specs.Input.{input_entities}
use Rattle.map_model.specs.MapFile.{largest}
use Rattle.mf_edge.specs.Device.{Gained, IsAtEnd, HasRisen}
use Rattle.job_words.specs.Settings.{JobSettings}
use Rattle.mf_compile.specs.Outcomes.{Made, outcome, job_box}
use Rattle.mf_compile.specs.Runs.{Moment, answer_for}
use Rattle.mf_compile.specs.declared.fault.Fault.{Fault}
use Rattle.mf_run.specs.Run.{Seen, Says}
use Rattle.mf_run.specs.Statuses.{status_of, line_for}
use Rattle.mf_run.specs.declared.status.TheConstants.{WRITTEN}

-- ---- one run

-- no count of faults of input, output and store rose
pub record NoneFailed (old new : Moment) : Type 0 where
  pub input : ¬ (HasRisen old.input.faults new.input.faults)
  pub output : ¬ (HasRisen old.output.faults new.output.faults)
  pub store : ¬ (HasRisen old.store.faults new.store.faults)

-- the map that is written: none where there is a fault
abbrev pub map_for : Result Made Fault → List ℕ
map_for (Ok made) = made.map
map_for (Err why) = []

-- A run does what its job comes to over all bytes of the input: the status and what is said are those of the map, or of
-- the first fault; just the map is written, or nothing; and a map is made only of the whole input.
pub record IsDecided (job : JobSettings) (all : List ℕ) (old new : Seen) (status : ℕ) : Type 0 where
  pub told : status ≡ status_of (answer_for (outcome job all))
  pub said : Says old.say (line_for (answer_for (outcome job all))) new.say
  pub written : Gained old.devices.output (map_for (outcome job all)) new.devices.output
  pub read : status ≡ WRITTEN → IsAtEnd new.devices.input

-- ---- two jobs

-- Two jobs ask for the same map: all but the row limit, the number of workers and the folder of the store is the same.
pub record AskSame (job other : JobSettings) : Type 0 where
  pub head : other.head ≡ job.head
  pub mapping : other.mapping ≡ job.mapping
  pub bounds : other.bounds ≡ job.bounds

-- The row limit of a job suffices for an input: nothing of its map weighs more.
abbrev pub Suffices : JobSettings → List ℕ → Type 0
Suffices job bytes = (box : Rect) → job_box job bytes ≡ Ok box
    → largest job.head job.mapping box (input_entities bytes) ≤ job.rows
