-- What a run does to its devices, and what it says. This project's own.
use Rattle.std.specs.Prelude.{◌≡◌, ◌⊎◌, ℕ, List, codes, Option, Result, ⊤}
use Rattle.map_model.specs.declared.report.Report.{Report}
use Rattle.mf_edge.specs.Device.{SourceState, SinkState, Gained, GainedFront, CountsOne}
use Rattle.mf_edge.specs.Spill.{SpillState, IsNameOf}
use Rattle.job_words.specs.Settings.{JobSettings}
use Rattle.run_texts.specs.Texts.{line_of}
use Rattle.run_texts.specs.Refusals.{refusal_text}
use Rattle.mf_compile.specs.Runs.{Moment, moment, IsCompiled}
use Rattle.mf_compile.specs.declared.fault.Fault.{Fault}
use Rattle.mf_run.specs.Statuses.{status_of, line_for, refusal_status}
use Rattle.mf_run.specs.declared.prepare.Prepared.{Prepared}
use Rattle.mf_run.specs.declared.prepare.Prepared.TheVariants.{Ready, NotBuilt, Refused}
use Rattle.mf_run.specs.declared.status.TheConstants.{NOT_BUILT}

-- All devices of a run at one time: those of a compilation, and where texts are said.
pub record Seen : Type 0 where
  pub devices : Moment
  pub say : SinkState

-- the devices that tell this, after so many bytes were read from the store
abbrev pub seen : SourceState → SinkState → SinkState → SpillState → ℕ → Seen
seen input output say store steps = record { devices = moment input output store steps; say = say }

-- A text was said: all of it without a fault, or a front of it and then a fault.
abbrev pub Says : SinkState → List ℕ → SinkState → Type 0
Says old text new =
    (Gained old text new × (new.faults ≡ old.faults)) ⊎ (GainedFront old text new × CountsOne old.faults new.faults)

-- A run of a job: the job is compiled, what came of it is said, and the status is that of it. What comes of it is told
-- by `IsCompiled`: exactly the map and its report, or the fault of the input, or that no box is known, or what passes
-- its limit, or the device that failed.
pub record RunsJob (job : JobSettings) (old new : Seen) (status : ℕ) : Type 0 where
  pub answer : Result Report Fault
  pub compiled : IsCompiled job old.devices new.devices answer
  pub told : status ≡ status_of answer
  pub said : Says old.say (line_for answer) new.say

-- A run without a job: its status, its text is said, and all other devices are as before.
pub record IsRefused (wanted : ℕ) (text : List ℕ) (old new : Seen) (status : ℕ) : Type 0 where
  pub told : status ≡ wanted
  pub said : Says old.say (line_of text) new.say
  pub same : new.devices ≡ old.devices

-- The run of what was prepared.
abbrev pub Ran : Prepared → Seen → Seen → ℕ → Type 0
Ran (Ready job) old new status = RunsJob job old new status
Ran NotBuilt old new status = IsRefused NOT_BUILT (codes "not built") old new status
Ran (Refused why) old new status = IsRefused (refusal_status why) (refusal_text why) old new status

-- The store can be that of what was prepared: it has no name yet, or that of the job's folder.
abbrev pub FitsStore : Prepared → Option (List ℕ) → Type 0
FitsStore (Ready job) name = IsNameOf job.folder name
FitsStore NotBuilt name = ⊤
FitsStore (Refused why) name = ⊤
