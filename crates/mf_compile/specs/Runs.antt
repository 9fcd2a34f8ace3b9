-- What a compilation does to its devices. This project's own.
use Rattle.std.specs.Prelude.{◌≡◌, ◌≢◌, ◌⊎◌, ℕ, ◌+◌, ◌*◌, ◌≤◌, true, false, List, length, Some, Result, Ok, Err, ⊤}
use Rattle.mf_base.specs.declared.place.Rect.{Rect}
use Rattle.map_model.specs.declared.report.Report.{Report}
use Rattle.mf_edge.specs.Device.{SourceState, SinkState, Gained, GainedFront, CountsOne}
use Rattle.mf_edge.specs.Spill.{SpillState, part_limit}
use Rattle.extract_pass.specs.EntityPass.{HasInputFault}
use Rattle.job_words.specs.Settings.{JobSettings}
use Rattle.mf_ingest.specs.Ingesting.{most_per_byte}
use Rattle.mf_compile.specs.declared.fault.Fault.{Fault}
use Rattle.mf_compile.specs.declared.fault.Fault.TheVariants as fault
use Rattle.mf_compile.specs.Outcomes.{Made, job_box, outcome, extent}
use Rattle.mf_compile.specs.Gathering.{HasRead, HasReadAll}

-- All devices of a compilation at one time, and how many bytes were read from the store so far.
pub record Moment : Type 0 where
  pub input : SourceState
  pub output : SinkState
  pub store : SpillState
  pub steps : ℕ

-- the devices that tell this
abbrev pub moment : SourceState → SinkState → SpillState → ℕ → Moment
moment input output store steps = record { input = input; output = output; store = store; steps = steps }

-- ---- what is told

-- the answer of an outcome: its report, or why there is no map
abbrev pub answer_for : Result Made Fault → Result Report Fault
answer_for (Ok made) = Ok made.report
answer_for (Err why) = Err why

-- The whole input was read, and its map was written, with this report.
pub record HasWritten (job : JobSettings) (report : Report) (before after : Moment) : Type 0 where
  pub map : List ℕ
  pub input : HasReadAll (λ bytes. outcome job bytes ≡ Ok (record { map = map; report = report })) before.input
      after.input
  pub written : Gained before.output map after.output

-- The whole input was read, and a front of its map was written, and not all of it.
pub record HasBegun (job : JobSettings) (before after : Moment) : Type 0 where
  pub made : Made
  pub input : HasReadAll (λ bytes. outcome job bytes ≡ Ok made) before.input after.input
  pub front : GainedFront before.output made.map after.output

-- What was answered, over a store that tells its bytes, of those that were taken from the input. Where the input failed
-- nothing is said of them. Where the store failed a front of the map was written, or nothing.
abbrev pub TellsCompiled : JobSettings → Moment → Result Report Fault → Moment → Type 0
TellsCompiled job before (Ok report) after = HasWritten job report before after
TellsCompiled job before (Err (fault.Input why)) after =
    HasRead (HasInputFault why after.input) before.input after.input
TellsCompiled job before (Err (fault.Limit why)) after =
    HasReadAll (λ bytes. outcome job bytes ≡ Err (fault.Limit why)) before.input after.input
TellsCompiled job before (Err fault.NoBox) after =
    HasReadAll (λ bytes. outcome job bytes ≡ Err fault.NoBox) before.input after.input
TellsCompiled job before (Err fault.Read) after = ⊤
TellsCompiled job before (Err fault.Write) after = HasBegun job before after
TellsCompiled job before (Err fault.Spill) after = (after.output ≡ before.output) ⊎ HasBegun job before after

-- the input is accepted, and a box is known
abbrev pub IsBoxed : JobSettings → List ℕ → Type 0
IsBoxed job bytes = (box : Rect) × (job_box job bytes ≡ Ok box)

-- What was answered, over every store: a map, a limit and a fault of the output come only where the whole input is
-- accepted and a box is known, and a refusal is that of the input.
abbrev pub TellsInput : JobSettings → SourceState → Result Report Fault → SourceState → Type 0
TellsInput job old (Ok report) new = HasReadAll (IsBoxed job) old new
TellsInput job old (Err (fault.Input why)) new = HasRead (HasInputFault why new) old new
TellsInput job old (Err (fault.Limit why)) new = HasReadAll (IsBoxed job) old new
TellsInput job old (Err fault.NoBox) new = HasReadAll (λ bytes. job_box job bytes ≡ Err fault.NoBox) old new
TellsInput job old (Err fault.Read) new = ⊤
TellsInput job old (Err fault.Write) new = HasReadAll (IsBoxed job) old new
TellsInput job old (Err fault.Spill) new = ⊤

-- ---- what is promised

-- Each device counts one fault under its own answer, and none under every other.
pub record CountsFaults (before after : Moment) (result : Result Report Fault) : Type 0 where
  pub read : result ≡ Err fault.Read → CountsOne before.input.faults after.input.faults
  pub same_input : result ≢ Err fault.Read → after.input.faults ≡ before.input.faults
  pub write : result ≡ Err fault.Write → CountsOne before.output.faults after.output.faults
  pub same_output : result ≢ Err fault.Write → after.output.faults ≡ before.output.faults
  pub spill : result ≡ Err fault.Spill → CountsOne before.store.faults after.store.faults
  pub same_store : result ≢ Err fault.Spill → after.store.faults ≡ before.store.faults

-- What a compilation answers, and what it does to its devices.
pub record IsCompiled (job : JobSettings) (before after : Moment) (result : Result Report Fault) : Type 0 where
  -- over a store that tells its bytes, and over every store
  pub told : before.store.tells ≡ true → TellsCompiled job before result after
  pub accepted : TellsInput job before.input result after.input
  -- where the input tells its bytes too, the answer is that of the outcome of all of them, but for a fault of a device
  pub exact : (all : List ℕ) → before.input.left ≡ Some all → before.store.tells ≡ true → result ≢ Err fault.Read
      → result ≢ Err fault.Write → result ≢ Err fault.Spill → result ≡ answer_for (outcome job all)
  pub faults : CountsFaults before after result
  -- nothing is written but under success and under a fault of output or store
  pub untouched : (why : Fault) → result ≡ Err why → why ≢ fault.Write → why ≢ fault.Spill
      → after.output ≡ before.output
  -- what is read of the store is bounded by the size of the job
  pub few_steps : (all : List ℕ) → before.input.left ≡ Some all → before.store.tells ≡ true
      → after.steps ≤ before.steps + 1536 * extent job all
  -- the store becomes overrun only where the input or the job is too large
  pub within : (all : List ℕ) → before.input.left ≡ Some all → before.store.tells ≡ true
      → most_per_byte * length all ≤ part_limit → 64 * extent job all ≤ part_limit → after.store.is_overrun ≡ false
  -- the store is that of the job's folder
  pub name : after.store.name ≡ Some job.folder
  pub tells : after.store.tells ≡ before.store.tells
