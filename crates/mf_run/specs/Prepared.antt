-- What is prepared for words, the file of a mapping and the time. This project's own.
use Rattle.std.specs.Prelude.{◌≡◌, ◌≢◌, ◌↔◌, ℕ, List, [], Option, Some, None, Result, Ok, Err}
use Rattle.mf_base.specs.Texts.{Text}
use Rattle.mf_edge.specs.Shelves.{ShelfState}
use Rattle.feature_model.specs.Mapping.{Entry}
use Rattle.feature_model.specs.declared.fault.MappingFault.TheVariants as mapping_fault
use Rattle.job_words.specs.Reading.{IsToldBy, LeavesShelf}
use Rattle.job_words.specs.Settings.{JobSettings, JobAsked, job_of}
use Rattle.job_words.specs.Usage.{usage, value_of}
use Rattle.job_words.specs.declared.refusal.Refusal.{Refusal}
use Rattle.job_words.specs.declared.refusal.Refusal.TheVariants as refusal
use Rattle.job_words.specs.declared.usage_word.UsageWord.{UsageWord}
use Rattle.job_words.specs.declared.usage_word.UsageWord.TheVariants as option
use Rattle.job_words.specs.declared.values.MadeInput.{MadeInput}
use Rattle.mf_run.specs.declared.prepare.Prepared.{Prepared}
use Rattle.mf_run.specs.declared.prepare.Prepared.TheVariants.{Ready, NotBuilt, Refused}

-- What can be run so far: a job over the input, whose mapping has no entry for ways.
abbrev pub runnable : Option MadeInput → List Entry → JobSettings → Option JobSettings
runnable None [] job = Some job
runnable made ways job = None

-- the job that is asked for, where it can be run so far; or the refusal
abbrev pub job_or : Result JobAsked Refusal → Result (Option JobSettings) Refusal
job_or (Ok asked) = Ok (runnable asked.made asked.settings.mapping.way asked.settings)
job_or (Err why) = Err why

-- what was prepared: a job, or that it can't be run so far, or the refusal
abbrev pub told_of : Prepared → Result (Option JobSettings) Refusal
told_of (Ready job) = Ok (Some job)
told_of NotBuilt = Ok None
told_of (Refused why) = Err why

-- What is prepared for these words at this time, by a shelf without a name, and how the shelf is left.
pub record IsPrepared (words : List Text) (now : ℕ) (old : ShelfState) (prepared : Prepared) (new : ShelfState)
    : Type 0 where
  -- it is what words and file tell; or memory is wanting, or the file could not be read
  pub told : IsToldBy (λ bytes. job_or (job_of words bytes now)) old (told_of prepared)
  -- words are refused exactly where they are not right, and then the shelf is as before
  pub refused : (word : UsageWord) → (prepared ≡ Refused (refusal.Usage word)) ↔ (usage words ≡ Some word)
  pub same : (word : UsageWord) → prepared ≡ Refused (refusal.Usage word) → new ≡ old
  -- a fault of the shelf is counted exactly under its own answer, and afterwards its name is that of the mapping's file
  pub leaves : usage words ≡ None → LeavesShelf (value_of words option.Mapping) old (told_of prepared) new
  -- want of memory is always told as that
  pub other : prepared ≢ Refused (refusal.Mapping mapping_fault.Memory)
