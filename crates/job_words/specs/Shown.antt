-- What the definitions call the settings of the code.
use Rattle.std.specs.Prelude.{Result, Ok, Err}
use Rattle.map_header.specs.Shown as header
use Rattle.job_words.specs.declared.refusal.Refusal.{Refusal}
use Rattle.job_words.specs.declared.settings.Settings.{Settings}
use Rattle.job_words.specs.declared.job.JobWords.{JobWords}
use Rattle.job_words.specs.Settings.{JobSettings, JobAsked}

-- the settings
abbrev pub settings_of : Settings → JobSettings
settings_of s = record {
  head = header.settings_of s.head;
  mapping = s.mapping;
  bounds = s.bounds;
  rows = s.rows;
  workers = s.workers;
  folder = s.folder.bytes;
}

-- what is asked for
abbrev pub asked_of : JobWords → JobAsked
asked_of job = record { settings = settings_of job.settings; made = job.made }

-- what is asked for, or the refusal
abbrev pub told_by : Result JobWords Refusal → Result JobAsked Refusal
told_by (Ok job) = Ok (asked_of job)
told_by (Err refusal) = Err refusal
