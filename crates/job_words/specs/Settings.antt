-- What the words of `mfwrite` set. This project's own.
use Rattle.std.specs.Prelude.{ℕ, ◌≤◌, nat_le, List, length, IfSome, IsTrue, Option, Some, None, option_and_then}
use Rattle.std.specs.Prelude.{unwrap_or}
use Rattle.std.specs.Prelude.{Result, Ok, Err, if◌then◌else◌}
use Rattle.mf_base.specs.declared.place.Rect.{Rect}
use Rattle.mf_base.specs.Ranges.{is_rect}
use Rattle.mf_base.specs.Texts.{Text}
use Rattle.mf_base.specs.Steps.{◌>>=◌}
use Rattle.mf_base.specs.Numbers.{zoom_number}
use Rattle.mf_base.specs.PlaceWords.{read_place, read_rect}
use Rattle.feature_model.specs.declared.fault.MappingFault.{MappingFault}
use Rattle.feature_model.specs.Mapping.{Mapping}
use Rattle.feature_model.specs.Entries.{one_poi}
use Rattle.map_model.specs.IntervalWords.{read_intervals, default_intervals}
use Rattle.map_model.specs.Header.{HeadSettings, IsShortText, IsHeadSettings}
use Rattle.tag_mapping.specs.File.{mapping_of}
use Rattle.job_words.specs.declared.refusal.Refusal.{Refusal}
use Rattle.job_words.specs.declared.refusal.Refusal.TheVariants as why
use Rattle.job_words.specs.declared.usage_word.UsageWord.{UsageWord}
use Rattle.job_words.specs.declared.usage_word.UsageWord.TheVariants as option
use Rattle.job_words.specs.declared.values.MadeInput.{MadeInput}
use Rattle.job_words.specs.OptionTable.{path, default_folder, head_text, row_limit, default_rows, worker_count}
use Rattle.job_words.specs.OptionTable.{default_workers, date, made_input}
use Rattle.job_words.specs.Usage.{value_of, usage}

-- what a function reads of the value of an option, where it is given
abbrev pub value_by : {A : Type 0} → (Text → Option A) → List Text → UsageWord → Option A
value_by read words word = option_and_then read (value_of words word)

-- the same, or a default
abbrev pub value_or : {A : Type 0} → A → (Text → Option A) → List Text → UsageWord → A
value_or default read words word = unwrap_or (value_by read words word) default

-- What the words say of a job: its header, mapping, box, row limit, number of workers, and the folder of its store.
pub record JobSettings : Type 0 where
  pub head : HeadSettings
  pub mapping : Mapping
  pub bounds : Option Rect
  pub rows : ℕ
  pub workers : ℕ
  pub folder : List ℕ

-- What they say of the header, where the clock shows `now`, in milliseconds since 1970.
abbrev pub head_settings : List Text → ℕ → HeadSettings
head_settings words now = record {
  date = value_or now date words option.Date;
  start = value_by read_place words option.Start;
  start_zoom = value_by zoom_number words option.StartZoom;
  language = value_by head_text words option.Language;
  comment = value_by head_text words option.Comment;
  created_by = value_by head_text words option.CreatedBy;
  intervals = value_or default_intervals read_intervals words option.Intervals;
}

-- The settings that the words give with a mapping.
abbrev pub settings : List Text → Mapping → ℕ → JobSettings
settings words mapping now = record {
  head = head_settings words now;
  mapping = mapping;
  bounds = value_by read_rect words option.Box;
  rows = value_or default_rows row_limit words option.Rows;
  workers = value_or default_workers worker_count words option.Workers;
  folder = value_or default_folder path words option.Spill;
}

-- the texts that stand in a header are texts of at most 255 bytes
pub record HasTexts (head : HeadSettings) : Type 0 where
  pub language : IfSome head.language IsShortText
  pub comment : IfSome head.comment IsShortText
  pub created_by : IfSome head.created_by IsShortText

-- What settings can be: a header that can be written, a box on the earth, 64 to 16,777,216 rows, 1 to 64 workers, and a
-- folder whose name has at most 4,095 bytes.
pub record IsJob (job : JobSettings) : Type 0 where
  pub head : IsHeadSettings job.head
  pub bounds : IfSome job.bounds (λ box. IsTrue (is_rect box))
  pub some_rows : (64 ≤ job.rows) × (job.rows ≤ 16777216)
  pub some_workers : (1 ≤ job.workers) × (job.workers ≤ 64)
  pub short_folder : length job.folder ≤ 4095

-- ---- a job

-- what is asked for: settings, and the input that is generated, where one is
pub record JobAsked : Type 0 where
  pub settings : JobSettings
  pub made : Option MadeInput

-- what is asked for, where the words are right
abbrev pub asked : List Text → Mapping → ℕ → JobAsked
asked words mapping now =
    record { settings = settings words mapping now; made = value_by made_input words option.Make }

-- the file of a mapping has at most this many bytes
abbrev pub file_limit : ℕ
file_limit = 524288

-- the fault of a mapping as a refusal
abbrev pub or_refused : Result Mapping MappingFault → Result Mapping Refusal
or_refused (Ok mapping) = Ok mapping
or_refused (Err fault) = Err (why.Mapping fault)

-- the mapping of a file's bytes
abbrev pub mapping_of_file : List ℕ → Result Mapping Refusal
mapping_of_file bytes = if nat_le (length bytes) file_limit then or_refused (mapping_of bytes) else Err why.MappingLong

-- the mapping of `--poi`, or else that of the file
abbrev pub mapping_or : Option Text → List ℕ → Result Mapping Refusal
mapping_or (Some word) bytes = or_refused (one_poi word)
mapping_or None bytes = mapping_of_file bytes

-- words are refused by what is wrong with them
abbrev pub usage_or : {A : Type 0} → Option UsageWord → Result A Refusal → Result A Refusal
usage_or (Some word) other = Err (why.Usage word)
usage_or None other = other

-- What the words ask for and the bytes of the file that `--mapping` names, or the first refusal: of the words, then of
-- the mapping.
unfoldable pub job_of : List Text → List ℕ → ℕ → Result JobAsked Refusal
job_of words bytes now = usage_or (usage words)
    (mapping_or (value_of words option.Poi) bytes >>= λ mapping. Ok (asked words mapping now))
