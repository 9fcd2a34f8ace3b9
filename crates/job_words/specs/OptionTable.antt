-- The options of `mfwrite`: their names, in the order in which they are checked, and which values are right. This
-- project's own.
use Rattle.std.specs.Prelude.{ℕ, ◌-◌, ◌^◌, Bool, false, nat_le, length, List, [], ◌∷◌, codes, map, Option, Some, None}
use Rattle.std.specs.Prelude.{option_map, option_and_then, is_some, is_ok, if◌then◌else◌}
use Rattle.mf_base.specs.Texts.{Text, cut}
use Rattle.mf_base.specs.Numbers.{number_in, zoom_number}
use Rattle.mf_base.specs.PlaceWords.{comma, read_place, read_rect}
use Rattle.feature_model.specs.Entries.{one_poi}
use Rattle.map_model.specs.IntervalWords.{read_intervals}
use Rattle.job_words.specs.declared.usage_word.UsageWord.{UsageWord}
use Rattle.job_words.specs.declared.usage_word.UsageWord.TheVariants as option
use Rattle.job_words.specs.declared.values.MadeInput.{MadeInput}

-- ---- values

-- a text of at most so many bytes
abbrev pub text_up_to : ℕ → Text → Option Text
text_up_to most text = if nat_le (length text) most then Some text else None

-- the name of a file or folder, of at most 4,095 bytes
abbrev pub path : Text → Option Text
path text = text_up_to 4095 text

-- the folder of the store where none is given
abbrev pub default_folder : Text
default_folder = codes "mfwrite.spill"

-- a text of the header, of at most 255 bytes
abbrev pub head_text : Text → Option Text
head_text text = text_up_to 255 text

-- how many rows a desk has room for: 64 to 16,777,216, and 1,048,576 where it is not given
abbrev pub row_limit : Text → Option ℕ
row_limit text = number_in 64 16777216 text

abbrev pub default_rows : ℕ
default_rows = 1048576

-- how many workers there are: 1 to 64, and 4 where it is not given
abbrev pub worker_count : Text → Option ℕ
worker_count text = number_in 1 64 text

abbrev pub default_workers : ℕ
default_workers = 4

-- a date in milliseconds since 1970, up to the end of the year 9999
abbrev pub date : Text → Option ℕ
date text = number_in 0 253402300799999 text

-- the generated input of a seed below 2^64 and a size of 1 to 1,000,000
abbrev pub input_of : Text → Text → Option MadeInput
input_of seed size =
    option_and_then (λ s. option_map (λ n. record { seed = s; size = n }) (number_in 1 1000000 size))
    (number_in 0 (2 ^ 64 - 1) seed)

-- the generated input of `SEED,SIZE`
unfoldable pub made_input : Text → Option MadeInput
made_input text = option_and_then (λ (p : Text × Text). input_of p.0 p.1) (cut comma text)

-- ---- the table

-- a row of the table: the name of an option, and which values are right
pub record OptionRow : Type 0 where
  pub name : Text
  pub accepts : Text → Bool

-- the row of an option whose values are right where a function reads them
abbrev pub read_by : {A : Type 0} → Text → (Text → Option A) → OptionRow
read_by name read = record { name = name; accepts = λ value. is_some (read value) }

-- The row of each option. `words` is none, and stands here for its name alone. Where they are not given, `--intervals`
-- is `default_intervals`, `--rows`, `--workers` and `--spill` are as above, `--date` is what the clock shows, and each
-- other is none.
abbrev pub row : UsageWord → OptionRow
row option.Words = record { name = codes "words"; accepts = λ value. false }
row option.Mapping = read_by (codes "mapping") path
row option.Poi = record { name = codes "poi"; accepts = λ value. is_ok (one_poi value) }
row option.Intervals = read_by (codes "intervals") read_intervals
row option.Box = read_by (codes "box") read_rect
row option.Rows = read_by (codes "rows") row_limit
row option.Workers = read_by (codes "workers") worker_count
row option.Date = read_by (codes "date") date
row option.Start = read_by (codes "start") read_place
row option.StartZoom = read_by (codes "start-zoom") zoom_number
row option.Language = read_by (codes "language") head_text
row option.Comment = read_by (codes "comment") head_text
row option.CreatedBy = read_by (codes "created-by") head_text
row option.Spill = read_by (codes "spill") path
row option.Make = read_by (codes "make") made_input

-- the order of the table
abbrev pub options : List UsageWord
options = option.Mapping ∷ option.Poi ∷ option.Intervals ∷ option.Box ∷ option.Rows ∷ option.Workers ∷ option.Date
    ∷ option.Start ∷ option.StartZoom ∷ option.Language ∷ option.Comment ∷ option.CreatedBy ∷ option.Spill
    ∷ option.Make ∷ []

-- the name of an option
abbrev pub name_of : UsageWord → Text
name_of word = (row word).name

-- the names of all options
abbrev pub option_names : List Text
option_names = map name_of options
