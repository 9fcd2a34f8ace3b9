-- What is wrong with the words of `mfwrite`. This project's own.
use Rattle.std.specs.Prelude.{Bool, false, not, ◌||◌, List, find, Option, Some, None, is_some, if◌then◌else◌}
use Rattle.mf_base.specs.Texts.{Text}
use Rattle.mf_base.specs.Words.{words_keep, word_of}
use Rattle.job_words.specs.declared.usage_word.UsageWord.{UsageWord}
use Rattle.job_words.specs.declared.usage_word.UsageWord.TheVariants as which
use Rattle.job_words.specs.OptionTable.{row, options, name_of, option_names}

-- the value that the words give for an option
abbrev pub value_of : List Text → UsageWord → Option Text
value_of words option = word_of words (name_of option)

-- whether an option is given
abbrev pub is_given : List Text → UsageWord → Bool
is_given words option = is_some (value_of words option)

-- whether just one of `--mapping` and `--poi` is given
abbrev pub has_one_mapping : List Text → Bool
has_one_mapping words =
    if is_given words which.Mapping then not (is_given words which.Poi) else is_given words which.Poi

-- whether a value is given and is not right
abbrev pub refuses : UsageWord → Option Text → Bool
refuses option None = false
refuses option (Some value) = not ((row option).accepts value)

-- Whether an option breaks its rule: it is given with a value that is not right. `--mapping` does so also where not
-- just one of `--mapping` and `--poi` is given.
abbrev pub breaks : List Text → UsageWord → Bool
breaks words which.Mapping = not (has_one_mapping words) || refuses which.Mapping (value_of words which.Mapping)
breaks words option = refuses option (value_of words option)

-- What is wrong: that the words are no list of options, or the first option in the order of the table that breaks its
-- rule.
unfoldable pub usage : List Text → Option UsageWord
usage words = if words_keep option_names words then find (breaks words) options else Some which.Words
