-- What is said of words that are no job. This project's own.
use Rattle.std.specs.Prelude.{ℕ, ◌∷◌, ◌++◌, codes, decimal}
use Rattle.mf_base.specs.Texts.{Text}
use Rattle.mf_base.specs.declared.kind.List as which
use Rattle.feature_model.specs.declared.fault.MappingFault.{MappingFault}
use Rattle.job_words.specs.declared.refusal.Refusal.{Refusal}
use Rattle.job_words.specs.declared.refusal.Refusal.TheVariants as why
use Rattle.job_words.specs.declared.usage_word.UsageWord.{UsageWord}
use Rattle.job_words.specs.OptionTable.{name_of}

-- the name of a list of a mapping
abbrev pub list_name : which.List → Text
list_name which.List.Poi = codes "poi"
list_name which.List.Way = codes "way"

-- what is said of the fault of a mapping, without its list and its place
abbrev pub mapping_code : MappingFault → Text
mapping_code MappingFault.Memory = codes "memory"
mapping_code MappingFault.Toml = codes "toml"
mapping_code MappingFault.Shape = codes "shape"
mapping_code (MappingFault.TooMany list) = codes "too-many"
mapping_code (MappingFault.Entry list index) = codes "entry"
mapping_code (MappingFault.Kind list index) = codes "kind"
mapping_code (MappingFault.Twice list index) = codes "twice"

-- a list behind a blank
abbrev pub at_list : which.List → Text
at_list list = 32 ∷ list_name list

-- a list and the place of an entry, each behind a blank
abbrev pub at_entry : which.List → ℕ → Text
at_entry list index = at_list list ++ 32 ∷ decimal index

-- where in a mapping a fault is
abbrev pub mapping_place : MappingFault → Text
mapping_place (MappingFault.TooMany list) = at_list list
mapping_place (MappingFault.Entry list index) = at_entry list index
mapping_place (MappingFault.Kind list index) = at_entry list index
mapping_place (MappingFault.Twice list index) = at_entry list index
mapping_place _ = codes ""

-- the text of words that are not right
abbrev pub usage_text : UsageWord → Text
usage_text word = codes "usage " ++ name_of word

-- the text of a mapping that is refused
abbrev pub mapping_text : MappingFault → Text
mapping_text fault = codes "mapping " ++ mapping_code fault ++ mapping_place fault

-- The text of a refusal, without the program's name and the line feed.
abbrev pub refusal_text : Refusal → Text
refusal_text (why.Usage word) = usage_text word
refusal_text (why.Mapping fault) = mapping_text fault
refusal_text why.MappingLong = codes "mapping too-long"
refusal_text why.Read = codes "read"
refusal_text why.Memory = codes "memory"
