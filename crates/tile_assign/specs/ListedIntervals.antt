-- What is read of the intervals of words, one after another.
use Rattle.std.specs.Prelude.{◌≡◌, ◌<◌, List, length, nat_eq, Option, Some, None}
use Rattle.std.specs.List.{slice_split}
use Rattle.mf_base.specs.declared.tile.Interval.{Interval}
use Rattle.mf_base.specs.Texts.{Text}
use Rattle.mf_base.specs.PlaceWords.{comma}
use Rattle.map_model.specs.IntervalWords.{read_interval, read_each_text}

-- what the texts between commas tell
abbrev pub told_intervals : Text → Option (List Interval)
told_intervals text = read_each_text read_interval (slice_split (nat_eq comma) text)

-- These are the intervals that are told, or there are none or more than eight.
abbrev pub IsListed : Option (List Interval) → Text → Type 0
IsListed (Some all) text = told_intervals text ≡ Some all
IsListed None text = (all : List Interval) → told_intervals text ≡ Some all → 8 < length all
