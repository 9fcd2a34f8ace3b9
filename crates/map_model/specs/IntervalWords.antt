-- Zoom intervals as words: this project's profile.
use Rattle.std.specs.Prelude.{ℕ, List, [], ◌∷◌, nat_eq, Option, Some, None, option_map, option_and_then, if◌then◌else◌}
use Rattle.std.specs.List.{slice_split}
use Rattle.mf_base.specs.declared.tile.Interval.{Interval}
use Rattle.mf_base.specs.Texts.{Text, cut}
use Rattle.mf_base.specs.Numbers.{zoom_number}
use Rattle.mf_base.specs.PlaceWords.{comma}
use Rattle.map_model.specs.Intervals.{are_intervals}

-- the byte of `:`
abbrev pub colon : ℕ
colon = 58

-- the interval of the texts of three zoom levels
abbrev pub interval_of : Text → Text → Text → Option Interval
interval_of base min max =
    option_and_then (λ b. option_and_then (λ m. option_map (λ n. record { base = b; min = m; max = n })
    (zoom_number max)) (zoom_number min)) (zoom_number base)

-- the interval of `BASE:MIN:MAX`
unfoldable pub read_interval : Text → Option Interval
read_interval text =
    option_and_then (λ (p : Text × Text). option_and_then (λ (q : Text × Text). interval_of p.0 q.0 q.1)
    (cut colon p.1)) (cut colon text)

-- what reading gives of each text, where it gives something of all
abbrev pub read_each_text : {A : Type 0} → (Text → Option A) → List Text → Option (List A)
read_each_text read [] = Some []
read_each_text read (text ∷ more) =
    option_and_then (λ value. option_map (λ values. value ∷ values) (read_each_text read more)) (read text)

-- the intervals, where they are those of a map
abbrev pub kept_intervals : List Interval → Option (List Interval)
kept_intervals all = if are_intervals all then Some all else None

-- the intervals of texts `BASE:MIN:MAX` that are joined by commas
unfoldable pub read_intervals : Text → Option (List Interval)
read_intervals text =
    option_and_then kept_intervals (read_each_text read_interval (slice_split (nat_eq comma) text))

-- the intervals of a map for which none are given
abbrev pub default_intervals : List Interval
default_intervals =
    record { base = 5; min = 0; max = 7 }
    ∷ record { base = 10; min = 8; max = 11 }
    ∷ record { base = 14; min = 12; max = 21 }
    ∷ []
