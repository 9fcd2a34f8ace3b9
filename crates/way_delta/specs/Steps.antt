-- Steps from place to place, as the code has them. Numbers are in microdegrees.
use Rattle.std.specs.Prelude.{ℕ, ◌<◌, nat_abs}
use Rattle.mf_base.specs.declared.place.Place.{Place}
use Rattle.way_delta.specs.declared.steps.Step.{Step}

-- a step as how far a place is from another
abbrev pub shown : Step → Place
shown s = record { lat = s.lat; lon = s.lon }

-- both of its numbers are below so many
abbrev pub IsStepBelow : ℕ → Step → Type 0
IsStepBelow most s = (nat_abs s.lat < most) × (nat_abs s.lon < most)
