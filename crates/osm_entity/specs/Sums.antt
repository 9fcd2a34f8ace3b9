-- Differences that are summed up. This project's own.
use Rattle.std.specs.Prelude.{ℕ, ℤ, Bool, List, map}
use Rattle.std.specs.List.{list_all}
use Rattle.mf_base.specs.Spelling.{unzigzag_of}
use Rattle.mf_base.specs.Ranges.{is_signed_64}
use Rattle.mf_base.specs.Packed.{packed_numbers}
use Rattle.osm_model.specs.Objects.{running_sums_from}

-- the numbers of a delta column behind numbers of this sum
abbrev pub sums_in : ℤ → List ℕ → List ℤ
sums_in sum bytes = running_sums_from sum (map unzigzag_of (packed_numbers bytes))

-- each of them is one of signed 64 bits
abbrev pub are_signed : ℤ → List ℕ → Bool
are_signed sum bytes = list_all is_signed_64 (sums_in sum bytes)
