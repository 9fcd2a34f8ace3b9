-- Counts of faults.
use Rattle.std.proofs.Common.{ℕ, ◌-◌, ◌^◌, inl, inr, arith}
use Rattle.std.proofs.lemmas.Bool.{cases_lt}
use Rattle.mf_edge.specs.Device.{CountsOne, HasRisen}

-- a count that counted one has risen
pub risen : (before now : ℕ) → CountsOne before now → HasRisen before now
risen before now one = elim (cases_lt before (2 ^ 64 - 1)) [
  | inl less ↦ inl (omega (arith, less, one))
  | inr not_less ↦ inr (omega (arith, not_less, one))
]

pub ruleset counting = (risen)
