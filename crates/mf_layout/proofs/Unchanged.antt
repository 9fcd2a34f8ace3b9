-- What reads leave of a store: all but its count of faults is as before.
use Rattle.std.proofs.Common.{◌≡◌, ℕ, ap, ◌∙◌}
use Rattle.mf_edge.specs.Spill.{SpillState, SameParts}

-- no fault was counted
pub unchanged : {a b : SpillState} → SameParts a b → b.faults ≡ a.faults → b ≡ a
unchanged {a} {b} same e = same ∙ ap (λ (n : ℕ). record a { faults = n }) e
