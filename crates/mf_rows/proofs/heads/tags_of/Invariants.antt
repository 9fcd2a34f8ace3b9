use Rattle.std.proofs.Common.{◌≡◌, ◌+◌, ◌*◌, ◌∷◌, [], ◌++◌, length, drop}
use Rattle.std.specs.Prelude.{flat_map}
use Rattle.mf_rows.specs.Heads.{all_kept, kept_at}
use Rattle.mf_rows.proofs.heads.tags_of.Given as goal

abbrev pub invariant-loop-unit : goal.invariant-loop-unit
invariant-loop-unit l =
    (l.tags.items ++ flat_map (λ u. kept_at 0 u ∷ kept_at 8 u ∷ []) (drop l.unit-index l.more)
    ≡ all_kept l.third l.more) × (length l.tags.items ≡ 1 + 2 * l.unit-index)
