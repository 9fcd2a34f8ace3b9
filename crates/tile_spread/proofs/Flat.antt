-- Bytes of units, one unit behind another.
use Rattle.std.proofs.Common.{◌≡◌, ℕ, zero, suc, ◌<◌, List, [], ◌∷◌, ◌++◌, length, get_or, arith}
use Rattle.std.specs.List.{AllByRecursion}
use Rattle.std.specs.Prelude.{flat_map}
use Rattle.mf_base.specs.Spelling.{IsBytes}
use Rattle.mf_rows.specs.Fields.{IsRow}
use Rattle.mf_rows.specs.Units.{Unit16}

in-front : (xs ys : List ℕ) → IsBytes (xs ++ ys) → IsBytes xs
in-front [] ys all i = omega arith
in-front (x ∷ xs) ys all zero = all zero
in-front (x ∷ xs) ys all (suc i) = in-front xs ys (λ j. all (suc j)) i

behind : (xs ys : List ℕ) → IsBytes (xs ++ ys) → IsBytes ys
behind [] ys all = all
behind (x ∷ xs) ys all = behind xs ys (λ j. all (suc j))

-- units of sixteen numbers, which are all bytes
pub rows-flat : (units : List Unit16) → ((i : ℕ) → i < length units → length (get_or units i []) ≡ 16)
    → IsBytes (flat_map (λ u. u) units) → AllByRecursion (IsRow 16) units
rows-flat [] wide all = tt
rows-flat (u ∷ units) wide all = (
  record { many = wide 0 (omega arith); small = in-front u (flat_map (λ u. u) units) all },
  rows-flat units (λ i lt. wide (suc i) (omega (arith, lt))) (behind u (flat_map (λ u. u) units) all),
)
