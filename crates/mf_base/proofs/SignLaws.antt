-- Signed numbers: magnitudes and differences.
use Rattle.std.proofs.Common.{◌≡◌, ◌∙◌, zero, suc, ℤ, ◌+ℤ◌, ◌-ℤ◌, pos, negsuc, neg_ℤ, nat_abs, refl}
use Rattle.std.proofs.Math.IntN.{+ℤ_comm, -ℤ-+ℤ_cancel}

pub nat_abs-neg : (z : ℤ) → nat_abs (neg_ℤ z) ≡ nat_abs z
nat_abs-neg (pos zero) = refl
nat_abs-neg (pos (suc n)) = refl
nat_abs-neg (negsuc n) = refl

-- a difference is added back
pub plus_difference : (base z : ℤ) → base +ℤ (z -ℤ base) ≡ z
plus_difference base z = +ℤ_comm base (z -ℤ base) ∙ -ℤ-+ℤ_cancel z base
