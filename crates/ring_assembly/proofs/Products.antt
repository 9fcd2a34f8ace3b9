-- Products of numbers of 64 bits.
use Rattle.std.proofs.Common.{◌≡◌, ◌∙◌, ◌≤◌, ◌^◌, ℤ, pos, negsuc, ◌*ℤ◌, FitsSigned, to_z, of_z, ap, arith}
use Rattle.std.specs.Prelude.{unsigned_abs}
use Rattle.std.specs.Int.{w64}
use Rattle.std.proofs.lemmas.Int.{fits_signed_mul, to_z-of_z, ints}
use mir.Syntax.{w128}

abs_fits : (z : ℤ) → FitsSigned w64 z → unsigned_abs z ≤ 2 ^ 63
abs_fits (pos n) f = omega (arith, ints, f)
abs_fits (negsuc n) f = omega (arith, ints, f)

widened : (z : ℤ) → FitsSigned w64 z → FitsSigned w128 z
widened z f = omega (arith, ints, f)

-- a number of 64 bits, as it is kept in 128, and as it is passed
abbrev kept : ℤ → ℤ
kept z = to_z w128 (of_z w128 z)

abbrev read : ℤ → ℤ
read z = to_z w64 (of_z w64 z)

same : (z : ℤ) → FitsSigned w64 z → kept z ≡ z
same z f = to_z-of_z w128 z (widened z f)

fits : (g s : ℤ) → FitsSigned w64 g → FitsSigned w64 s → FitsSigned w128 (g *ℤ s)
fits g s f h = fits_signed_mul w128 g s (2 ^ 63) (2 ^ 63) (abs_fits g f) (abs_fits s h) (omega arith)

both_kept : (g s b c : ℤ) → FitsSigned w64 g → FitsSigned w64 s → b ≡ read g → c ≡ read s
    → kept b *ℤ kept c ≡ g *ℤ s
both_kept g s b c f h is_g is_s =
    ap (λ z. kept z *ℤ kept c) (is_g ∙ to_z-of_z w64 g f) ∙ ap (λ z. z *ℤ kept c) (same g f)
    ∙ ap (λ z. g *ℤ kept z) (is_s ∙ to_z-of_z w64 s h) ∙ ap (λ z. g *ℤ z) (same s h)

pub product-fits : (g s b c : ℤ) → FitsSigned w64 g → FitsSigned w64 s → b ≡ read g → c ≡ read s
    → FitsSigned w128 (kept b *ℤ kept c)
product-fits g s b c f h is_g is_s = rw (both_kept g s b c f h is_g is_s) (fits g s f h)

pub product-is : (g s b c : ℤ) → FitsSigned w64 g → FitsSigned w64 s → b ≡ read g → c ≡ read s
    → kept (kept b *ℤ kept c) ≡ g *ℤ s
product-is g s b c f h is_g is_s =
    ap kept (both_kept g s b c f h is_g is_s) ∙ to_z-of_z w128 (g *ℤ s) (fits g s f h)
