-- The spelling of a number is the only one.
use Rattle.std.proofs.Common.{◌≡◌, ℕ, zero, suc, ◌+◌, ◌*◌, ◌/◌, ◌%◌, ◌<◌, ◌≤◌, ◌^◌, List, [], ◌∷◌, length, refl, sym}
use Rattle.std.proofs.Common.{ap, ◌∙◌, arith, inl, inr}
use Rattle.std.proofs.lemmas.Bool.{cases_lt, lt-ltb, le-ltb}
use Rattle.std.proofs.Math.Nat.{pow-suc, mul_assoc, div-lt_iff_lt-mul}
use Rattle.mf_base.specs.Spelling.{IsVbe, vbe, vbe_within}

vbe_within-small : (most last sign m : ℕ) → m < last → vbe_within (suc most) last sign m ≡ (m + sign) ∷ []
unfolding vbe_within
vbe_within-small most last sign m small = rw (lt-ltb m last small, vbe_within) refl

vbe_within-more : (most last sign m : ℕ) → last ≤ m
    → vbe_within (suc most) last sign m ≡ (128 + m % 128) ∷ vbe_within most last sign (m / 128)
unfolding vbe_within
vbe_within-more most last sign m large = rw (le-ltb m last large, vbe_within) refl

vbe_within-only : (most last sign m : ℕ) (b : List ℕ) → 0 < last → m < most → IsVbe last sign m b
    → b ≡ vbe_within most last sign m
vbe_within-only zero last sign m b some fits h = absurd (omega (arith, fits))
vbe_within-only (suc most) last sign m [] some fits h = absurd h
vbe_within-only (suc most) last sign m (b ∷ c) some fits (inl h) =
    rw (vbe_within-small most last sign m h.0, h.1, h.2) refl
vbe_within-only (suc most) last sign m (b ∷ c) some fits (inr h) =
    let rest = vbe_within-only most last sign (m / 128) c some (omega (arith, h.0, fits, some)) h.2 in
    rw (vbe_within-more most last sign m h.0, h.1, rest) refl

vbe_within-is : (most last sign m : ℕ) → 0 < last → m < most → IsVbe last sign m (vbe_within most last sign m)
vbe_within-is zero last sign m some fits = absurd (omega (arith, fits))
vbe_within-is (suc most) last sign m some fits =
    elim (cases_lt m last) [
      | inl small ↦ rw (vbe_within-small most last sign m small) (inl (small, refl, refl))
      | inr large ↦ rw (vbe_within-more most last sign m large)
          (inr (large, refl, vbe_within-is most last sign (m / 128) some (omega (arith, large, fits, some))))
    ]

-- one spelling, and it is `vbe`
pub vbe-only : (last sign m : ℕ) (b : List ℕ) → 0 < last → IsVbe last sign m b → b ≡ vbe last sign m
unfolding vbe
vbe-only last sign m b some h = vbe_within-only (suc m) last sign m b some (omega arith) h

pub vbe-is : (last sign m : ℕ) → 0 < last → IsVbe last sign m (vbe last sign m)
unfolding vbe
vbe-is last sign m some = vbe_within-is (suc m) last sign m some (omega arith)

-- its two cases
pub vbe-small : (last sign m : ℕ) → m < last → vbe last sign m ≡ (m + sign) ∷ []
vbe-small last sign m small =
    sym (vbe-only last sign m ((m + sign) ∷ []) (omega (arith, small)) (inl (small, refl, refl)))

pub vbe-more : (last sign m : ℕ) → 0 < last → last ≤ m → vbe last sign m ≡ (128 + m % 128) ∷ vbe last sign (m / 128)
vbe-more last sign m some large =
    sym (vbe-only last sign m ((128 + m % 128) ∷ vbe last sign (m / 128)) some
    (inr (large, refl, vbe-is last sign (m / 128) some)))

-- a number below last * 128 ^ k has at most k + 1 bytes
pub length-vbe-le : (k last sign m : ℕ) → 0 < last → m < last * 128 ^ k → length (vbe last sign m) ≤ suc k
length-vbe-le zero last sign m some fits = rw (vbe-small last sign m (omega (arith, fits))) (omega arith)
length-vbe-le (suc k) last sign m some fits =
    elim (cases_lt m last) [
      | inl small ↦ rw (vbe-small last sign m small) (omega arith)
      | inr large ↦
          let wide : last * 128 ^ suc k ≡ last * 128 ^ k * 128 =
          ap (λ (x : ℕ). last * x) (pow-suc 128 k) ∙ sym (mul_assoc last (128 ^ k) 128) in
          let low : m / 128 < last * 128 ^ k =
          (div-lt_iff_lt-mul {k = 128} {x = m} {y = last * 128 ^ k} (omega arith)).1 (rw wide at fits) in
          let rest = length-vbe-le k last sign (m / 128) some low in
          rw (vbe-more last sign m some large) (omega (arith, rest))
    ]

-- an unsigned number below 2 ^ 63 has at most nine bytes, and a magnitude below 2 ^ 63 at most ten
pub length-vbe_unsigned-63 : (n : ℕ) → n < 2 ^ 63 → length (vbe 128 0 n) ≤ 9
length-vbe_unsigned-63 n fits = length-vbe-le 8 128 0 n (omega arith) (omega (arith, fits))

pub length-vbe_signed-63 : (sign m : ℕ) → m < 2 ^ 63 → length (vbe 64 sign m) ≤ 10
length-vbe_signed-63 sign m fits = length-vbe-le 9 64 sign m (omega arith) (omega (arith, fits))

pub length-vbe-positive : (last sign m : ℕ) → 0 < last → 0 < length (vbe last sign m)
length-vbe-positive last sign m some =
    elim (cases_lt m last) [
      | inl small ↦ rw (vbe-small last sign m small) (omega arith)
      | inr large ↦ rw (vbe-more last sign m some large) (omega arith)
    ]
