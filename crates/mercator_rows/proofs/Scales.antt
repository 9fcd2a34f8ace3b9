-- The scale of a latitude, from its highest bit down; and bounds of what is computed of it.
use Rattle.std.proofs.Common.{◌≡◌, ℕ, zero, suc, ◌+◌, ◌-◌, ◌*◌, ◌/◌, ◌%◌, ◌^◌, ◌<◌, ◌≤◌, List, [], ◌∷◌, ◌++◌, get_or}
use Rattle.std.proofs.Common.{refl, ap, ◌∙◌, arith}
use Rattle.std.specs.Prelude.{◌==◌, fold, filter, reverse}
use Rattle.std.specs.List.{range_with_len}
use Rattle.std.proofs.lemmas.Bool.{eq-eqb, ne_eqb}
use Rattle.std.proofs.Math.Nat.{div-le_of_le-mul, div-mul-le_self, mul-le-mul_left, mul-le-mul_right}
use Rattle.std.proofs.lemmas.List.{reverse-append}
use Rattle.mf_base.specs.Root.{isqrt}
use Rattle.mf_base.proofs.RootSteps.{isqrt-le, le-isqrt}
use Rattle.map_model.specs.Mercator.{unit, root_of_scale, scale_at, half_tangent}

-- ---- the bits of a number, the highest first

range-snoc : (a n : ℕ) → range_with_len a (suc n) ≡ range_with_len a n ++ (a + n) ∷ []
range-snoc a zero = ap (λ k. k ∷ []) (omega arith)
range-snoc a (suc n) =
    ap (λ ks. a ∷ ks) (range-snoc (a + 1) n ∙ ap (λ k. range_with_len (a + 1) n ++ k ∷ []) (omega arith))

-- the bits below bit n, the highest first
unfoldable pub bits_below : ℕ → ℕ → List ℕ
bits_below a n = filter (λ j. a / 2 ^ j % 2 == 1) (reverse (range_with_len 0 n))

range-down : (n : ℕ) → reverse (range_with_len 0 (suc n)) ≡ n ∷ reverse (range_with_len 0 n)
range-down n = ap reverse (range-snoc 0 n) ∙ reverse-append (range_with_len 0 n) ((0 + n) ∷ [])
    ∙ ap (λ k. k ∷ reverse (range_with_len 0 n)) (omega arith)

bits_below-set : (a n : ℕ) → a / 2 ^ n % 2 ≡ 1 → bits_below a (suc n) ≡ n ∷ bits_below a n
unfolding bits_below
bits_below-set a n is = rw (range-down n, eq-eqb (a / 2 ^ n % 2) 1 is) refl

bits_below-clear : (a n : ℕ) → (a / 2 ^ n % 2 ≡ 1 → ⊥) → bits_below a (suc n) ≡ bits_below a n
unfolding bits_below
bits_below-clear a n not = rw (range-down n, ne_eqb (a / 2 ^ n % 2) 1 not) refl

-- what is left to multiply a scale by
unfoldable pub scale_on : ℕ → ℕ → ℕ → ℕ
scale_on a n p = fold (λ p j. p * root_of_scale (17 - j) / unit) p (bits_below a n)

pub scale_on-start : (a : ℕ) → scale_on a 18 unit ≡ scale_at a
unfolding scale_on scale_at bits_below
scale_on-start a = refl

pub scale_on-end : (a p : ℕ) → scale_on a 0 p ≡ p
unfolding scale_on bits_below
scale_on-end a p = refl

pub scale_on-set : (a n p : ℕ) → a / 2 ^ n % 2 ≡ 1
    → scale_on a (suc n) p ≡ scale_on a n (p * root_of_scale (17 - n) / unit)
unfolding scale_on
scale_on-set a n p is = rw (bits_below-set a n is) refl

pub scale_on-clear : (a n p : ℕ) → (a / 2 ^ n % 2 ≡ 1 → ⊥) → scale_on a (suc n) p ≡ scale_on a n p
unfolding scale_on
scale_on-clear a n p not = rw (bits_below-clear a n not) refl

-- ---- bounds

-- the root of a product is at most the greater factor
root-le : (p s : ℕ) → p ≤ s → isqrt (p * s) ≤ s
root-le p s le = isqrt-le s (p * s) (omega (arith, mul-le-mul_right s le))

pub root_of_scale-le : (i : ℕ) → root_of_scale i ≤ unit
unfolding root_of_scale
root_of_scale-le zero = omega arith
root_of_scale-le (suc i) = root-le (root_of_scale i) unit (root_of_scale-le i)

-- a number times a fraction is at most the number
pub scaled-le : (p c : ℕ) → c ≤ unit → p * c / unit ≤ p
scaled-le p c le = div-le_of_le-mul unit (omega (arith, mul-le-mul_left p le))

-- half a tangent is at most half of it
pub half-le : (t : ℕ) → 2 * half_tangent t ≤ t
half-le t =
    let s = isqrt (unit * unit + t * t) in
    let above : unit ≤ s = le-isqrt unit (unit * unit + t * t) (omega arith) in
    let whole = div-mul-le_self (t * unit) (unit + s) in
    let more = mul-le-mul_left (t * unit / (unit + s)) above in
    omega (arith, whole, more)

-- a quotient of a number by a greater one is at most one
pub ratio-le : (a b : ℕ) → a ≤ b → a * unit / b ≤ unit
ratio-le a b le = div-le_of_le-mul b (omega (arith, le))

pub secant-le : (t : ℕ) → t ≤ unit → isqrt (unit * unit + t * t) ≤ 2 * unit
secant-le t le = isqrt-le (2 * unit) (unit * unit + t * t) (omega (arith, mul-le-mul_left t le, le))

pub first_root : (roots : List ℕ) → get_or roots 0 0 ≡ 43213918263772250 → (k : ℕ) → k < 1
    → get_or roots k 0 ≡ root_of_scale k
unfolding root_of_scale
first_root roots e zero lt = e
first_root roots e (suc k) lt = absurd (omega (arith, lt))

pub root_of_scale-next : (i root : ℕ) → 0 < i → root ≡ isqrt (root_of_scale (i - 1) * unit) → root ≡ root_of_scale i
unfolding root_of_scale
root_of_scale-next zero root some e = absurd (omega (arith, some))
root_of_scale-next (suc i) root some e = e ∙ ap (λ j. isqrt (root_of_scale j * unit)) (omega arith)

-- one more bit of the scale
pub scale_on-set_at : (a i root p : ℕ) → i < 18 → a / 2 ^ (17 - i) % 2 ≡ 1 → root ≡ root_of_scale i
    → scale_on a (18 - (i + 1)) (p * root / unit) ≡ scale_on a (18 - i) p
scale_on-set_at a i root p lt is e =
    let n : 18 - i ≡ suc (17 - i) = omega (arith, lt) in
    let n' : 18 - (i + 1) ≡ 17 - i = omega (arith, lt) in
    let same : 17 - (17 - i) ≡ i = omega (arith, lt) in
    rw (n, n', e, scale_on-set a (17 - i) p is, same) refl

pub scale_on-clear_at : (a i p : ℕ) → i < 18 → (a / 2 ^ (17 - i) % 2 ≡ 1 → ⊥)
    → scale_on a (18 - (i + 1)) p ≡ scale_on a (18 - i) p
scale_on-clear_at a i p lt not =
    let n : 18 - i ≡ suc (17 - i) = omega (arith, lt) in
    let n' : 18 - (i + 1) ≡ 17 - i = omega (arith, lt) in
    rw (n, n', scale_on-clear a (17 - i) p not) refl
