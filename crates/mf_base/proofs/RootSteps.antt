-- The steps of Newton's method towards a whole root.
use Rattle.std.proofs.Common.{◌≡◌, ℕ, zero, suc, ◌+◌, ◌-◌, ◌*◌, ◌/◌, ◌%◌, ◌^◌, ◌<◌, ◌≤◌, sym, arith, inl, inr}
use Rattle.std.proofs.lemmas.Bool.{cases_lt}
use Rattle.std.proofs.lemmas.Nat.{pow-add}
use Rattle.std.proofs.Math.Nat.{pow-le-pow_right, pow-suc, mul-le-mul_left}
use Rattle.std.proofs.Math.Pow.{pow-lt}
use Rattle.mf_base.specs.Root.{isqrt}
use Rattle.mf_base.proofs.Roots.{isqrt-is, root-only}

-- four times a product is at most the square of the sum
four_products : (a b : ℕ) → 4 * (a * b) ≤ (a + b) * (a + b)
four_products a b = elim (cases_lt a b) [
  | inl less ↦ below a (b - a) b (omega (arith, less))
  | inr more ↦ above (a - b) b a (omega (arith, more))
]
  where
    below : (a d b : ℕ) → b ≡ a + d → 4 * (a * b) ≤ (a + b) * (a + b)
    below a d b e = rw e (omega arith)

    above : (d b a : ℕ) → a ≡ b + d → 4 * (a * b) ≤ (a + b) * (a + b)
    above d b a e = rw e (omega arith)

squares-le : (a b : ℕ) → a ≤ b → a * a ≤ b * b
squares-le a b le = let e : b ≡ a + (b - a) = omega (arith, le) in rw e (omega arith)

-- each step stays at the root or above it
pub step-above : (v x : ℕ) → 0 < x → v < suc ((x + v / x) / 2) * suc ((x + v / x) / 2)
step-above v x some =
    let most : v < x * (v / x + 1) = omega (arith, some) in
    let products = four_products x (v / x + 1) in
    let squares = squares-le (x + (v / x + 1)) (2 * suc ((x + v / x) / 2)) (omega arith) in
    omega (arith, most, products, squares)

-- the root of a positive number is positive
pub above-some : (v x : ℕ) → 0 < v → v < suc x * suc x → 0 < x
above-some v zero some above = absurd (omega (arith, some, above))
above-some v (suc x) some above = omega arith

-- where a step does not fall, it stood at the root
pub step-root : (v x : ℕ) → 0 < x → v < suc x * suc x → x ≤ (x + v / x) / 2 → x ≡ isqrt v
step-root v x some above stands =
    let fits : x ≤ v / x = omega (arith, stands) in
    let below : x * x ≤ v = omega (arith, some, mul-le-mul_left x fits) in
    root-only x (isqrt v) v (record { below = below; next = above }) (isqrt-is v)

-- the first guess is above the root
pub guess-above : (v k : ℕ) → v < 2 * 2 ^ k → v < 2 ^ (k / 2 + 1) * 2 ^ (k / 2 + 1)
guess-above v k below =
    let more : 2 * 2 ^ k ≤ 2 ^ (k / 2 + 1 + (k / 2 + 1)) =
    omega (
      arith,
      pow-suc 2 k,
      pow-le-pow_right {n = 2} (omega arith) {i = suc k} {j = k / 2 + 1 + (k / 2 + 1)}
          (omega arith),
    ) in
    rw (sym (pow-add 2 (k / 2 + 1) (k / 2 + 1))) (omega (arith, below, more))

-- and it is not cut off at 128 bits
pub guess-fits : (k : ℕ) → k < 128 → 1 * 2 ^ (k / 2 + 1) % 2 ^ 128 ≡ 2 ^ (k / 2 + 1)
guess-fits k small =
    let less : 2 ^ (k / 2 + 1) < 2 ^ 128 = pow-lt {i = k / 2 + 1} {j = 128} (omega arith) in
    omega (arith, less)

pub root-zero : 0 ≡ isqrt 0
root-zero = root-only 0 (isqrt 0) 0 (record { below = omega arith; next = omega arith }) (isqrt-is 0)

-- a number whose next square is above has the root at most there
pub isqrt-le : (n v : ℕ) → v < suc n * suc n → isqrt v ≤ n
isqrt-le n v above =
    let root = isqrt-is v in
    elim (cases_lt n (isqrt v)) [
      | inl less ↦ let squares =
          squares-le (suc n) (isqrt v) (omega (arith, less)) in absurd (omega (arith, squares, above, root.below))
      | inr le ↦ omega (arith, le)
    ]

-- a number whose square is at most the given one has the root at least there
pub le-isqrt : (n v : ℕ) → n * n ≤ v → n ≤ isqrt v
le-isqrt n v below =
    let root = isqrt-is v in
    elim (cases_lt (isqrt v) n) [
      | inl less ↦ let squares =
          squares-le (suc (isqrt v)) n (omega (arith, less)) in absurd (omega (arith, squares, below, root.next))
      | inr le ↦ omega (arith, le)
    ]
