-- The series of the arc tangent, two terms at a time.
use Rattle.std.proofs.Common.{◌≡◌, ℕ, suc, ◌+◌, ◌-◌, ◌*◌, ◌/◌, ◌<◌, ◌≤◌, map, refl, sym, ap, ◌∙◌, arith}
use Rattle.std.specs.Prelude.{sum_by}
use Rattle.std.specs.List.{range_with_len}
use Rattle.std.proofs.Math.Nat.{div-le_of_le-mul, div-le_self, div-mul-le_self, mul-le-mul_left}
use Rattle.std.proofs.lemmas.Nat.{le-div}
use Rattle.std.proofs.lemmas.List.FromFn.{sum_by-map-range_with_len_more}
use Rattle.map_model.specs.Mercator.{unit, odd_power, arc_term, arc_tangent}

-- the first n terms that are added
unfoldable pub added_terms : ℕ → ℕ → ℕ
added_terms t n = sum_by (arc_term t) (map (λ k. 2 * k) (range_with_len 0 n))

-- the first n terms that are subtracted
unfoldable pub subtracted_terms : ℕ → ℕ → ℕ
subtracted_terms t n = sum_by (arc_term t) (map (λ k. 2 * k + 1) (range_with_len 0 n))

pub arc_tangent-terms : (t : ℕ) → arc_tangent t ≡ added_terms t 4 - subtracted_terms t 4
unfolding arc_tangent added_terms subtracted_terms
arc_tangent-terms t = refl

pub added_terms-more : (t n : ℕ) → added_terms t (n + 1) ≡ added_terms t n + odd_power t (2 * n) / (4 * n + 1)
unfolding added_terms
added_terms-more t n = sum_by-map-range_with_len_more (arc_term t) (λ k. 2 * k) 0 n n (omega arith)
    ∙ ap (λ d. added_terms t n + odd_power t (2 * n) / d) {x = 2 * (2 * n) + 1} (omega arith)

pub subtracted_terms-more : (t n : ℕ)
    → subtracted_terms t (n + 1) ≡ subtracted_terms t n + odd_power t (2 * n + 1) / (4 * n + 3)
unfolding subtracted_terms
subtracted_terms-more t n = sum_by-map-range_with_len_more (arc_term t) (λ k. 2 * k + 1) 0 n n (omega arith)
    ∙ ap (λ d. subtracted_terms t n + odd_power t (2 * n + 1) / d) {x = 2 * (2 * n + 1) + 1} (omega arith)

pub odd_power-more : (t n : ℕ) → odd_power t (n + 1) ≡ odd_power t n * (t * t / unit) / unit
unfolding odd_power
odd_power-more t n = ap (odd_power t) {y = suc n} (omega arith)

-- what is summed after n rounds of two terms
pub record Sums (t n power added subtracted : ℕ) : Type 0 where
  pub is_power : power ≡ odd_power t (2 * n)
  pub is_added : added ≡ added_terms t n
  pub is_subtracted : subtracted ≡ subtracted_terms t n
  pub bound : added + 2 * power ≤ 2 * t
  pub less : subtracted ≤ added

pub sums-start : (t : ℕ) → Sums t 0 t 0 0
unfolding odd_power added_terms subtracted_terms
sums-start t = record {
  is_power = refl;
  is_added = refl;
  is_subtracted = refl;
  bound = omega arith;
  less = omega arith;
}

-- a small number times the square of the tangent is at most half of it
halved : (t p : ℕ) → 8 * t ≤ unit → 2 * (p * (t * t / unit) / unit) ≤ p
halved t p small =
    let square : t * t / unit ≤ t = div-le_of_le-mul unit (omega (arith, mul-le-mul_left t small)) in
    let most = mul-le-mul_left p square in
    let more = mul-le-mul_left p small in
    let quotient : 2 * (p * (t * t / unit)) ≤ p * unit = omega (arith, most, more) in
    omega (arith, quotient)

pub sums-more : (t square p q r a s n : ℕ) → 8 * t ≤ unit → square ≡ t * t / unit → q ≡ p * square / unit
    → r ≡ q * square / unit → Sums t n p a s
    → Sums t (n + 1) r (a + p / (4 * n + 1)) (s + q / (4 * n + 3))
sums-more t square p q r a s n small is_square is_q is_r h =
    let half_q : 2 * q ≤ p = rw (is_q, is_square) (halved t p small) in
    let half_r : 2 * r ≤ q = rw (is_r, is_square) (halved t q small) in
    let power_q : q ≡ odd_power t (2 * n + 1) =
    is_q ∙ (λ i. h.is_power i * is_square i / unit) ∙ sym (odd_power-more t (2 * n)) in
    let power_r : r ≡ odd_power t (2 * (n + 1)) = is_r ∙ (λ i. power_q i * is_square i / unit)
    ∙ sym (odd_power-more t (2 * n + 1)) ∙ ap (odd_power t) (omega arith) in
    let term : p / (4 * n + 1) ≤ p = div-le_self p (4 * n + 1) in
    let falls : q / (4 * n + 3) ≤ p / (4 * n + 1) =
    div-falls q p (4 * n + 3) (4 * n + 1) (omega (arith, half_q)) (omega arith) (omega arith) in
    record {
      is_power = power_r;
      is_added = (λ i. h.is_added i + h.is_power i / (4 * n + 1)) ∙ sym (added_terms-more t n);
      is_subtracted = (λ i. h.is_subtracted i + power_q i / (4 * n + 3)) ∙ sym (subtracted_terms-more t n);
      bound = omega (arith, h.bound, term, half_q, half_r);
      less = omega (arith, h.less, falls);
    }
  where
    div-falls : (q p d e : ℕ) → q ≤ p → e ≤ d → 0 < e → q / d ≤ p / e
    div-falls q p d e le wide some =
        let whole = div-mul-le_self q d in
        let more = mul-le-mul_left (q / d) wide in
        le-div (q / d) p e some (omega (arith, whole, more, le))

pub sums-end : (t p a s n : ℕ) → n ≡ 4 → Sums t n p a s → a - s ≡ arc_tangent t
sums-end t p a s n e h = (λ i. h.is_added i - h.is_subtracted i) ∙ (λ i. added_terms t (e i) - subtracted_terms t (e i))
    ∙ sym (arc_tangent-terms t)
