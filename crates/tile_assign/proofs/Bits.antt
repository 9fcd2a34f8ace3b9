-- The bits of the sub-tiles, one after another, the highest first.
use Rattle.std.proofs.Common.{◌≡◌, ℕ, zero, suc, ◌+◌, ◌-◌, ◌*◌, ◌/◌, ◌%◌, ◌^◌, ◌<◌, [], ◌∷◌, ◌++◌, refl, sym}
use Rattle.std.proofs.Common.{ap, ◌∙◌, arith, true, false}
use Rattle.std.specs.Prelude.{Bool, if◌then◌else◌, sum_by}
use Rattle.std.specs.List.{range_with_len}
use Rattle.std.proofs.lemmas.List.Sums.{sum_by-append}
use Rattle.std.proofs.Math.Nat.{pow-suc}
use Rattle.mf_base.specs.declared.place.Rect.{Rect}
use Rattle.map_model.specs.TileRects.{meets}
use Rattle.map_model.specs.Bitmap.{rect_bits}

-- the number of a bit that is set or not
abbrev pub bit_of : Bool → ℕ
bit_of true = 1
bit_of false = 0

range-snoc : (a n : ℕ) → range_with_len a (suc n) ≡ range_with_len a n ++ (a + n) ∷ []
range-snoc a zero = ap (λ k. k ∷ []) (omega arith)
range-snoc a (suc n) =
    ap (λ ks. a ∷ ks) (range-snoc (a + 1) n ∙ ap (λ k. range_with_len (a + 1) n ++ k ∷ []) (omega arith))

-- the value of the first n bits
unfoldable pub bits_up_to : Rect → ℕ → ℕ → ℕ → ℕ → ℕ
bits_up_to rect z x y n =
    sum_by (λ n. if meets rect (z + 2) (4 * x + n % 4) (4 * y + n / 4) then 2 ^ (15 - n) else 0) (range_with_len 0 n)

-- So many bits, as a number, are the first n of the sixteen.
pub record AreBits (rect : Rect) (z x y n bits : ℕ) : Type 0 where
  pub value : bits * 2 ^ (16 - n) ≡ bits_up_to rect z x y n
  pub small : bits < 2 ^ n

pub no_bits : (rect : Rect) (z x y : ℕ) → AreBits rect z x y 0 0
unfolding bits_up_to
no_bits rect z x y = record { value = refl; small = omega arith }

value-more : (bits p term : ℕ) (is : Bool) → term ≡ (if is then p else 0)
    → (2 * bits + bit_of is) * p ≡ bits * (2 * p) + term
value-more bits p term true e = omega (arith, e)
value-more bits p term false e = omega (arith, e)

small-more : (bits m : ℕ) (is : Bool) → bits < m → 2 * bits + bit_of is < 2 * m
small-more bits m true lt = omega (arith, lt)
small-more bits m false lt = omega (arith, lt)

pub one_more_bit : (rect : Rect) (z x y n bits : ℕ) (is : Bool) (bit : ℕ) → n < 16
    → is ≡ meets rect (z + 2) (4 * x + n % 4) (4 * y + n / 4) → bit ≡ bit_of is
    → AreBits rect z x y n bits → AreBits rect z x y (n + 1) (2 * bits + bit)
unfolding bits_up_to
one_more_bit rect z x y n bits is bit lt e b h = rw b record { value = value; small = small }
  where
    term : ℕ → ℕ
    term n = if meets rect (z + 2) (4 * x + n % 4) (4 * y + n / 4) then 2 ^ (15 - n) else 0

    this : term n ≡ (if is then 2 ^ (15 - n) else 0)
    this = ap (λ b. if b then 2 ^ (15 - n) else 0) (sym e)

    half : 2 ^ (16 - n) ≡ 2 * 2 ^ (15 - n)
    half = ap (λ (k : ℕ). 2 ^ k) {x = 16 - n} {y = suc (15 - n)} (omega (arith, lt)) ∙ omega (arith, pow-suc 2 (15 - n))

    next : 2 ^ (16 - (n + 1)) ≡ 2 ^ (15 - n)
    next = ap (λ (k : ℕ). 2 ^ k) {x = 16 - (n + 1)} {y = 15 - n} (omega (arith, lt))

    sum : bits_up_to rect z x y (n + 1) ≡ bits_up_to rect z x y n + term n
    sum = ap (λ (k : ℕ). sum_by term (range_with_len 0 k)) {x = n + 1} {y = suc n} (omega arith)
        ∙ ap (sum_by term) (range-snoc 0 n
        ∙ ap (λ (k : ℕ). range_with_len 0 n ++ k ∷ []) {x = 0 + n} {y = n} (omega arith))
        ∙ sum_by-append term (range_with_len 0 n) (n ∷ [])
        ∙ ap (λ (v : ℕ). bits_up_to rect z x y n + v) {x = 0 + term n} {y = term n} (omega arith)

    value : (2 * bits + bit_of is) * 2 ^ (16 - (n + 1)) ≡ bits_up_to rect z x y (n + 1)
    value =
        ap (λ (p : ℕ). (2 * bits + bit_of is) * p) next ∙ value-more bits (2 ^ (15 - n)) (term n) is this
        ∙ ap (λ (q : ℕ). bits * q + term n) (sym half) ∙ ap (λ (v : ℕ). v + term n) h.value ∙ sym sum

    small : 2 * bits + bit_of is < 2 ^ (n + 1)
    small = let more = small-more bits (2 ^ n) is h.small in let double = pow-suc 2 n in
        let same : 2 ^ (n + 1) ≡ 2 ^ suc n = ap (λ (k : ℕ). 2 ^ k) (omega arith) in omega (arith, more, double, same)

pub all_bits : (rect : Rect) (z x y n bits : ℕ) → n ≡ 16 → AreBits rect z x y n bits → bits ≡ rect_bits rect z x y
unfolding bits_up_to rect_bits
all_bits rect z x y n bits e h =
    omega (arith, ap (λ (k : ℕ). bits * 2 ^ (16 - k)) e, h.value, ap (bits_up_to rect z x y) e)
