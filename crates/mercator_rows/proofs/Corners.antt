-- The northern edge of a row stands in the table.
use Rattle.std.proofs.Common.{◌≡◌, ℕ, zero, suc, ◌+◌, ◌-◌, ◌*◌, ◌%◌, ◌^◌, ◌<◌, ◌≤◌, List, [], ◌∷◌, ◌++◌, length, get_or}
use Rattle.std.proofs.Common.{inl, inr, refl, sym, ap, ◌∙◌, arith, w32}
use Rattle.std.specs.Prelude.{ℤ, pos, negsuc, neg_ℤ, nat_abs, min, ◌-ℤ◌}
use Rattle.std.specs.Int.{cast_signed, cast_unsigned}
use Rattle.std.proofs.lemmas.Bool.{cases_lt, le-leb, lt-leb, lt-ltb}
use Rattle.std.proofs.lemmas.Nat.{pow-add}
use Rattle.std.proofs.Math.Nat.{mul-le-mul_right, one-le-pow}
use Rattle.std.proofs.lemmas.List.{get_or_append_left, get_or_push}
use Rattle.mf_base.proofs.SignLaws.{nat_abs-neg}
use Rattle.map_model.specs.Numbers.{least}
use Rattle.map_model.specs.Mercator.{raw_lat, north_lat, corner_lat}
use Rattle.map_model.proofs.MercatorLemmas.{north_lat-falls}
use Rattle.map_model.proofs.World.{raw_pole}
use Rattle.mercator_rows.proofs.Signed.{again_32}

-- the finest row at which a row begins
pub first_fine_row : (z y : ℕ) → z ≤ 18 → y < 2 ^ z → y * 2 ^ (18 - z) < 2 ^ 18
first_fine_row z y le below =
    let whole : 2 ^ z * 2 ^ (18 - z) ≡ 2 ^ 18 =
    sym (pow-add 2 z (18 - z)) ∙ ap (λ (e : ℕ). 2 ^ e) {x = z + (18 - z)} {y = 18} (omega (arith, le)) in
    let rows = mul-le-mul_right (2 ^ (18 - z)) below in
    let some = one-le-pow (18 - z) 2 (omega arith) in
    omega (arith, whole, rows, some)

-- which is not cut off
pub fine_row-fits : (z y : ℕ) → z ≤ 18 → y < 2 ^ z → y * 2 ^ (18 - z) % 2 ^ 32 ≡ y * 2 ^ (18 - z)
fine_row-fits z y le below = let small = first_fine_row z y le below in omega (arith, small)

north_lat-zero : north_lat 0 ≡ raw_lat 131072
unfolding north_lat least
north_lat-zero = refl

-- no edge is north of the first
pub north_lat-le : (k : ℕ) → north_lat k ≤ 85051128
north_lat-le k = let falls = north_lat-falls 0 k (omega arith) in let top =
    north_lat-zero ∙ raw_pole in omega (arith, falls, top)

zero-minus : (n : ℕ) → pos 0 -ℤ pos n ≡ neg_ℤ (pos n)
zero-minus zero = refl
zero-minus (suc n) = rw (lt-ltb 0 (suc n) (omega arith)) (ap negsuc (omega arith))

-- south of the equator the edge is that of the mirrored row
pub mirrored : (n : ℕ) (e : ℤ) → n < 2 ^ 31 → e ≡ pos n → pos 0 -ℤ cast_signed w32 (cast_unsigned w32 e) ≡ neg_ℤ (pos n)
mirrored n e small is = ap (λ (z : ℤ). pos 0 -ℤ z) (ap (λ (z : ℤ). cast_signed w32 (cast_unsigned w32 z)) is
    ∙ again_32 (pos n) small) ∙ zero-minus n

pub mirrored-small : (n : ℕ) → n < 2 ^ 31 → nat_abs (neg_ℤ (pos n)) < 2 ^ 31
mirrored-small n small = omega (arith, small, nat_abs-neg (pos n))

pub corner_lat-north : (z y : ℕ) → y * 2 ^ (18 - z) ≤ 131072 → corner_lat z y ≡ pos (north_lat (y * 2 ^ (18 - z)))
unfolding corner_lat
corner_lat-north z y le = rw (le-leb (y * 2 ^ (18 - z)) 131072 le) refl

pub corner_lat-south : (z y : ℕ) → 131072 < y * 2 ^ (18 - z)
    → corner_lat z y ≡ neg_ℤ (pos (north_lat (262144 - y * 2 ^ (18 - z))))
unfolding corner_lat
corner_lat-south z y lt = rw (lt-leb (y * 2 ^ (18 - z)) 131072 lt) refl

-- ---- the table is made

-- the first edge, before which stands the greatest number
pub first_edge : min 4294967295 (raw_lat 131072) ≡ north_lat 0
first_edge = rw (north_lat-zero, raw_pole) refl

-- the next edge
pub next_edge : (k : ℕ) → min (north_lat k) (raw_lat (131072 - (k + 1))) ≡ north_lat (k + 1)
unfolding north_lat least
next_edge k = ap (λ j. min (north_lat k) (raw_lat (131072 - j))) {x = k + 1} {y = suc k} (omega arith)
    ∙ ap north_lat {x = suc k} {y = k + 1} (omega arith)

-- one more number of a list that is known by its places
pub pushed : (f : ℕ → ℕ) (xs : List ℕ) (x k : ℕ) → length xs ≡ k → ((j : ℕ) → j < k → get_or xs j 0 ≡ f j) → x ≡ f k
    → (j : ℕ) → j < k + 1 → get_or (xs ++ x ∷ []) j 0 ≡ f j
pushed f xs x k count each is j lt = elim (cases_lt j k) [
  | inl less ↦ get_or_append_left xs (x ∷ []) 0 j (omega (arith, less, count)) ∙ each j less
  | inr ge ↦
      let same : j ≡ k = omega (arith, lt, ge) in
      get_or_push xs x 0 j (count ∙ sym same) ∙ is ∙ ap f (sym same)
]
