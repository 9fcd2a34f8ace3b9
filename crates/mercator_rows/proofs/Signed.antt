-- Signed numbers of the code that fit their types.
use Rattle.std.proofs.Common.{◌≡◌, ℕ, zero, suc, ◌-◌, ◌*◌, ◌/◌, ◌%◌, ◌^◌, ◌<◌, ◌≤◌, refl, ◌∙◌, ap, arith, w32, w64, inl}
use Rattle.std.proofs.Common.{inr, true}
use Rattle.std.specs.Prelude.{ℤ, leb, pos, negsuc, nat_abs, ◌+ℤ◌, ◌-ℤ◌, ◌*ℤ◌, int_div, min, FitsSigned}
use Rattle.std.specs.Int.{cast_signed, cast_unsigned, int_max}
use Rattle.std.proofs.lemmas.Int.{to_z-of_z, fits_signed_from_abs}
use Rattle.std.proofs.lemmas.Bool.{cases_lt, lt-ltb, le-ltb, leb-true, and_parts}
use Rattle.std.proofs.Math.Pow.{pow-lt}
use Rattle.std.proofs.Math.Nat.{pow-le-pow_right}
use Rattle.map_model.specs.Numbers.{above_zero}
use Rattle.map_model.specs.Mercator.{column, corner_lon, corner}
use Rattle.map_model.proofs.CornerLemmas.{tile_corner-in_range}
use Rattle.mf_base.specs.Ranges.{is_signed_32}
use Rattle.mf_base.specs.declared.tile.TilePlace.{TilePlace}

-- a signed number of 64 bits is read as it was written
pub again : (z : ℤ) → nat_abs z < 2 ^ 63 → cast_signed w64 (cast_unsigned w64 z) ≡ z
again z small = to_z-of_z w64 z (fits_signed_from_abs w64 z small)

pub again_32 : (z : ℤ) → nat_abs z < 2 ^ 31 → cast_signed w32 (cast_unsigned w32 z) ≡ z
again_32 z small = to_z-of_z w32 z (fits_signed_from_abs w32 z small)

pub east-small : (z : ℤ) → FitsSigned w32 z → nat_abs (z +ℤ pos 180000000) < 2 ^ 63
east-small (pos n) h = omega (arith, h.sfits)
east-small (negsuc n) h = elim (cases_lt 180000000 (suc n)) [
  | inl lt ↦ rw (lt-ltb 180000000 (suc n) lt) (omega (arith, h.sfits))
  | inr ge ↦ rw (le-ltb 180000000 (suc n) ge) (omega arith)
]

pub max-above_zero : (z : ℤ) → nat_abs (int_max z (pos 0)) ≡ above_zero z
max-above_zero (pos zero) = refl
max-above_zero (pos (suc n)) = rw (lt-ltb 0 (suc n) (omega arith)) refl
max-above_zero (negsuc n) = refl

pub columns-fit : (z : ℕ) → z ≤ 18 → 1 * 2 ^ z % 2 ^ 64 ≡ 2 ^ z
columns-fit z le = let less : 2 ^ z < 2 ^ 64 = pow-lt {i = z} {j = 64} (omega (arith, le)) in omega (arith, less)

small-wide : (z : ℤ) → FitsSigned w32 z → nat_abs z < 2 ^ 63
small-wide (pos n) h = omega (arith, h.sfits)
small-wide (negsuc n) h = omega (arith, h.sfits)

above_zero-le : (z : ℤ) → above_zero z ≤ nat_abs z
above_zero-le (pos n) = omega arith
above_zero-le (negsuc n) = omega arith

pub column-is : (z : ℕ) (lon from east : ℤ) → z ≤ 18 → FitsSigned w32 lon
    → from ≡ cast_signed w32 (cast_unsigned w32 lon)
    → east ≡ int_max (cast_signed w64 (cast_unsigned w64 (cast_signed w64 (cast_unsigned w64 from) +ℤ pos 180000000)))
    (pos 0)
    → min (nat_abs (cast_signed w64 (cast_unsigned w64 east)) * (1 * 2 ^ z % 2 ^ 64) / 360000000)
    (1 * 2 ^ z % 2 ^ 64 - 1) ≡ column z lon
unfolding column
column-is z lon from east le fits is_from is_east = rw (columns-fit z le, told) refl
  where
    same : cast_signed w64 (cast_unsigned w64 from) ≡ lon
    same = ap (λ (f : ℤ). cast_signed w64 (cast_unsigned w64 f)) (is_from ∙ to_z-of_z w32 lon fits)
        ∙ again lon (small-wide lon fits)

    greater : east ≡ int_max (lon +ℤ pos 180000000) (pos 0)
    greater = is_east ∙ ap (λ (f : ℤ). int_max (cast_signed w64 (cast_unsigned w64 (f +ℤ pos 180000000))) (pos 0)) same
        ∙ ap (λ (f : ℤ). int_max f (pos 0)) (again (lon +ℤ pos 180000000) (east-small lon fits))

    above : nat_abs east ≡ above_zero (lon +ℤ pos 180000000)
    above = ap nat_abs greater ∙ max-above_zero (lon +ℤ pos 180000000)

    told : nat_abs (cast_signed w64 (cast_unsigned w64 east)) ≡ above_zero (lon +ℤ pos 180000000)
    told = ap nat_abs (again east (omega (arith, above, above_zero-le (lon +ℤ pos 180000000), east-small lon fits)))
        ∙ above

-- ---- corners

-- a number that passes the test of 32 bits fits them
fits-in_32 : (z : ℤ) → is_signed_32 z ≡ true → FitsSigned w32 z
fits-in_32 (pos n) h = record { sfits = omega (arith, leb-true n 2147483647 h) }
fits-in_32 (negsuc n) h =
    record { sfits = omega (arith, leb-true n 2147483647 (and_parts (leb n 2147483647) true h).0) }

tile_at : ℕ → ℕ → TilePlace
tile_at z x = record { index = 0; interval = record { base = z; min = 0; max = 0 }; x = x; y = 0 }

pub corner_lon-fits : (z x : ℕ) → x < 2 ^ z → FitsSigned w32 (corner_lon z x)
unfolding corner tile_at
corner_lon-fits z x below = fits-in_32 (corner_lon z x) (tile_corner-in_range (tile_at z x) below).1

minus-le : (a b m : ℕ) → a ≤ m → b ≤ m → nat_abs (pos a -ℤ pos b) ≤ m
minus-le a zero m below_a below_b = omega (arith, below_a)
minus-le a (suc b) m below_a below_b = elim (cases_lt a (suc b)) [
  | inl lt ↦ rw (lt-ltb a (suc b) lt) (omega (arith, lt, below_b))
  | inr ge ↦ rw (le-ltb a (suc b) ge) (omega (arith, below_a))
]

-- what the code has of a signed number of 64 bits
abbrev pub read_64 : ℤ → ℤ
read_64 z = cast_signed w64 (cast_unsigned w64 z)

-- the longitude of the western edge of a column
pub western : (z x : ℕ) (left columns : ℤ) → z ≤ 18 → x < 2 ^ z → left ≡ pos x → columns ≡ pos (1 * 2 ^ z % 2 ^ 32)
    → read_64 (int_div (read_64 (read_64 (pos 360000000 *ℤ read_64 left) -ℤ read_64 (pos 180000000 *ℤ read_64 columns)))
    (read_64 columns)) ≡ corner_lon z x
unfolding corner_lon
western z x left columns le below is_left is_columns =
    ap read_64 quotient ∙ again (corner_lon z x) (small-wide (corner_lon z x) (corner_lon-fits z x below))
  where
    few : 2 ^ z ≤ 262144
    few = pow-le-pow_right {n = 2} (omega arith) {i = z} {j = 18} le

    width : read_64 columns ≡ pos (2 ^ z)
    width = ap read_64 (is_columns ∙ ap pos (omega (arith, few))) ∙ again (pos (2 ^ z)) (omega (arith, few))

    west : read_64 (pos 360000000 *ℤ read_64 left) ≡ pos (360000000 * x)
    west = ap (λ (l : ℤ). read_64 (pos 360000000 *ℤ l)) (ap read_64 is_left ∙ again (pos x) (omega (arith, few, below)))
        ∙ again (pos (360000000 * x)) (omega (arith, few, below))

    middle : read_64 (pos 180000000 *ℤ read_64 columns) ≡ pos (180000000 * 2 ^ z)
    middle = ap (λ (l : ℤ). read_64 (pos 180000000 *ℤ l)) width ∙ again (pos (180000000 * 2 ^ z)) (omega (arith, few))

    east : read_64 (read_64 (pos 360000000 *ℤ read_64 left) -ℤ read_64 (pos 180000000 *ℤ read_64 columns))
        ≡ pos (360000000 * x) -ℤ pos (180000000 * 2 ^ z)
    east = (λ i. read_64 (west i -ℤ middle i))
        ∙ again (pos (360000000 * x) -ℤ pos (180000000 * 2 ^ z))
        (omega (
          arith,
          minus-le (360000000 * x) (180000000 * 2 ^ z) (360000000 * 262144) (omega (arith, few, below))
              (omega (arith, few)),
        ))

    quotient : int_div (read_64 (read_64 (pos 360000000 *ℤ read_64 left) -ℤ read_64 (pos 180000000 *ℤ read_64 columns)))
        (read_64 columns) ≡ corner_lon z x
    quotient = λ i. int_div (east i) (width i)
