-- Rows fall and columns rise with the place, and both stay below 2^z: for rectangles of tiles and for the corners of a
-- box.
use Rattle.std.proofs.Common.{◌≡◌, ℕ, zero, suc, ◌+◌, ◌-◌, ◌*◌, ◌/◌, ◌^◌, ◌<◌, ◌≤◌, refl, sym, arith, inl, inr, true}
use Rattle.std.specs.Prelude.{ℤ, pos, negsuc, Bool, int_le, ◌+ℤ◌, ◌&&◌, IsTrue}
use Rattle.std.proofs.lemmas.Bool.{cases_Bool, cases_lt, le-leb, leb-true, lt-ltb, le-ltb, and_parts}
use Rattle.std.proofs.lemmas.Nat.{pow-add, pow_pos}
use Rattle.std.proofs.Math.Nat.{le_trans, mul-le-mul_right, div-lt_iff_lt-mul, lt-mul-div-succ}
use Rattle.mf_base.specs.declared.place.Rect.{Rect}
use Rattle.mf_base.specs.Ranges.{is_latitude, is_longitude, is_rect}
use Rattle.map_model.specs.Numbers.{above_zero, greatest}
use Rattle.map_model.specs.Mercator.{edge_lat, fine_row, row, column}
use Rattle.map_model.specs.TileRects.{tile_rect, IsTileRect}
use Rattle.map_model.proofs.MercatorLemmas.{greatest-hit, greatest-miss, greatest-le}

-- ---- numbers

int_le-trans : (a b c : ℤ) → int_le a b ≡ true → int_le b c ≡ true → int_le a c ≡ true
int_le-trans (pos a) (pos b) (pos c) h k = le-leb a c (le_trans (leb-true a b h) (leb-true b c k))
int_le-trans (pos a) (pos b) (negsuc c) h k = absurd (cc k)
int_le-trans (pos a) (negsuc b) c h k = absurd (cc h)
int_le-trans (negsuc a) b (pos c) h k = refl
int_le-trans (negsuc a) (pos b) (negsuc c) h k = absurd (cc k)
int_le-trans (negsuc a) (negsuc b) (negsuc c) h k = le-leb c a (le_trans (leb-true c b k) (leb-true b a h))

div-rises : (a b d : ℕ) → 0 < d → a ≤ b → a / d ≤ b / d
div-rises a b d some le =
    let above = lt-mul-div-succ b {b = d} some in
    let short : a < (b / d + 1) * d = omega (arith, le, above) in
    let below = (div-lt_iff_lt-mul {k = d} {x = a} {y = b / d + 1} some).1 short in
    omega (arith, below)

-- what passes a test that passes more is not greater
greatest-more : (p q : ℕ → Bool) (n : ℕ) → ((k : ℕ) → p k ≡ true → q k ≡ true) → greatest p n ≤ greatest q n
greatest-more p q zero more = let le = greatest-le p 0 in omega (arith, le)
greatest-more p q (suc n) more =
    elim (cases_Bool (q (suc n))) [
      | inl hit ↦ let le = greatest-le p (suc n) in rw (greatest-hit q n hit) le
      | inr miss ↦ elim (cases_Bool (p (suc n))) [
        | inl passes ↦ absurd (cc (miss, more (suc n) passes))
        | inr fails ↦ rw (greatest-miss p n fails, greatest-miss q n miss) (greatest-more p q n more)
      ]
    ]

-- ---- rows

fine_row-falls : (a b : ℤ) → int_le a b ≡ true → fine_row b ≤ fine_row a
unfolding fine_row
fine_row-falls a b le =
    greatest-more (λ k. int_le b (edge_lat k)) (λ k. int_le a (edge_lat k)) 262143
    (λ k reaches. int_le-trans a b (edge_lat k) le reaches)

fine_row-le : (lat : ℤ) → fine_row lat ≤ 262143
unfolding fine_row
fine_row-le lat = greatest-le (λ k. int_le lat (edge_lat k)) 262143

-- the further north, the smaller the row
pub row-falls : (z : ℕ) (a b : ℤ) → int_le a b ≡ true → row z b ≤ row z a
unfolding row
row-falls z a b le = div-rises (fine_row b) (fine_row a) (2 ^ (18 - z)) (pow_pos (18 - z)) (fine_row-falls a b le)

pub row-below : (z : ℕ) (lat : ℤ) → z ≤ 18 → row z lat < 2 ^ z
unfolding row
row-below z lat le =
    let all : 2 ^ z * 2 ^ (18 - z) ≡ 2 ^ (z + (18 - z)) = sym (pow-add 2 z (18 - z)) in
    let whole : 2 ^ (z + (18 - z)) ≡ 262144 = rw (sum) refl in
    let last = fine_row-le lat in
    (div-lt_iff_lt-mul {k = 2 ^ (18 - z)} {x = fine_row lat} {y = 2 ^ z} (pow_pos (18 - z))).1
    (omega (arith, all, whole, last))
  where
    sum : z + (18 - z) ≡ 18
    sum = omega (arith, le)

-- ---- columns

east-pos : (n m : ℕ) → above_zero (pos n +ℤ pos m) ≡ n + m
east-pos n m = refl

east-neg : (n m : ℕ) → above_zero (negsuc n +ℤ pos m) ≡ m - suc n
east-neg n m =
    elim (cases_lt n m) [
      | inl east ↦ rw (le-ltb m (suc n) (omega (arith, east))) refl
      | inr west ↦ rw (lt-ltb m (suc n) (omega (arith, west))) (omega (arith, west))
    ]

above_zero-rises : (a b : ℤ) (m : ℕ) → int_le a b ≡ true → above_zero (a +ℤ pos m) ≤ above_zero (b +ℤ pos m)
above_zero-rises (pos a) (pos b) m le = let low = leb-true a b le in omega (arith, low, east-pos a m, east-pos b m)
above_zero-rises (pos a) (negsuc b) m le = absurd (cc le)
above_zero-rises (negsuc a) (pos b) m le = omega (arith, east-neg a m, east-pos b m)
above_zero-rises (negsuc a) (negsuc b) m le = let low =
    leb-true b a le in omega (arith, low, east-neg a m, east-neg b m)

-- the further east, the greater the column
pub column-rises : (z : ℕ) (a b : ℤ) → int_le a b ≡ true → column z a ≤ column z b
unfolding column
column-rises z a b le =
    let east = above_zero-rises a b 180000000 le in
    let far : above_zero (a +ℤ pos 180000000) * 2 ^ z ≤ above_zero (b +ℤ pos 180000000) * 2 ^ z =
    mul-le-mul_right (2 ^ z) east in
    let part = div-rises (above_zero (a +ℤ pos 180000000) * 2 ^ z) (above_zero (b +ℤ pos 180000000) * 2 ^ z) 360000000
    (omega arith) far in
    omega (arith, part)

pub column-below : (z : ℕ) (lon : ℤ) → column z lon < 2 ^ z
unfolding column
column-below z lon = let some = pow_pos z in omega (arith, some)

-- ---- rectangles

-- the tiles of a rectangle on the earth
pub rect-tiles : (rect : Rect) (z : ℕ) → IsTrue (is_rect rect) → z ≤ 18 → IsTileRect (tile_rect rect z)
unfolding tile_rect
rect-tiles rect z is le =
    let sides = and_parts (is_latitude rect.min_lat && is_latitude rect.max_lat && is_longitude rect.min_lon
    && is_longitude rect.max_lon && int_le rect.min_lat rect.max_lat) (int_le rect.min_lon rect.max_lon) is in
    let lats = and_parts (is_latitude rect.min_lat && is_latitude rect.max_lat && is_longitude rect.min_lon
    && is_longitude rect.max_lon) (int_le rect.min_lat rect.max_lat) sides.0 in
    record {
      columns = column-rises z rect.min_lon rect.max_lon sides.1;
      rows = row-falls z rect.min_lat rect.max_lat lats.1;
      east = column-below z rect.max_lon;
      south = row-below z rect.min_lat le;
    }

pub ruleset row_laws = (row-falls, row-below, column-rises, column-below, rect-tiles)
