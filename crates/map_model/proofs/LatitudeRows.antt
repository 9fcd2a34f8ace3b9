-- Rows of latitudes at the equator and at both ends of the table.
use Rattle.std.proofs.Common.{◌≡◌, ℕ, zero, suc, ◌≤◌, ◌-◌, refl, arith}
use Rattle.std.specs.Prelude.{pos, negsuc}
use Rattle.map_model.specs.Numbers.{least}
use Rattle.map_model.specs.Mercator.{raw_lat, north_lat, fine_row, row, corner_lat, corner_lon, corner}
use Rattle.map_model.specs.Rectangles.{origin}
use Rattle.map_model.specs.Bitmap.{rect_bits}
use Rattle.map_model.proofs.MercatorLemmas.{fine_row-is, fine_row-none, edge_lat-north, edge_lat-south}
use Rattle.map_model.proofs.Compute.{compute, latitudes}

least-le : (f : ℕ → ℕ) (k : ℕ) → least f k ≤ f k
unfolding least
least-le f zero = omega arith
least-le f (suc k) = omega arith

raw_equator : raw_lat 0 ≡ 0
unfolding latitudes
raw_equator = refl

north_lat-equator : north_lat 131072 ≡ 0
unfolding north_lat
north_lat-equator = let le = least-le (λ j. raw_lat (131072 - j)) 131072 in let e = raw_equator in omega (arith, le, e)

fine_equator : fine_row (pos 0) ≡ 131072
fine_equator = fine_row-is (pos 0) 131072 (record {
  small = omega arith;
  reaches = rw (edge_lat-north 131072 (omega arith), north_lat-equator) refl;
  next = λ lt. rw (edge_lat-south 131073 (omega arith)) refl;
})

pub row_equator : row 1 (pos 0) ≡ 1
unfolding row
row_equator = rw fine_equator refl

pub corner_middle : corner 1 1 1 ≡ origin
unfolding corner corner_lat corner_lon
corner_middle = λ i. record { lat = pos (north_lat-equator i); lon = pos 0 }

pub corner_third : corner 14 8192 8192 ≡ origin
unfolding corner corner_lat corner_lon
corner_third = λ i. record { lat = pos (north_lat-equator i); lon = pos 0 }

fine_last : fine_row (negsuc 85051010) ≡ 262143
unfolding latitudes
fine_last = fine_row-is (negsuc 85051010) 262143
    (record { small = omega arith; reaches = refl; next = λ lt. absurd (omega (arith, lt)) })

pub row_last : row 18 (negsuc 85051010) ≡ 262143
unfolding row
row_last = rw fine_last refl

fine_before : fine_row (negsuc 85051009) ≡ 262142
unfolding latitudes
fine_before = fine_row-is (negsuc 85051009) 262142 (record { small = omega arith; reaches = refl; next = λ lt. refl })

pub row_before : row 18 (negsuc 85051009) ≡ 262142
unfolding row
row_before = rw fine_before refl

fine_north : fine_row (pos 89000000) ≡ 0
unfolding latitudes
fine_north = fine_row-none (pos 89000000) refl

pub row_north : row 18 (pos 89000000) ≡ 0
unfolding row
row_north = rw fine_north refl

fine_south : fine_row (negsuc 88999999) ≡ 262143
unfolding latitudes
fine_south = fine_row-is (negsuc 88999999) 262143
    (record { small = omega arith; reaches = refl; next = λ lt. absurd (omega (arith, lt)) })

row_south : row 2 (negsuc 88999999) ≡ 3
unfolding row
row_south = rw fine_south refl

pub south_bits : rect_bits (record {
  min_lat = negsuc 88999999;
  min_lon = negsuc 179999999;
  max_lat = negsuc 88999999;
  max_lon = pos 0;
}) 0 0 0 ≡ 14
unfolding compute
south_bits = rw row_south refl

pub ruleset latitude_rows = (row_equator, corner_middle, row_last, row_before, row_north, south_bits)
