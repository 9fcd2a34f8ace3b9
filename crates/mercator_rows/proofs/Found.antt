-- A latitude is found among the edges of the rows.
use Rattle.std.proofs.Common.{◌≡◌, ℕ, zero, suc, ◌+◌, ◌-◌, ◌<◌, ◌≤◌, List, length, get_or, refl, sym, ◌∙◌, subst, arith}
use Rattle.std.proofs.Common.{inl, inr, true, false}
use Rattle.std.specs.Prelude.{ℤ, pos, negsuc, nat_abs, max, int_le, int_lt, leb}
use Rattle.std.specs.List.Sorted.{IsPartitionedBy, IsPartitionPoint}
use Rattle.std.proofs.lemmas.Bool.{cases_lt, le-leb, lt-leb, leb-true, leb-false, ltb-true}
use Rattle.map_model.specs.Mercator.{raw_lat, north_lat, edge_lat, fine_row}
use Rattle.map_model.specs.Numbers.{least}
use Rattle.map_model.proofs.Compute.{latitudes}
use Rattle.std.proofs.lemmas.Grind.{get_or_default_zero}
use Rattle.map_model.proofs.MercatorLemmas.{north_lat-falls, edge_lat-north, edge_lat-south, fine_row-is, fine_row-none}
use Rattle.mercator_rows.specs.Edges.{AreEdges}
use Rattle.mercator_rows.specs.Search.{IsReach}

reached : (a b : ℕ) → a ≤ b → int_le (pos a) (pos b) ≡ true
reached a b le = le-leb a b le

not_reached : (a b : ℕ) → b < a → int_le (pos a) (pos b) ≡ false
not_reached a b lt = lt-leb a b lt

reached_south : (a b : ℕ) → b ≤ a → int_le (negsuc a) (negsuc b) ≡ true
reached_south a b le = le-leb b a le

not_reached_south : (a b : ℕ) → a < b → int_le (negsuc a) (negsuc b) ≡ false
not_reached_south a b lt = lt-leb b a lt

-- in the north, the row is the last whose edge is at least so far from the equator
pub found-north : (d r : ℕ) → IsReach d r → r - 1 ≡ fine_row (pos d)
found-north d zero h =
    sym (fine_row-none (pos d)
    (rw (edge_lat-north 0 (omega arith)) (not_reached d (north_lat 0) (h.near 0 (omega arith) (omega arith)))))
found-north d (suc r) h = omega (arith, same)
  where
    below : r < 131073
    below = omega (arith, h.most)

    next : int_le (pos d) (edge_lat (r + 1)) ≡ false
    next = elim (cases_lt r 131072) [
      | inl lt ↦ rw (edge_lat-north (r + 1) (omega (arith, lt)))
          (not_reached d (north_lat (r + 1)) (h.near (r + 1) (omega arith) (omega (arith, lt))))
      | inr ge ↦ rw (edge_lat-south (r + 1) (omega (arith, ge))) refl
    ]

    same : fine_row (pos d) ≡ r
    same = fine_row-is (pos d) r (record {
      small = omega (arith, below);
      reaches = rw (edge_lat-north r (omega (arith, below))) (reached d (north_lat r) (h.far r (omega arith)));
      next = λ lt. next;
    })

-- in the south, it is the mirrored row of the first whose edge is nearer, the equator's row counted as the last
pub found-south : (n r : ℕ) → IsReach (suc n) r → north_lat 131072 ≡ 0 → 262144 - max r 1 ≡ fine_row (negsuc n)
found-south n r h equator =
    sym (fine_row-is (negsuc n) (262144 - max r 1) (record { small = omega arith; reaches = reaches; next = next }))
  where
    at_most : r ≤ 131072
    at_most = elim (cases_lt 131072 r) [
      | inl lt ↦ absurd (omega (arith, h.far 131072 lt, equator))
      | inr ge ↦ omega (arith, ge)
    ]

    reaches : int_le (negsuc n) (edge_lat (262144 - max r 1)) ≡ true
    reaches = elim (cases_lt r 131072) [
      | inl lt ↦
          let back : 262144 - (262144 - max r 1) ≡ max r 1 = omega (arith, lt) in
          rw (edge_lat-south (262144 - max r 1) (omega (arith, lt)), back)
          (reached_south n (north_lat (max r 1))
          (omega (arith, h.near (max r 1) (omega arith) (omega (arith, lt)))))
      | inr ge ↦
          let last : 262144 - max r 1 ≡ 131072 = omega (arith, ge, at_most) in
          rw (last, edge_lat-north 131072 (omega arith)) refl
    ]

    next : 262144 - max r 1 < 262143 → int_le (negsuc n) (edge_lat (262144 - max r 1 + 1)) ≡ false
    next lt =
        let back : 262144 - (262144 - max r 1 + 1) ≡ r - 1 = omega (arith, lt, at_most) in
        rw (edge_lat-south (262144 - max r 1 + 1) (omega (arith, at_most)), back)
        (not_reached_south n (north_lat (r - 1)) (omega (arith, h.far (r - 1) (omega (arith, lt)))))

-- what the code tells of a latitude's sign
pub found-below : (lat : ℤ) (d r : ℕ) → int_lt lat (pos 0) ≡ true → d ≡ nat_abs lat → IsReach d r → north_lat 131072 ≡ 0
    → 262144 - max r 1 ≡ fine_row lat
found-below (pos n) d r south e h equator = absurd (omega (arith, ltb-true n 0 south))
found-below (negsuc n) d r south e h equator = found-south n r (subst (λ d. IsReach d r) e h) equator

pub found-above : (lat : ℤ) (d r : ℕ) → int_lt lat (pos 0) ≡ false → d ≡ nat_abs lat → IsReach d r
    → r - 1 ≡ fine_row lat
found-above (pos n) d r north e h = found-north n r (subst (λ d. IsReach d r) e h)
found-above (negsuc n) d r north e h = absurd (cc)

-- ---- the table

pub edges-at : (edges : List ℕ) (k x : ℕ) → AreEdges edges → k < length edges → get_or edges k x ≡ north_lat k
edges-at edges k x h lt = get_or_default_zero edges k x lt ∙ h.each k (omega (arith, lt, h.count))

-- the edges that are at least so far from the equator stand before the others
pub edges-parted : (edges : List ℕ) (d : ℕ) → AreEdges edges → IsPartitionedBy (λ e. leb d e) edges
edges-parted edges d h i j x le lt reaches =
    let far : d ≤ get_or edges j x = leb-true d (get_or edges j x) reaches in
    let falls = north_lat-falls i j le in
    let here = edges-at edges i x h (omega (arith, le, lt)) in
    let there = edges-at edges j x h lt in
    le-leb d (get_or edges i x) (omega (arith, far, falls, here, there))

-- so a binary search finds how many
pub reach-found : (edges : List ℕ) (d r : ℕ) → AreEdges edges → r ≤ length edges
    → IsPartitionPoint (λ e. leb d e ≡ true) (λ e. leb d e ≡ false) edges r → IsReach d r
reach-found edges d r h most point = record {
  most = omega (arith, most, h.count);
  far = λ k lt. omega (
    arith,
    edges-at edges k 0 h (omega (arith, lt, most)),
    leb-true d (get_or edges k 0) (point.0 k 0 (omega arith) lt),
  );
  near = λ k le last.
      let lt : k < length edges = omega (arith, last, h.count) in
      omega (arith, edges-at edges k 0 h lt, leb-false d (get_or edges k 0) (point.1 k 0 le lt));
}

-- the equator is the edge of its row
raw_equator : raw_lat 0 ≡ 0
unfolding latitudes
raw_equator = refl

least-le : (f : ℕ → ℕ) (k : ℕ) → least f k ≤ f k
unfolding least
least-le f zero = omega arith
least-le f (suc k) = omega arith

pub north_lat-equator : north_lat 131072 ≡ 0
unfolding north_lat
north_lat-equator = let le = least-le (λ j. raw_lat (131072 - j)) 131072 in let e = raw_equator in omega (arith, le, e)
