-- How many bytes numbers, texts, places and rings take: for the encoder of a tile, which has room for them.
use Rattle.std.proofs.Common.{◌≡◌, ℕ, zero, suc, ◌+◌, ◌*◌, ◌^◌, ◌<◌, ◌≤◌, List, [], ◌∷◌, length}
use Rattle.std.proofs.Common.{refl, ap, ◌∙◌, arith, length-append, true, false, inl, inr}
use Rattle.std.specs.Prelude.{ℤ, pos, negsuc, nat_abs, ◌-ℤ◌, Bool, flat_map, leb}
use Rattle.std.specs.List.{AllByRecursion}
use Rattle.std.proofs.lemmas.Bool.{cases_lt, lt-ltb, le-ltb, leb-true, and_parts}
use Rattle.mf_base.specs.declared.place.Place.{Place}
use Rattle.mf_base.specs.Spelling.{vbe_unsigned, vbe_signed, sign_bit, string}
use Rattle.mf_base.specs.Ranges.{is_signed_32}
use Rattle.mf_base.proofs.OneSpelling.{length-vbe-le}
use Rattle.feature_model.specs.Inside.{Ring}
use Rattle.feature_model.specs.Features.{Block}
use Rattle.feature_model.proofs.Totals.{total}
use Rattle.map_model.specs.Rectangles.{origin}
use Rattle.map_model.specs.Layout.{step, step_bytes, steps_from, doubled, ring_steps, coordinate_bytes}
use Rattle.map_model.specs.Layout.{ring_bytes, block_bytes}
use Rattle.map_model.specs.TileReading.{IsPlaceOf32Bits}

-- ---- numbers and texts

pub length-two : (n : ℕ) → n < 16384 → length (vbe_unsigned n) ≤ 2
length-two n small = length-vbe-le 1 128 0 n (omega arith) (omega (arith, small))

pub length-five : (n : ℕ) → n < 2 ^ 35 → length (vbe_unsigned n) ≤ 5
length-five n small = length-vbe-le 4 128 0 n (omega arith) (omega (arith, small))

pub length-four : (n : ℕ) → n < 2 ^ 28 → length (vbe_unsigned n) ≤ 4
length-four n small = length-vbe-le 3 128 0 n (omega arith) (omega (arith, small))

pub length-signed : (z : ℤ) → nat_abs z < 2 ^ 34 → length (vbe_signed z) ≤ 5
length-signed z small = length-vbe-le 4 64 (sign_bit z) (nat_abs z) (omega arith) (omega (arith, small))

pub length-text : (text : List ℕ) → length text < 16384 → length (string text) ≤ 2 + length text
unfolding string
length-text text small =
    let size = length-two (length text) small in
    let all = length-append (vbe_unsigned (length text)) text in
    omega (arith, size, all)

-- ---- places

pub difference : (a b m : ℕ) → a ≤ m + b → b ≤ m + a → nat_abs (pos a -ℤ pos b) ≤ m
difference a zero m ha hb = omega (arith, ha)
difference a (suc b) m ha hb =
    elim (cases_lt a (suc b)) [
      | inl lt ↦ rw (lt-ltb a (suc b) lt) (omega (arith, lt, hb))
      | inr ge ↦ rw (le-ltb a (suc b) ge) (omega (arith, ge, ha))
    ]

pub difference-le : (x y : ℤ) → nat_abs (x -ℤ y) ≤ nat_abs x + nat_abs y
difference-le (pos a) (pos b) = difference a b (a + b) (omega arith) (omega arith)
difference-le (pos a) (negsuc b) = omega arith
difference-le (negsuc a) (pos zero) = difference 0 (suc a) (suc a + 0) (omega arith) (omega arith)
difference-le (negsuc a) (pos (suc b)) = omega arith
difference-le (negsuc a) (negsuc b) = difference (suc b) (suc a) (suc a + suc b) (omega arith) (omega arith)

-- both numbers of a place are at most so many
pub record IsNear (most : ℕ) (p : Place) : Type 0 where
  pub lat : nat_abs p.lat ≤ most
  pub lon : nat_abs p.lon ≤ most

abs-32 : (z : ℤ) → is_signed_32 z ≡ true → nat_abs z ≤ 2147483648
abs-32 (pos n) h = let le = leb-true n 2147483647 h in omega (arith, le)
abs-32 (negsuc n) h = let le = leb-true n 2147483647 (and_parts (leb n 2147483647) true h).0 in omega (arith, le)

pub near-32 : (p : Place) → IsPlaceOf32Bits p → IsNear 2147483648 p
near-32 p h = record { lat = abs-32 p.lat h.0; lon = abs-32 p.lon h.1 }

pub near-step : (m : ℕ) (a b : Place) → IsNear m a → IsNear m b → IsNear (m + m) (step a b)
near-step m a b ha hb =
    let lat = difference-le b.lat a.lat in
    let lon = difference-le b.lon a.lon in
    let al = ha.lat in
    let bl = hb.lat in
    let an = ha.lon in
    let bn = hb.lon in
    record { lat = omega (arith, lat, al, bl); lon = omega (arith, lon, an, bn) }

near-more : (m n : ℕ) (p : Place) → m ≤ n → IsNear m p → IsNear n p
near-more m n p le h = let a = h.lat in let b =
    h.lon in record { lat = omega (arith, le, a); lon = omega (arith, le, b) }

near-all : (m n : ℕ) (ps : Ring) → m ≤ n → AllByRecursion (IsNear m) ps → AllByRecursion (IsNear n) ps
near-all m n [] le all = tt
near-all m n (p ∷ ps) le all = (near-more m n p le all.0, near-all m n ps le all.1)

pub near-places : (ps : Ring) → AllByRecursion IsPlaceOf32Bits ps → AllByRecursion (IsNear 2147483648) ps
near-places [] all = tt
near-places (p ∷ ps) all = (near-32 p all.0, near-places ps all.1)

near-steps : (m : ℕ) (before : Place) (ps : Ring) → IsNear m before → AllByRecursion (IsNear m) ps
    → AllByRecursion (IsNear (m + m)) (steps_from before ps)
near-steps m before [] h all = tt
near-steps m before (p ∷ ps) h all = (near-step m before p h all.0, near-steps m p ps all.0 all.1)

near-doubled : (m : ℕ) (ps : Ring) → AllByRecursion (IsNear m) ps → AllByRecursion (IsNear (m + m)) (doubled ps)
near-doubled m [] all = tt
near-doubled m (p ∷ ps) all = (
  near-more m (m + m) p (omega arith) all.0,
  near-steps m origin ps (record { lat = omega arith; lon = omega arith })
      all.1,
)

near-ring : (corner : Place) (double : Bool) (ring : Ring) → IsPlaceOf32Bits corner
    → AllByRecursion IsPlaceOf32Bits ring → AllByRecursion (IsNear 8589934592) (ring_steps corner double ring)
unfolding ring_steps
near-ring corner true ring at all =
    near-doubled 4294967296 (steps_from corner ring)
    (near-steps 2147483648 corner ring (near-32 corner at) (near-places ring all))
near-ring corner false ring at all =
    near-all 4294967296 8589934592 (steps_from corner ring) (omega arith)
    (near-steps 2147483648 corner ring (near-32 corner at) (near-places ring all))

count-steps : (before : Place) (ps : Ring) → length (steps_from before ps) ≡ length ps
count-steps before [] = refl
count-steps before (p ∷ ps) = ap suc (count-steps p ps)

count-doubled : (ps : Ring) → length (doubled ps) ≡ length ps
count-doubled [] = refl
count-doubled (p ∷ ps) = ap suc (count-steps origin ps)

pub count-ring : (corner : Place) (double : Bool) (ring : Ring) → length (ring_steps corner double ring) ≡ length ring
unfolding ring_steps
count-ring corner true ring = count-doubled (steps_from corner ring) ∙ count-steps corner ring
count-ring corner false ring = count-steps corner ring

pub length-step : (s : Place) → nat_abs s.lat < 2 ^ 34 → nat_abs s.lon < 2 ^ 34 → length (step_bytes s) ≤ 10
length-step s lat lon =
    let a = length-signed s.lat lat in
    let b = length-signed s.lon lon in
    let all = length-append (vbe_signed s.lat) (vbe_signed s.lon) in
    omega (arith, a, b, all)

-- a place less another, both of 32 bits, takes at most ten bytes
pub length-place : (a b : Place) → IsPlaceOf32Bits a → IsPlaceOf32Bits b → length (step_bytes (step a b)) ≤ 10
length-place a b ha hb =
    let near = near-step 2147483648 a b (near-32 a ha) (near-32 b hb) in
    let lat = near.lat in
    let lon = near.lon in
    length-step (step a b) (omega (arith, lat)) (omega (arith, lon))

length-steps : (steps : Ring) → AllByRecursion (IsNear 8589934592) steps
    → length (flat_map step_bytes steps) ≤ 10 * length steps
length-steps [] all = omega arith
length-steps (s ∷ steps) all =
    let near = all.0 in
    let lat = near.lat in
    let lon = near.lon in
    let here = length-step s (omega (arith, lat)) (omega (arith, lon)) in
    let rest = length-steps steps all.1 in
    let whole = length-append (step_bytes s) (flat_map step_bytes steps) in
    omega (arith, here, rest, whole)

-- the places of a ring take at most ten bytes each, under either delta kind
pub length-coordinates : (corner : Place) (double : Bool) (ring : Ring) → IsPlaceOf32Bits corner
    → AllByRecursion IsPlaceOf32Bits ring → length (coordinate_bytes corner double ring) ≤ 10 * length ring
unfolding coordinate_bytes
length-coordinates corner double ring at all =
    let steps = length-steps (ring_steps corner double ring) (near-ring corner double ring at all) in
    let count = count-ring corner double ring in
    omega (arith, steps, count)

pub length-ring : (corner : Place) (double : Bool) (ring : Ring) → IsPlaceOf32Bits corner
    → AllByRecursion IsPlaceOf32Bits ring → length ring < 2 ^ 35
    → length (ring_bytes corner double ring) ≤ 5 + 10 * length ring
unfolding ring_bytes
length-ring corner double ring at all few =
    let count = length-five (length ring) few in
    let places = length-coordinates corner double ring at all in
    let whole = length-append (vbe_unsigned (length ring)) (coordinate_bytes corner double ring) in
    omega (arith, count, places, whole)

length-rings : (corner : Place) (double : Bool) (rings : Block) → IsPlaceOf32Bits corner
    → AllByRecursion (λ ring. AllByRecursion IsPlaceOf32Bits ring × (length ring < 2 ^ 35)) rings
    → length (flat_map (ring_bytes corner double) rings) ≤ 5 * length rings + 10 * total length rings
length-rings corner double [] at all = omega arith
length-rings corner double (ring ∷ rings) at all =
    let here = length-ring corner double ring at all.0.0 all.0.1 in
    let rest = length-rings corner double rings at all.1 in
    let whole = length-append (ring_bytes corner double ring) (flat_map (ring_bytes corner double) rings) in
    omega (arith, here, rest, whole)

-- a block takes at most ten bytes for each ring and ten for each place
pub length-block : (corner : Place) (double : Bool) (rings : Block) → IsPlaceOf32Bits corner
    → AllByRecursion (λ ring. AllByRecursion IsPlaceOf32Bits ring × (length ring < 2 ^ 35)) rings
    → 1 ≤ length rings → length rings < 2 ^ 35
    → length (block_bytes corner double rings) ≤ 10 * length rings + 10 * total length rings
unfolding block_bytes
length-block corner double rings at all some few =
    let count = length-five (length rings) few in
    let each = length-rings corner double rings at all in
    let whole = length-append (vbe_unsigned (length rings)) (flat_map (ring_bytes corner double) rings) in
    omega (arith, some, count, each, whole)

pub ruleset ring_laws = (length-place, length-coordinates, length-ring)
