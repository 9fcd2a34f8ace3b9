-- The rectangle of places from the first of them on, and that it is one on the earth where they are.
use Rattle.std.proofs.Common.{◌≡◌, List, [], ◌∷◌, ◌++◌, refl, sym, ap, ◌∙◌, subst, arith, true, false, Bool, cond}
use Rattle.std.proofs.Common.{ℤ, pos, negsuc, inl, inr}
use Rattle.std.specs.Prelude.{fold, flat_map, int_lt, int_le, IsTrue, ◌≤ℤ◌}
use Rattle.std.specs.Int.{int_min, int_max}
use Rattle.std.specs.List.{AllByRecursion}
use Rattle.std.proofs.lemmas.Bool.{cases_Bool, and_parts}
use Rattle.std.proofs.lemmas.Int.{ints, clamps}
use Rattle.mf_base.specs.declared.place.Place.{Place}
use Rattle.mf_base.specs.declared.place.Rect.{Rect}
use Rattle.mf_base.specs.Ranges.{is_latitude, is_longitude, is_on_earth, is_rect}
use Rattle.feature_model.specs.Inside.{Ring}
use Rattle.feature_model.specs.Features.{Shape, Block}
use Rattle.feature_model.specs.Proper.{AllPlaces}
use Rattle.map_model.specs.Rectangles.{places_of_shape, rect_of_places}
use Rattle.tile_assign.specs.GrowingRects.{around, with_place}

-- ---- a rectangle of places, from the first of them on

min-same : (z : ℤ) → int_min z z ≡ z
min-same z = by_test (int_lt z z)
  where
    by_test : (b : Bool) → cond b z z ≡ z
    by_test true = refl
    by_test false = refl

max-same : (z : ℤ) → int_max z z ≡ z
max-same z = by_test (int_lt z z)
  where
    by_test : (b : Bool) → cond b z z ≡ z
    by_test true = refl
    by_test false = refl

-- the four sides, each by itself
abbrev by_sides : Rect → Ring → Rect
by_sides r ps = record {
  min_lat = fold (λ a (p : Place). int_min a p.lat) r.min_lat ps;
  min_lon = fold (λ a (p : Place). int_min a p.lon) r.min_lon ps;
  max_lat = fold (λ a (p : Place). int_max a p.lat) r.max_lat ps;
  max_lon = fold (λ a (p : Place). int_max a p.lon) r.max_lon ps;
}

grows-by_sides : (r : Rect) (ps : Ring) → fold with_place r ps ≡ by_sides r ps
grows-by_sides r [] = refl
grows-by_sides r (p ∷ ps) = grows-by_sides (with_place r p) ps

pub from_first : (p : Place) (ps : Ring) → rect_of_places (p ∷ ps) ≡ fold with_place (around p) ps
unfolding rect_of_places
from_first p ps =
    ap (λ (r : Rect). by_sides r ps)
    (λ i. record {
      min_lat = min-same p.lat i;
      min_lon = min-same p.lon i;
      max_lat = max-same p.lat i;
      max_lon = max-same p.lon i;
    })
    ∙ sym (grows-by_sides (around p) ps)

-- ---- on the earth

le_of : (a b : ℤ) → int_le a b ≡ true → a ≤ℤ b
le_of a b e = omega (arith, ints, e)

le_is : (a b : ℤ) → a ≤ℤ b → int_le a b ≡ true
le_is a b le = elim (cases_Bool (int_le a b)) [ inl is ↦ is | inr above ↦ absurd (omega (arith, ints, le, above)) ]

-- A place on the earth.
record IsNear (p : Place) : Type 0 where
  south : negsuc 89999999 ≤ℤ p.lat
  north : p.lat ≤ℤ pos 90000000
  west : negsuc 179999999 ≤ℤ p.lon
  east : p.lon ≤ℤ pos 180000000

near : (p : Place) → is_on_earth p ≡ true → IsNear p
near p e =
    let both = and_parts (is_latitude p.lat) (is_longitude p.lon) e in
    let lat = and_parts (int_le (negsuc 89999999) p.lat) (int_le p.lat (pos 90000000)) both.0 in
    let lon = and_parts (int_le (negsuc 179999999) p.lon) (int_le p.lon (pos 180000000)) both.1 in
    record {
      south = le_of _ _ lat.0;
      north = le_of _ _ lat.1;
      west = le_of _ _ lon.0;
      east = le_of _ _ lon.1;
    }

-- A rectangle on the earth.
record HasSides (r : Rect) : Type 0 where
  south : negsuc 89999999 ≤ℤ r.min_lat
  lat : r.min_lat ≤ℤ r.max_lat
  north : r.max_lat ≤ℤ pos 90000000
  west : negsuc 179999999 ≤ℤ r.min_lon
  lon : r.min_lon ≤ℤ r.max_lon
  east : r.max_lon ≤ℤ pos 180000000

around-sides : (p : Place) → IsNear p → HasSides (around p)
around-sides p n = record {
  south = n.south;
  lat = omega (arith, ints);
  north = n.north;
  west = n.west;
  lon = omega (arith, ints);
  east = n.east;
}

with-sides : (r : Rect) (p : Place) → HasSides r → IsNear p → HasSides (with_place r p)
with-sides r p s n =
    let s1 = s.south in
    let s2 = s.lat in
    let s3 = s.north in
    let s4 = s.west in
    let s5 = s.lon in
    let s6 = s.east in
    let n1 = n.south in
    let n2 = n.north in
    let n3 = n.west in
    let n4 = n.east in
    record {
      south = omega (arith, ints, clamps, s1, n1);
      lat = omega (arith, ints, clamps, s2);
      north = omega (arith, ints, clamps, s3, n2);
      west = omega (arith, ints, clamps, s4, n3);
      lon = omega (arith, ints, clamps, s5);
      east = omega (arith, ints, clamps, s6, n4);
    }

all-sides : (r : Rect) (ps : Ring) → HasSides r → AllByRecursion (λ p. IsTrue (is_on_earth p)) ps
    → HasSides (fold with_place r ps)
all-sides r [] s all = s
all-sides r (p ∷ ps) s all = all-sides (with_place r p) ps (with-sides r p s (near p all.0)) all.1

sides-rect : (r : Rect) → HasSides r → is_rect r ≡ true
sides-rect r s =
    let s1 = s.south in
    let s2 = s.lat in
    let s3 = s.north in
    let s4 = s.west in
    let s5 = s.lon in
    let s6 = s.east in
    rw (
      le_is (negsuc 89999999) r.min_lat s1,
      le_is r.min_lat (pos 90000000) (omega (arith, ints, s2, s3)),
      le_is (negsuc 89999999) r.max_lat (omega (arith, ints, s1, s2)),
      le_is r.max_lat (pos 90000000) s3,
      le_is (negsuc 179999999) r.min_lon s4,
      le_is r.min_lon (pos 180000000) (omega (arith, ints, s5, s6)),
      le_is (negsuc 179999999) r.max_lon (omega (arith, ints, s4, s5)),
      le_is r.max_lon (pos 180000000) s6,
      le_is r.min_lat r.max_lat s2,
      le_is r.min_lon r.max_lon s5,
    ) refl

places-rect : (ps : Ring) → AllByRecursion (λ p. IsTrue (is_on_earth p)) ps → IsTrue (is_rect (rect_of_places ps))
unfolding rect_of_places
places-rect [] all = refl
places-rect (p ∷ ps) all =
    subst (λ (a : Rect). is_rect a ≡ true) (sym (from_first p ps))
    (sides-rect (fold with_place (around p) ps)
    (all-sides (around p) ps (around-sides p (near p all.0)) all.1))

all-both : {A : Type 0} (P : A → Type 0) (xs ys : List A) → AllByRecursion P xs → AllByRecursion P ys
    → AllByRecursion P (xs ++ ys)
all-both P [] ys one two = two
all-both P (x ∷ xs) ys one two = (one.0, all-both P xs ys one.1 two)

all-rings : (P : Place → Type 0) (rings : Block) → AllByRecursion (λ (ring : Ring). AllByRecursion P ring) rings
    → AllByRecursion P (flat_map (λ ring. ring) rings)
all-rings P [] all = tt
all-rings P (ring ∷ rings) all = all-both P ring (flat_map (λ ring. ring) rings) all.0 (all-rings P rings all.1)

all-blocks : (P : Place → Type 0) (blocks : List Block)
    → AllByRecursion (λ (block : Block). AllByRecursion (λ (ring : Ring). AllByRecursion P ring) block) blocks
    → AllByRecursion P (flat_map (λ rings. flat_map (λ ring. ring) rings) blocks)
all-blocks P [] all = tt
all-blocks P (block ∷ blocks) all =
    all-both P (flat_map (λ ring. ring) block) (flat_map (λ rings. flat_map (λ ring. ring) rings) blocks)
    (all-rings P block all.0) (all-blocks P blocks all.1)

all-shape : (P : Place → Type 0) (shape : Shape) → AllPlaces P shape → AllByRecursion P (places_of_shape shape)
all-shape P (Shape.point p) all = (all, tt)
all-shape P (Shape.blocks found) all = all-blocks P found all

pub rect-on_earth : (shape : Shape) → AllPlaces (λ p. IsTrue (is_on_earth p)) shape
    → IsTrue (is_rect (rect_of_places (places_of_shape shape)))
rect-on_earth shape all = places-rect (places_of_shape shape) (all-shape (λ p. IsTrue (is_on_earth p)) shape all)
