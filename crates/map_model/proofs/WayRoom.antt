-- How many bytes a way takes: at most 16 for each row that is weighed. For the encoder of a tile, whose output has room
-- for it.
use Rattle.std.proofs.Common.{◌≡◌, ℕ, suc, ◌+◌, ◌*◌, ◌^◌, ◌<◌, ◌≤◌, List, [], ◌∷◌, ◌++◌, length}
use Rattle.std.proofs.Common.{refl, ◌∙◌, arith, length-append, true, false, Option, Some, None}
use Rattle.std.specs.Prelude.{ℤ, pos, negsuc, nat_abs, ◌+ℤ◌, Bool, flat_map, IfSome, cond, fold, sum_by, ◌&&◌}
use Rattle.std.specs.Prelude.{int_lt, nat_lt}
use Rattle.std.specs.List.{AllByRecursion, list_all}
use Rattle.std.specs.Int.{int_min, int_max}
use Rattle.std.proofs.lemmas.Bool.{and_parts}
use Rattle.mf_base.specs.declared.place.Place.{Place}
use Rattle.mf_base.specs.Spelling.{vbe_unsigned}
use Rattle.mf_base.proofs.ByteLaws.{length-big_endian}
use Rattle.feature_model.specs.Inside.{Ring}
use Rattle.feature_model.specs.Descriptions.{text_size, kept_size}
use Rattle.feature_model.specs.Features.{Block, Shape, Feature}
use Rattle.feature_model.specs.Proper.{is_block, is_shape, ring_count, place_count}
use Rattle.feature_model.proofs.Totals.{total, total-same, sum-total}
use Rattle.map_model.specs.Numbers.{floor_div}
use Rattle.map_model.specs.Rectangles.{blocks_of_shape, rings_of, places_of, places_of_shape, first_place}
use Rattle.map_model.specs.Rectangles.{rect_of_places, rect_of}
use Rattle.map_model.specs.Labels.{first_ring_is_closed, middle, label_place}
use Rattle.map_model.specs.Layout.{optional, sized, step, step_bytes, block_bytes, way_body_bytes}
use Rattle.map_model.specs.Layout.{way_fields_bytes, first_of_blocks}
use Rattle.map_model.specs.TileBytes.{is_double, way_fields, way_bytes}
use Rattle.map_model.specs.TileReading.{IsPlaceOf32Bits}
use Rattle.map_model.specs.Room.{IsWritable}
use Rattle.map_model.proofs.Widths.{IsNear, difference, near-step, near-places, length-five, length-step}
use Rattle.map_model.proofs.Widths.{length-block}
use Rattle.map_model.proofs.FeatureRoom.{length-tags, length-optional, weight-room}

-- ---- the rectangle of places, and its middle

sum-le : (x y : ℤ) → nat_abs (x +ℤ y) ≤ nat_abs x + nat_abs y
sum-le (pos a) (pos b) = omega arith
sum-le (pos a) (negsuc b) = difference a (suc b) (a + suc b) (omega arith) (omega arith)
sum-le (negsuc a) (pos b) = difference b (suc a) (suc a + b) (omega arith) (omega arith)
sum-le (negsuc a) (negsuc b) = omega arith

half-le : (z : ℤ) → nat_abs (floor_div z 2) ≤ nat_abs z
half-le (pos n) = omega arith
half-le (negsuc n) = omega arith

either : (P : ℤ → Type 0) (b : Bool) (x y : ℤ) → P x → P y → P (cond b x y)
either P true x y px py = px
either P false x y px py = py

-- what holds of one number of all places holds of the one that is picked
fold-of : (P : ℤ → Type 0) (pick : ℤ → ℤ → ℤ) (side : Place → ℤ) → ((a b : ℤ) → P a → P b → P (pick a b))
    → (z : ℤ) (ps : Ring) → P z → AllByRecursion (λ p. P (side p)) ps → P (fold (λ a p. pick a (side p)) z ps)
fold-of P pick side step z [] here all = here
fold-of P pick side step z (p ∷ ps) here all =
    fold-of P pick side step (pick z (side p)) ps (step z (side p) here all.0) all.1

all-lat : (m : ℕ) (ps : Ring) → AllByRecursion (IsNear m) ps → AllByRecursion (λ p. nat_abs p.lat ≤ m) ps
all-lat m [] all = tt
all-lat m (p ∷ ps) all = (all.0.lat, all-lat m ps all.1)

all-lon : (m : ℕ) (ps : Ring) → AllByRecursion (IsNear m) ps → AllByRecursion (λ p. nat_abs p.lon ≤ m) ps
all-lon m [] all = tt
all-lon m (p ∷ ps) all = (all.0.lon, all-lon m ps all.1)

first-near : (m : ℕ) (ps : Ring) → AllByRecursion (IsNear m) ps → IsNear m (first_place ps)
first-near m [] all = record { lat = omega arith; lon = omega arith }
first-near m (p ∷ ps) all = all.0

half-of-both : (m : ℕ) (a b : ℤ) → nat_abs a ≤ m → nat_abs b ≤ m → nat_abs (floor_div (a +ℤ b) 2) ≤ m + m
half-of-both m a b ha hb = let half = half-le (a +ℤ b) in let sum = sum-le a b in omega (arith, half, sum, ha, hb)

pub middle-near : (m : ℕ) (ps : Ring) → AllByRecursion (IsNear m) ps → IsNear (m + m) (middle (rect_of_places ps))
unfolding rect_of_places
middle-near m ps all =
    let first = first-near m ps all in
    let small = λ (z : ℤ). nat_abs z ≤ m in
    record {
      lat = half-of-both m (fold (λ a p. int_min a p.lat) (first_place ps).lat ps)
          (fold (λ a p. int_max a p.lat) (first_place ps).lat ps)
          (fold-of (λ z. nat_abs z ≤ m) int_min (λ p. p.lat) (λ a b ha hb. either (λ z. nat_abs z ≤ m) (int_lt b a) b a
          hb ha) (first_place ps).lat ps first.lat (all-lat m ps all))
          (fold-of (λ z. nat_abs z ≤ m) int_max (λ p. p.lat) (λ a b ha hb. either (λ z. nat_abs z ≤ m) (int_lt b a) a b
          ha hb) (first_place ps).lat ps first.lat (all-lat m ps all));
      lon = half-of-both m (fold (λ a p. int_min a p.lon) (first_place ps).lon ps)
          (fold (λ a p. int_max a p.lon) (first_place ps).lon ps)
          (fold-of (λ z. nat_abs z ≤ m) int_min (λ p. p.lon) (λ a b ha hb. either (λ z. nat_abs z ≤ m) (int_lt b a) b a
          hb ha) (first_place ps).lon ps first.lon (all-lon m ps all))
          (fold-of (λ z. nat_abs z ≤ m) int_max (λ p. p.lon) (λ a b ha hb. either (λ z. nat_abs z ≤ m) (int_lt b a) a b
          ha hb) (first_place ps).lon ps first.lon (all-lon m ps all));
    }

-- ---- the label

length-label : (places : Ring) (first : Place) (o : Option Place) → IsNear 2147483648 first
    → IfSome o (IsNear 4294967296) → length (optional (λ p. step_bytes (step first p)) o) ≤ 10
length-label places first None at near = omega arith
length-label places first (Some p) at near =
    let wide : IsNear 4294967296 first = let a = at.lat in let b =
    at.lon in record { lat = omega (arith, a); lon = omega (arith, b) } in
    let far = near-step 4294967296 first p wide near in
    let lat = far.lat in
    let lon = far.lon in
    length-step (step first p) (omega (arith, lat)) (omega (arith, lon))

label-near : (f : Feature) → AllByRecursion IsPlaceOf32Bits (places_of f) → IfSome (label_place f) (IsNear 4294967296)
unfolding label_place
label-near f all = by_test (f.label && first_ring_is_closed (rings_of f))
  where
    by_test : (b : Bool) → IfSome (cond b (Some (middle (rect_of f))) None) (IsNear 4294967296)
    by_test true = middle-near 2147483648 (places_of f) (near-places (places_of f) all)
    by_test false = tt

-- ---- the blocks

-- rings that have room
abbrev AreRings : Block → Type 0
AreRings rings = AllByRecursion (λ ring. AllByRecursion IsPlaceOf32Bits ring × (length ring < 2 ^ 35)) rings

pub all-parts : {X : Type 0} (P : X → Type 0) (xs ys : List X) → AllByRecursion P (xs ++ ys)
    → AllByRecursion P xs × AllByRecursion P ys
all-parts P [] ys all = (tt, all)
all-parts P (x ∷ xs) ys all = let rest = all-parts P xs ys all.1 in ((all.0, rest.0), rest.1)

are-rings : (rings : Block) → AllByRecursion IsPlaceOf32Bits (flat_map (λ ring. ring) rings)
    → total length rings < 2 ^ 35 → AreRings rings
are-rings [] all few = tt
are-rings (ring ∷ rings) all few =
    let parts = all-parts IsPlaceOf32Bits ring (flat_map (λ ring. ring) rings) all in
    ((parts.0, omega (arith, few)), are-rings rings parts.1 (omega (arith, few)))

some-rings : (rings : Block) → is_block rings ≡ true → 1 ≤ length rings
some-rings [] is = absurd (cc is)
some-rings (ring ∷ rings) is = omega arith

length-blocks : (corner : Place) (double : Bool) (found : List Block) → IsPlaceOf32Bits corner
    → list_all is_block found ≡ true
    → AllByRecursion IsPlaceOf32Bits (flat_map (λ rings. flat_map (λ ring. ring) rings) found)
    → total length found < 2 ^ 35 → total (λ (rings : Block). total length rings) found < 2 ^ 35
    → length (flat_map (block_bytes corner double) found) ≤ 10 * total length found
    + 10 * total (λ (rings : Block). total length rings) found
length-blocks corner double [] at are all rings places = omega arith
length-blocks corner double (block ∷ found) at are all rings places =
    let both = and_parts (is_block block) (list_all is_block found) are in
    let parts = all-parts IsPlaceOf32Bits (flat_map (λ ring. ring) block)
    (flat_map (λ rings. flat_map (λ ring. ring) rings) found) all in
    let here = length-block corner double block at (are-rings block parts.0 (omega (arith, places)))
    (some-rings block both.0) (omega (arith, rings)) in
    let rest = length-blocks corner double found at both.1 parts.1 (omega (arith, rings)) (omega (arith, places)) in
    let whole = length-append (block_bytes corner double block) (flat_map (block_bytes corner double) found) in
    omega (arith, here, rest, whole)

-- the rings and places of a shape as totals
pub count-rings : (found : List Block) → sum_by length found ≡ total length found
count-rings found = sum-total length found

pub count-places : (found : List Block)
    → sum_by (λ (block : Block). sum_by length block) found ≡ total (λ (rings : Block). total length rings) found
count-places found = sum-total (λ (block : Block). sum_by length block) found
    ∙ total-same (λ (block : Block). sum_by length block) (λ (rings : Block). total length rings)
    (λ block. sum-total length block) found

are-blocks : (found : List Block) → is_shape (Shape.blocks found) ≡ true → list_all is_block found ≡ true
are-blocks [] is = refl
are-blocks (block ∷ found) is = is

shape-length : (corner : Place) (double : Bool) (shape : Shape) → IsPlaceOf32Bits corner → is_shape shape ≡ true
    → AllByRecursion IsPlaceOf32Bits (places_of_shape shape)
    → ring_count shape < 2 ^ 35 → place_count shape < 2 ^ 35
    → length (flat_map (block_bytes corner double) (blocks_of_shape shape)) ≤ 10 * ring_count shape
    + 10 * place_count shape
shape-length corner double (Shape.point p) at is all rings places = omega arith
shape-length corner double (Shape.blocks found) at is all rings places =
    let r = count-rings found in
    let p = count-places found in
    let each = length-blocks corner double found at (are-blocks found is) all (omega (arith, rings, r))
    (omega (arith, places, p)) in
    omega (arith, each, r, p)

-- a shape has no more blocks than rings
pub few-blocks : (found : List Block) → list_all is_block found ≡ true → length found ≤ total length found
few-blocks [] is = omega arith
few-blocks (block ∷ found) is =
    let both = and_parts (is_block block) (list_all is_block found) is in
    let here = some-rings block both.0 in
    let rest = few-blocks found both.1 in
    omega (arith, here, rest)

shape-blocks : (shape : Shape) → is_shape shape ≡ true → length (blocks_of_shape shape) ≤ ring_count shape
shape-blocks (Shape.point p) is = omega arith
shape-blocks (Shape.blocks found) is = let few = few-blocks found (are-blocks found is) in let rings =
    count-rings found in omega (arith, few, rings)

-- ---- ways

length-count : (b : Bool) (n : ℕ) → n < 2 ^ 35 → length (cond b (vbe_unsigned n) []) ≤ 5
length-count true n few = length-five n few
length-count false n few = omega arith

-- beside its texts, rings and places the fields of a way take at most 115 bytes
length-body : (corner : Place) (bits : ℕ) (f : Feature) → IsPlaceOf32Bits corner → IsWritable f
    → length (way_body_bytes corner (way_fields corner bits f)) ≤ 115
    + (text_size f.name + text_size f.house + text_size f.reference + kept_size f.tags) + 10 * ring_count f.shape
    + 10 * place_count f.shape
unfolding way_fields way_body_bytes
length-body corner bits f at h =
    let room = weight-room f h in
    let light = h.light in
    let tags = length-tags f.layer f.tags h.few h.kept in
    let name = length-optional f.name h.name in
    let house = length-optional f.house h.house in
    let reference = length-optional f.reference h.reference in
    let label = length-label (places_of f) (first_of_blocks (blocks_of_shape f.shape)) (label_place f)
    (first-of f.shape h.places) (label-near f h.places) in
    let count = length-count (nat_lt 1 (length (blocks_of_shape f.shape))) (length (blocks_of_shape f.shape))
    (omega (arith, room, light, shape-blocks f.shape h.shape)) in
    let blocks = shape-length corner (is_double corner f) f.shape at h.shape h.places (omega (arith, room, light))
    (omega (arith, room, light)) in
    simp (length-append, length-big_endian) (omega (arith, tags, name, house, reference, label, count, blocks))
  where
    first-of : (shape : Shape) → AllByRecursion IsPlaceOf32Bits (places_of_shape shape)
        → IsNear 2147483648 (first_of_blocks (blocks_of_shape shape))
    first-of (Shape.point p) all = record { lat = omega arith; lon = omega arith }
    first-of (Shape.blocks found) all =
        first-near 2147483648 (flat_map (λ rings. flat_map (λ ring. ring) rings) found)
        (near-places (flat_map (λ rings. flat_map (λ ring. ring) rings) found) all)

pub way-room : (corner : Place) (bits : ℕ) (f : Feature) → IsPlaceOf32Bits corner → IsWritable f
    → length (way_bytes corner bits f) ≤ 16 * f.weight
unfolding way_bytes way_fields_bytes sized
way-room corner bits f at h =
    let body = length-body corner bits f at h in
    let room = weight-room f h in
    let light = h.light in
    let size = length-five (length (way_body_bytes corner (way_fields corner bits f)))
    (omega (arith, body, room, light)) in
    let whole = length-append (vbe_unsigned (length (way_body_bytes corner (way_fields corner bits f))))
    (way_body_bytes corner (way_fields corner bits f)) in
    omega (arith, body, room, size, whole)

pub ruleset way_laws = (way-room)
