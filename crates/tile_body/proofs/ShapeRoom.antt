-- What is drawn of a record: its rings and places are the units of its parts, and it has a shape of places of 32 bits.
use Rattle.std.proofs.Common.{◌≡◌, suc, ◌+◌, ◌≤◌, List, [], ◌∷◌, ◌++◌, length, map, refl, sym, ap, ◌∙◌, arith}
use Rattle.std.proofs.Common.{Option, Some, None, Bool, true, false}
use Rattle.std.specs.Prelude.{flat_map, sum_by, IsTrue}
use Rattle.std.specs.List.{list_all, AllByRecursion}
use Rattle.std.proofs.lemmas.Bool.{le-leb}
use Rattle.std.proofs.lemmas.List.{length-map}
use Rattle.mf_base.specs.declared.place.Place.{Place}
use Rattle.mf_base.specs.declared.kind.EntityKind.{EntityKind}
use Rattle.mf_base.specs.Ranges.{is_on_earth}
use Rattle.feature_model.specs.Inside.{Ring}
use Rattle.feature_model.specs.Points.{Point, Part}
use Rattle.feature_model.specs.Blocks.{places, is_outer, inner_before, blocks_in}
use Rattle.feature_model.specs.Features.{Block, Shape, drawn_blocks}
use Rattle.feature_model.specs.Proper.{is_ring, is_block, is_shape, ring_count, place_count, AllPlaces}
use Rattle.feature_model.proofs.Totals.{total, total-map, total-flat_map, sum-total, total-same}
use Rattle.map_model.specs.Rectangles.{blocks_of_shape, places_of_shape}
use Rattle.map_model.specs.TileReading.{IsPlaceOf32Bits}
use Rattle.map_model.proofs.HeaderOfMapping.{place-32}
use Rattle.mf_rows.specs.RecordUnits.{spot_count, parts_count}
use Rattle.mf_rows.specs.Shapes.{drawn_of, HasShape, AreRings, IsRing}
use Rattle.way_delta.proofs.Rings.{rings-drawn, drawn}

-- ---- counts

total-one : {X : Type 0} (xs : List X) → total (λ x. 1) xs ≡ length xs
total-one [] = refl
total-one (x ∷ xs) = let rest = total-one xs in omega (arith, rest)

-- the rings of blocks are as many as all their rings, and so are the places
rings-flat : (found : List Block) → sum_by length found ≡ length (flat_map (λ rings. rings) found)
rings-flat found =
    sum-total length found ∙ total-same length (λ (rings : Block). total (λ ring. 1) rings)
    (λ rings. sym (total-one rings)) found
    ∙ sym (total-flat_map (λ (ring : Ring). 1) (λ (rings : Block). rings) found)
    ∙ total-one (flat_map (λ rings. rings) found)

places-flat : (found : List Block) → sum_by (λ (block : Block). sum_by length block) found
    ≡ total length (flat_map (λ rings. rings) found)
places-flat found =
    sum-total (λ (block : Block). sum_by length block) found
    ∙ total-same (λ (block : Block). sum_by length block) (λ (rings : Block). total length rings)
    (λ rings. sum-total length rings) found
    ∙ sym (total-flat_map (λ (ring : Ring). length ring) (λ (rings : Block). rings) found)

units-of_parts : (parts : List Part)
    → length parts + total (λ (p : Part). length (places p.points)) parts ≡ parts_count parts
units-of_parts [] = refl
units-of_parts (p ∷ parts) =
    let rest = units-of_parts parts in
    let here = length-map p.points (λ (q : Point). q.place) in
    omega (arith, rest, here)

drawn-count : (parts : List Part) → AreRings parts
    → ring_count (drawn_blocks (blocks_in parts)) + place_count (drawn_blocks (blocks_in parts)) ≡ parts_count parts
drawn-count parts are =
    let rings = rings-flat (drawn parts) ∙ ap length (rings-drawn parts are)
    ∙ length-map parts (λ (p : Part). places p.points) in
    let all = places-flat (drawn parts) ∙ ap (total length) (rings-drawn parts are)
    ∙ total-map length (λ (p : Part). places p.points) parts in
    let units = units-of_parts parts in
    omega (arith, rings, all, units)

-- rings and places of a feature are at most the units that it is drawn from
pub shape-count : (kind : EntityKind) (spot : Option Point) (parts : List Part) → HasShape kind spot parts
    → ring_count (drawn_of kind spot parts) + place_count (drawn_of kind spot parts)
    ≤ spot_count spot + parts_count parts
shape-count EntityKind.Node None parts has = absurd (cc has)
shape-count EntityKind.Node (Some p) parts has = omega arith
shape-count EntityKind.Way spot parts has = let all = drawn-count parts has in omega (arith, all)
shape-count EntityKind.Relation spot parts has = let all = drawn-count parts has in omega (arith, all)

drawn-blocks : (parts : List Part) → length (drawn parts) ≤ length parts
unfolding blocks_in
drawn-blocks [] = omega arith
drawn-blocks (p ∷ more) = by_role (is_outer p.role) refl (drawn-blocks more)
  where
    by_role : (b : Bool) → is_outer p.role ≡ b → length (drawn more) ≤ length more
        → length (drawn (p ∷ more)) ≤ suc (length more)
    by_role true e rest = rw (e, blocks_in) (omega (arith, rest))
    by_role false e rest = rw (e, blocks_in) (omega (arith, rest))

parts-within : (parts : List Part) → length parts ≤ parts_count parts
parts-within [] = omega arith
parts-within (p ∷ more) = let rest = parts-within more in omega (arith, rest)

pub blocks-within : (kind : EntityKind) (spot : Option Point) (parts : List Part) → HasShape kind spot parts
    → length (blocks_of_shape (drawn_of kind spot parts)) ≤ parts_count parts
blocks-within EntityKind.Node spot parts has = omega arith
blocks-within EntityKind.Way spot parts has =
    let a = drawn-blocks parts in let b = parts-within parts in omega (arith, a, b)
blocks-within EntityKind.Relation spot parts has =
    let a = drawn-blocks parts in let b = parts-within parts in omega (arith, a, b)

-- ---- a shape

ring-is : (p : Part) → IsRing p → is_ring (places p.points) ≡ true
ring-is p two = le-leb 2 (length (places p.points)) (rw (length-map p.points (λ (q : Point). q.place)) two)

inner-are : (parts : List Part) → AllByRecursion IsRing parts
    → list_all is_ring (map places (inner_before parts)) ≡ true
inner-are [] all = refl
inner-are (p ∷ more) all = by_role (is_outer p.role) refl (inner-are more all.1)
  where
    by_role : (b : Bool) → is_outer p.role ≡ b → list_all is_ring (map places (inner_before more)) ≡ true
        → list_all is_ring (map places (inner_before (p ∷ more))) ≡ true
    by_role true e rest = rw e refl
    by_role false e rest = rw (e, ring-is p all.0, rest) refl

blocks-are : (parts : List Part) → AllByRecursion IsRing parts → list_all is_block (drawn parts) ≡ true
unfolding blocks_in
blocks-are [] all = refl
blocks-are (p ∷ more) all = by_role (is_outer p.role) refl (inner-are more all.1) (blocks-are more all.1)
  where
    by_role : (b : Bool) → is_outer p.role ≡ b → list_all is_ring (map places (inner_before more)) ≡ true
        → list_all is_block (drawn more) ≡ true → list_all is_block (drawn (p ∷ more)) ≡ true
    by_role true e rings rest = rw (e, blocks_in, ring-is p all.0, rings, rest) refl
    by_role false e rings rest = rw (e, blocks_in) rest

some-blocks : (parts : List Part) → AreRings parts → is_shape (drawn_blocks (blocks_in parts)) ≡ true
unfolding blocks_in
some-blocks [] are = absurd are
some-blocks (p ∷ more) are =
    let all = blocks-are (p ∷ more) are.1 in
    rw (are.0, blocks_in) (rw (are.0, blocks_in) at all)

pub shape-is : (kind : EntityKind) (spot : Option Point) (parts : List Part) → HasShape kind spot parts
    → IsTrue (is_shape (drawn_of kind spot parts))
shape-is EntityKind.Node spot parts has = refl
shape-is EntityKind.Way spot parts has = some-blocks parts has
shape-is EntityKind.Relation spot parts has = some-blocks parts has

-- ---- places

abbrev IsNear : Place → Type 0
IsNear p = IsTrue (is_on_earth p)

all-append : (P : Place → Type 0) (xs ys : Ring) → AllByRecursion P xs → AllByRecursion P ys
    → AllByRecursion P (xs ++ ys)
all-append P [] ys one two = two
all-append P (x ∷ xs) ys one two = (one.0, all-append P xs ys one.1 two)

all-32 : (ps : Ring) → AllByRecursion IsNear ps → AllByRecursion IsPlaceOf32Bits ps
all-32 [] all = tt
all-32 (p ∷ ps) all = (place-32 p all.0, all-32 ps all.1)

rings-32 : (rings : Block) → AllByRecursion (λ (ring : Ring). AllByRecursion IsNear ring) rings
    → AllByRecursion IsPlaceOf32Bits (flat_map (λ ring. ring) rings)
rings-32 [] all = tt
rings-32 (ring ∷ rings) all =
    all-append IsPlaceOf32Bits ring (flat_map (λ ring. ring) rings) (all-32 ring all.0) (rings-32 rings all.1)

blocks-32 : (found : List Block)
    → AllByRecursion (λ (block : Block). AllByRecursion (λ (ring : Ring). AllByRecursion IsNear ring) block) found
    → AllByRecursion IsPlaceOf32Bits (flat_map (λ rings. flat_map (λ ring. ring) rings) found)
blocks-32 [] all = tt
blocks-32 (block ∷ found) all =
    all-append IsPlaceOf32Bits (flat_map (λ ring. ring) block)
    (flat_map (λ rings. flat_map (λ ring. ring) rings) found) (rings-32 block all.0) (blocks-32 found all.1)

pub places-32 : (shape : Shape) → AllPlaces (λ p. IsTrue (is_on_earth p)) shape
    → AllByRecursion IsPlaceOf32Bits (places_of_shape shape)
places-32 (Shape.point p) all = (place-32 p all, tt)
places-32 (Shape.blocks found) all = blocks-32 found all
