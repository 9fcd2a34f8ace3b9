-- Rectangles that grow place by place: for the rectangle of a feature.
use Rattle.std.proofs.Common.{◌≡◌, ℕ, List, [], ◌∷◌, ◌++◌, map, refl, sym, ap, ◌∙◌, true, false, Bool}
use Rattle.std.proofs.Common.{subst, ◌⊎◌, append_assoc, Option, Some, None, inl, inr}
use Rattle.std.specs.Prelude.{fold, flat_map, IsTrue, drop, slice_get, option_map}
use Rattle.std.proofs.lemmas.Option.{none-some, same_Some}
use Rattle.std.proofs.lemmas.List.Sums.{fold-append}
use Rattle.std.proofs.lemmas.List.Folds.{fold-map}
use Rattle.mf_base.specs.declared.place.Place.{Place}
use Rattle.mf_base.specs.declared.place.Rect.{Rect}
use Rattle.mf_base.specs.declared.kind.EntityKind.{EntityKind}
use Rattle.mf_base.specs.declared.kind.Role.{Role}
use Rattle.mf_base.specs.Ranges.{is_on_earth, is_rect}
use Rattle.feature_model.specs.Inside.{Ring}
use Rattle.feature_model.specs.Points.{Point, Part}
use Rattle.feature_model.specs.Blocks.{places, is_outer, inner_before, blocks_in}
use Rattle.feature_model.specs.Features.{drawn_blocks}
use Rattle.feature_model.specs.Proper.{AllPlaces}
use Rattle.map_model.specs.Rectangles.{places_of_shape, rect_of_places, rect_of}
use Rattle.mf_rows.specs.Records.{Record}
use Rattle.mf_rows.specs.Units.{shown_part}
use Rattle.tile_assign.specs.GrowingRects.{around, with_place, with_points, with_rings, rect_of_rings}
use Rattle.tile_assign.proofs.OnEarth.{from_first, rect-on_earth}
use Rattle.mf_rows.specs.Shapes.{AreRings, IsFeature, HasShape, drawn_of, shape_told, feature_told}

-- one place
pub one_place : (p : Place) → around p ≡ rect_of_places (p ∷ [])
one_place p = sym (from_first p [])

-- ---- points and rings

points-places : (r : Rect) (points : List Point) → fold with_place r (places points) ≡ with_points r points
points-places r points = fold-map with_place (λ (p : Point). p.place) r points

rings-places : (r : Rect) (rings : List Part)
    → fold with_place r (flat_map (λ (part : Part). places part.points) rings) ≡ with_rings r rings
rings-places r [] = refl
rings-places r (part ∷ rings) =
    fold-append with_place r (places part.points) (flat_map (λ (part : Part). places part.points) rings)
    ∙ ap (λ (a : Rect). fold with_place a (flat_map (λ (part : Part). places part.points) rings))
    (points-places r part.points)
    ∙ rings-places (with_points r part.points) rings

-- the first ring begins with this point
pub first_of_rings : (role : Role) (p : Point) (points : List Point) (more : List Part)
    → rect_of_rings (record { role = role; points = p ∷ points } ∷ more)
    ≡ with_rings (with_points (around p.place) points) more
first_of_rings role p points more =
    from_first p.place (places points ++ flat_map (λ (part : Part). places part.points) more)
    ∙ fold-append with_place (around p.place) (places points) (flat_map (λ (part : Part). places part.points) more)
    ∙ ap (λ (a : Rect). fold with_place a (flat_map (λ (part : Part). places part.points) more))
    (points-places (around p.place) points)
    ∙ rings-places (with_points (around p.place) points) more

-- ---- the blocks that rings make have the places of the rings

abbrev flat : {A : Type 0} → List (List A) → List A
flat xs = flat_map (λ x. x) xs

abbrev all_places : List Part → Ring
all_places rings = flat_map (λ (part : Part). places part.points) rings

abbrev drawn_places : List Part → Ring
drawn_places rings = places_of_shape (drawn_blocks (blocks_in rings))

abbrev inner_places : List Part → Ring
inner_places rings = flat (map places (inner_before rings))

one_more : (part : Part) (more : List Part) (b : Bool) → is_outer part.role ≡ b
    → inner_places more ++ drawn_places more ≡ all_places more
    → inner_places (part ∷ more) ++ drawn_places (part ∷ more) ≡ all_places (part ∷ more)
unfolding blocks_in
one_more part more true e rest =
    rw (e, blocks_in) (append_assoc (places part.points) (inner_places more) (drawn_places more)
    ∙ ap (λ (ps : Ring). places part.points ++ ps) rest)
one_more part more false e rest =
    rw (e, blocks_in) (append_assoc (places part.points) (inner_places more) (drawn_places more)
    ∙ ap (λ (ps : Ring). places part.points ++ ps) rest)

blocks_places : (rings : List Part) → inner_places rings ++ drawn_places rings ≡ all_places rings
unfolding blocks_in
blocks_places [] = refl
blocks_places (part ∷ more) = one_more part more (is_outer part.role) refl (blocks_places more)

no_inner_before : (rings : List Part) → AreRings rings → inner_before rings ≡ []
no_inner_before [] are = absurd are
no_inner_before (first ∷ more) are = rw are.0 refl

drawn-all : (rings : List Part) → AreRings rings → drawn_places rings ≡ all_places rings
drawn-all rings are =
    ap (λ (inner : List (List Point)). flat (map places inner) ++ drawn_places rings) (sym (no_inner_before rings are))
    ∙ blocks_places rings

pub rect_of_drawn : (rings : List Part) → AreRings rings
    → rect_of_rings rings ≡ rect_of_places (places_of_shape (drawn_blocks (blocks_in rings)))
rect_of_drawn rings are = ap rect_of_places (sym (drawn-all rings are))

-- ---- the first ring and its first point

abbrev pub shown_first : Option (Role × List Point) → Option Part
shown_first found = option_map (λ r. shown_part r.0 r.1) found

pub begun : (rings : List Part) (role : Role) (points later : List Point) (first : ℕ × Place) (more : List Part)
    → (small rect : Rect) → Some (shown_part role points) ≡ slice_get rings 0 → more ≡ drop 1 rings
    → Some first ≡ option_map (λ (p : Point). (p.node, p.place)) (slice_get points 0) → later ≡ drop 1 points
    → small ≡ around first.1 → rect ≡ with_points small later → with_rings rect more ≡ rect_of_rings rings
begun [] role points later first more small rect head tail point behind one all = absurd (none-some _ (sym head))
begun (part ∷ others) role [] later first more small rect head tail point behind one all =
    absurd (none-some _ (sym point))
begun (part ∷ others) role (p ∷ points) later first more small rect head tail point behind one all =
    let is : first ≡ (p.node, p.place) = same_Some first (p.node, p.place) point in
    let grown : rect ≡ with_points (around p.place) points =
    all ∙ ap (λ (a : Rect). with_points a later) (one ∙ ap (λ (q : ℕ × Place). around q.1) is)
    ∙ ap (λ (ps : List Point). with_points (around p.place) ps) behind in
    ap (λ (a : Rect). with_rings a more) grown
    ∙ ap (λ (ps : List Part). with_rings (with_points (around p.place) points) ps) tail
    ∙ sym (first_of_rings role p points others)
    ∙ ap (λ (q : Part). rect_of_rings (q ∷ others)) (same_Some (shown_part role (p ∷ points)) part head)

-- ---- the feature of a record

told-is : (r : Record) → rect_of (feature_told r) ≡ rect_of_places (places_of_shape (shape_told r))
unfolding feature_told
told-is r = refl

node-rect : (kind : EntityKind) (spot : Option Point) (parts : List Part) (found : ℕ × Place) (rect : Rect)
    → kind ≡ EntityKind.Node → Some found ≡ option_map (λ (p : Point). (p.node, p.place)) spot
    → rect ≡ around found.1 → rect ≡ rect_of_places (places_of_shape (drawn_of kind spot parts))
node-rect kind None parts found rect is point one = absurd (none-some _ (sym point))
node-rect kind (Some p) parts found rect is point one =
    one ∙ ap (λ (q : ℕ × Place). around q.1) (same_Some found (p.node, p.place) point) ∙ one_place p.place
    ∙ ap (λ k. rect_of_places (places_of_shape (drawn_of k (Some p) parts))) (sym is)

pub rect-of_node : (r : Record) (found : ℕ × Place) (rect : Rect) → r.head.kind ≡ EntityKind.Node
    → Some found ≡ option_map (λ (p : Point). (p.node, p.place)) r.spot → rect ≡ around found.1
    → rect ≡ rect_of (feature_told r)
rect-of_node r found rect is point one = node-rect r.head.kind r.spot r.parts found rect is point one ∙ sym (told-is r)

way-rect : (kind : EntityKind) (spot : Option Point) (parts : List Part) (rect : Rect) → HasShape kind spot parts
    → (kind ≡ EntityKind.Way) ⊎ (kind ≡ EntityKind.Relation) → rect ≡ rect_of_rings parts
    → rect ≡ rect_of_places (places_of_shape (drawn_of kind spot parts))
way-rect kind spot parts rect has (inl is) e =
    e ∙ rect_of_drawn parts (subst (λ k. HasShape k spot parts) is has)
    ∙ ap (λ k. rect_of_places (places_of_shape (drawn_of k spot parts))) (sym is)
way-rect kind spot parts rect has (inr is) e =
    e ∙ rect_of_drawn parts (subst (λ k. HasShape k spot parts) is has)
    ∙ ap (λ k. rect_of_places (places_of_shape (drawn_of k spot parts))) (sym is)

pub rect-of_way : (r : Record) (rect : Rect) → IsFeature r
    → (r.head.kind ≡ EntityKind.Way) ⊎ (r.head.kind ≡ EntityKind.Relation) → rect ≡ rect_of_rings r.parts
    → rect ≡ rect_of (feature_told r)
rect-of_way r rect is kind e = way-rect r.head.kind r.spot r.parts rect is kind e ∙ sym (told-is r)

pub are_rings-of : (r : Record) → IsFeature r → (r.head.kind ≡ EntityKind.Way) ⊎ (r.head.kind ≡ EntityKind.Relation)
    → AreRings r.parts
are_rings-of r is (inl way) = subst (λ k. HasShape k r.spot r.parts) way is
are_rings-of r is (inr relation) = subst (λ k. HasShape k r.spot r.parts) relation is

pub earth-told : (r : Record) (rect : Rect) → rect ≡ rect_of (feature_told r)
    → AllPlaces (λ p. IsTrue (is_on_earth p)) (shape_told r) → IsTrue (is_rect rect)
earth-told r rect is all =
    subst (λ (a : Rect). IsTrue (is_rect a)) (sym (is ∙ told-is r)) (rect-on_earth (shape_told r) all)
