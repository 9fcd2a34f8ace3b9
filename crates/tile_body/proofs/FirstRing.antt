-- The first ring of a way: its first place, and whether it is closed.
use Rattle.std.proofs.Common.{◌≡◌, ◌≢◌, ℕ, List, [], ◌∷◌, length, map, refl, sym, ap, ◌∙◌, Some, subst}
use Rattle.std.specs.Prelude.{flat_map, slice_index_or, slice_get, drop}
use Rattle.mf_base.specs.declared.place.Place.{Place}
use Rattle.mf_base.specs.declared.kind.EntityKind.{EntityKind}
use Rattle.mf_base.specs.declared.kind.Role.{Role}
use Rattle.feature_model.specs.Points.{Point, Part}
use Rattle.feature_model.specs.Blocks.{places, blocks_in}
use Rattle.feature_model.specs.Features.{Block}
use Rattle.map_model.specs.Rectangles.{rings_of}
use Rattle.map_model.specs.Labels.{same_place, is_closed, first_ring_is_closed}
use Rattle.map_model.specs.Layout.{first_of_blocks}
use Rattle.mf_rows.specs.Records.{Record}
use Rattle.mf_rows.specs.Units.{shown_part}
use Rattle.mf_rows.specs.Shapes.{feature_told, AreRings, IsFeature}
use Rattle.way_delta.specs.Rings.{blocks_told}
use Rattle.way_delta.proofs.Lists.{first_point, point_of, next-point, next-part}
use Rattle.way_delta.proofs.Rings.{drawn, rings-drawn, told-are, are_rings-of}
use Rattle.tile_body.specs.Ways.{last_from}

last-place : (p : Point) (points : List Point) (d : Place)
    → slice_index_or (places (p ∷ points)) (length (places points)) d ≡ last_from p.place points
last-place p [] d = refl
last-place p (q ∷ points) d = last-place q points d

closed-is : (p : Point) (points : List Point)
    → is_closed (places (p ∷ points)) ≡ same_place p.place (last_from p.place points)
closed-is p points = ap (same_place p.place) (last-place p points p.place)

-- the rings of a feature are those of its parts
rings-told : (r : Record) → r.head.kind ≢ EntityKind.Node → IsFeature r
    → rings_of (feature_told r) ≡ map (λ (p : Part). places p.points) r.parts
unfolding feature_told
rings-told r way is =
    ap (λ (found : List Block). flat_map (λ rings. rings) found) (told-are r way)
    ∙ rings-drawn r.parts (are_rings-of r way is)

first-is : (role : Role) (p : Point) (points : List Point) (more : List Part)
    → AreRings (shown_part role (p ∷ points) ∷ more)
    → first_of_blocks (drawn (shown_part role (p ∷ points) ∷ more)) ≡ p.place
unfolding blocks_in
first-is role p points more are = rw (are.0, blocks_in) refl

module _ (r : Record) (way : r.head.kind ≢ EntityKind.Node) (is : IsFeature r) (rings : List Part) (role : Role)
    (points later : List Point) (found : ℕ × Place) (from : rings ≡ r.parts)
    (ring : Some (shown_part role points) ≡ slice_get rings 0)
    (point : Some found ≡ first_point points) (behind : later ≡ drop 1 points) where
  parts-are : r.parts ≡ shown_part role (point_of found ∷ later) ∷ drop 1 r.parts
  parts-are =
      next-part r.parts (drop 1 r.parts) role points (ring ∙ ap (λ l. slice_get l 0) from) refl
      ∙ ap (λ l. shown_part role l ∷ drop 1 r.parts) (next-point points later found point behind)

  pub first-place_is : found.1 ≡ first_of_blocks (blocks_told r)
  unfolding parts-are
  first-place_is =
      sym (ap first_of_blocks (told-are r way ∙ ap drawn parts-are)
      ∙ first-is role (point_of found) later (drop 1 r.parts)
      (subst AreRings parts-are (are_rings-of r way is)))

  pub closed-told : first_ring_is_closed (rings_of (feature_told r)) ≡ same_place found.1 (last_from found.1 later)
  unfolding parts-are
  closed-told =
      ap first_ring_is_closed (rings-told r way is ∙ ap (map (λ (p : Part). places p.points)) parts-are)
      ∙ closed-is (point_of found) later
