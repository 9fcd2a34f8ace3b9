-- What a cursor gives, as the front of its list.
use Rattle.std.proofs.Common.{◌≡◌, ℕ, List, [], ◌∷◌, refl, sym, Option, Some, None}
use Rattle.std.specs.Prelude.{drop, slice_get, option_map}
use Rattle.std.proofs.lemmas.Option.{none-some, same_Some}
use Rattle.mf_base.specs.declared.place.Place.{Place}
use Rattle.mf_base.specs.declared.kind.Role.{Role}
use Rattle.feature_model.specs.Points.{Point, Part}
use Rattle.mf_rows.specs.Units.{shown_part}

-- the point that a cursor gives
abbrev pub point_of : ℕ × Place → Point
point_of found = record { node = found.0; place = found.1 }

abbrev pub first_point : List Point → Option (ℕ × Place)
first_point points = option_map (λ (p : Point). (p.node, p.place)) (slice_get points 0)

pub next-point : (points more : List Point) (found : ℕ × Place) → Some found ≡ first_point points
    → more ≡ drop 1 points → points ≡ point_of found ∷ more
next-point [] more found is rest = absurd (none-some _ (sym is))
next-point (p ∷ points) more found is rest =
    let same : found ≡ (p.node, p.place) = same_Some found (p.node, p.place) is in
    λ i. point_of (sym same i) ∷ sym rest i

pub no-point : (points : List Point) → None ≡ first_point points → points ≡ []
no-point [] is = refl
no-point (p ∷ points) is = absurd (none-some _ is)

abbrev pub first_part : Option (Role × List Point) → Option Part
first_part found = option_map (λ r. shown_part r.0 r.1) found

pub next-part : (rings more : List Part) (role : Role) (points : List Point)
    → Some (shown_part role points) ≡ slice_get rings 0 → more ≡ drop 1 rings
    → rings ≡ shown_part role points ∷ more
next-part [] more role points is rest = absurd (none-some _ (sym is))
next-part (p ∷ rings) more role points is rest =
    let same : shown_part role points ≡ p = same_Some (shown_part role points) p is in
    λ i. sym same i ∷ sym rest i

pub no-part : (rings : List Part) → None ≡ slice_get rings 0 → rings ≡ []
no-part [] is = refl
no-part (p ∷ rings) is = absurd (none-some _ is)
