-- Units that draw a feature: for tests of its rectangle.
use Rattle.std.proofs.Common.{◌≡◌, [], ◌∷◌, refl, sym, subst, arith, Some}
use Rattle.mf_base.specs.declared.kind.EntityKind.{EntityKind}
use Rattle.mf_base.specs.declared.kind.Role.{Role}
use Rattle.feature_model.specs.Points.{Part}
use Rattle.mf_rows.specs.Units.{Unit16, point_in, part_unit, parts_within, parts_in, shown_part}
use Rattle.mf_rows.proofs.PartsAgain.{part_told}
use Rattle.mf_rows.specs.Shapes.{DrawsFeature}

-- a ring of two points
abbrev two_points : Role → Unit16 → Unit16 → Part
two_points role u v = shown_part role (point_in u ∷ point_in v ∷ [])

one_ring : (u v : Unit16) → parts_in (part_unit Role.Outer 2 ∷ u ∷ v ∷ []) ≡ Some (two_points Role.Outer u v ∷ [])
unfolding parts_within
one_ring u v = rw (part_told Role.Outer 2 (omega arith), parts_within) refl

two_rings : (u v p q : Unit16)
    → parts_in (part_unit Role.Outer 2 ∷ u ∷ v ∷ part_unit Role.Inner 2 ∷ p ∷ q ∷ [])
    ≡ Some (two_points Role.Outer u v ∷ two_points Role.Inner p q ∷ [])
unfolding parts_within
two_rings u v p q =
    rw (part_told Role.Outer 2 (omega arith), part_told Role.Inner 2 (omega arith), parts_within) refl

pub way-drawn : (first u v : Unit16) → first ≡ part_unit Role.Outer 2 → DrawsFeature EntityKind.Way (first ∷ u ∷ v ∷ [])
way-drawn first u v is =
    subst (λ (f : Unit16). DrawsFeature EntityKind.Way (f ∷ u ∷ v ∷ [])) (sym is)
    (two_points Role.Outer u v ∷ [], one_ring u v, (refl, (omega arith, tt)))

pub relation-drawn : (first u v second p q : Unit16) → first ≡ part_unit Role.Outer 2 → second ≡ part_unit Role.Inner 2
    → DrawsFeature EntityKind.Relation (first ∷ u ∷ v ∷ second ∷ p ∷ q ∷ [])
relation-drawn first u v second p q is is_second =
    subst (λ (f : Unit16). DrawsFeature EntityKind.Relation (f ∷ u ∷ v ∷ second ∷ p ∷ q ∷ [])) (sym is)
    (subst (λ (f : Unit16). DrawsFeature EntityKind.Relation (part_unit Role.Outer 2 ∷ u ∷ v ∷ f ∷ p ∷ q ∷ []))
    (sym is_second) (
      two_points Role.Outer u v ∷ two_points Role.Inner p q ∷ [],
      two_rings u v p q,
      (refl, (omega arith, (omega arith, tt))),
    ))
