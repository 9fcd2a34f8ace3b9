-- Parts, as they are read of units.
use Rattle.std.proofs.Common.{◌≡◌, ◌⊎◌, inl, inr, ℕ, zero, suc, ◌≤◌, true, false, List, [], ◌∷◌, length, take, drop}
use Rattle.std.proofs.Common.{map, Option, Some, None, refl, ap, ◌∙◌, arith, subst}
use Rattle.std.specs.Prelude.{nat_le, if◌then◌else◌, option_map, unwrap_or, IsSome, slice_get}
use Rattle.std.proofs.lemmas.Bool.{cases_Bool, leb-true}
use Rattle.std.proofs.lemmas.List.{length-drop}
use Rattle.mf_base.specs.declared.kind.Role.{Role}
use Rattle.feature_model.specs.Points.{Part}
use Rattle.mf_rows.specs.Units.{Unit16, point_in, part_in, with_part, shown_part, next_parts, parts_within, parts_in}

-- the most makes no difference
pub same-parts : (a b : ℕ) (units : List Unit16) → length units ≤ a → length units ≤ b
    → parts_within a units ≡ parts_within b units
unfolding parts_within
same-parts zero zero [] la lb = refl
same-parts zero (suc b) [] la lb = refl
same-parts (suc a) zero [] la lb = refl
same-parts (suc a) (suc b) [] la lb = refl
same-parts zero b (first ∷ units) la lb = absurd (omega (arith, la))
same-parts (suc a) zero (first ∷ units) la lb = absurd (omega (arith, lb))
same-parts (suc a) (suc b) (first ∷ units) la lb =
    same-next (part_in first) units (parts_within a) (parts_within b)
    (λ n. same-parts a b (drop n units) (omega (arith, la, length-drop n units))
    (omega (arith, lb, length-drop n units)))
  where
    same-next : (p : Option (Role × ℕ)) (units : List Unit16) (f g : List Unit16 → Option (List Part))
        → ((n : ℕ) → f (drop n units) ≡ g (drop n units)) → next_parts p units f ≡ next_parts p units g
    same-next None units f g same = refl
    same-next (Some p) units f g same =
        ap (λ more. if nat_le p.1 (length units) then option_map (with_part p.0 (take p.1 units)) more else None)
        (same p.1)

-- What is known of units behind that of a part, where all of them spell parts.
pub record FirstPart (role : Role) (points : ℕ) (units : List Unit16) (all : Option (List Part)) : Type 0 where
  pub within : points ≤ length units
  pub rest : IsSome (parts_in (drop points units))
  pub all_is : all ≡ option_map (with_part role (take points units)) (parts_in (drop points units))

pub some_of_map : {A B : Type 0} (f : A → B) (x : Option A) → IsSome (option_map f x) → IsSome x
some_of_map f None some = some
some_of_map f (Some x) some = refl

pub first_part : (first : Unit16) (units : List Unit16) (role : Role) (points : ℕ)
    → part_in first ≡ Some (role, points) → IsSome (parts_in (first ∷ units))
    → FirstPart role points units (parts_in (first ∷ units))
unfolding parts_within
first_part first units role points is some = by_room (cases_Bool (nat_le points (length units)))
  where
    found : parts_in (first ∷ units) ≡ next_parts (Some (role, points)) units (parts_within (length units))
    found = ap (λ p. next_parts p units (parts_within (length units))) is

    by_room : (nat_le points (length units) ≡ true) ⊎ (nat_le points (length units) ≡ false)
        → FirstPart role points units (parts_in (first ∷ units))
    by_room (inl fits) =
        let rest : parts_within (length units) (drop points units) ≡ parts_in (drop points units) =
        same-parts (length units) (length (drop points units)) (drop points units)
        (omega (arith, length-drop points units)) (omega arith) in
        let all : parts_in (first ∷ units)
        ≡ option_map (with_part role (take points units)) (parts_in (drop points units)) =
        found ∙ (rw fits refl) ∙ ap (option_map (with_part role (take points units))) rest in
        record {
          within = leb-true points (length units) fits;
          rest =
              some_of_map (with_part role (take points units)) (parts_in (drop points units)) (subst IsSome all some);
          all_is = all;
        }
    by_room (inr past) =
        let none : parts_in (first ∷ units) ≡ None = found ∙ (rw past refl) in
        let is_some : IsSome {T = List Part} None = subst IsSome none some in
        cc

pub no_part_first : (first : Unit16) (units : List Unit16) → part_in first ≡ None → IsSome (parts_in (first ∷ units))
    → ⊥
unfolding parts_within
no_part_first first units none some =
    let is_some : IsSome {T = List Part} None =
    subst IsSome (ap (λ p. next_parts p units (parts_within (length units))) none) some in
    cc

pub parts_in-none : parts_in [] ≡ Some []
unfolding parts_within
parts_in-none = refl

-- the first of some parts, and the others
pub first_of : (role : Role) (points : List Unit16) (all more : Option (List Part))
    → all ≡ option_map (with_part role points) more → IsSome more
    → (Some (shown_part role (map point_in points)) ≡ slice_get (unwrap_or all []) 0)
    × (unwrap_or more [] ≡ drop 1 (unwrap_or all []))
first_of role points all None is some = cc
first_of role points all (Some parts) is some = rw is (refl, refl)
