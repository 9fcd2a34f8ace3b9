-- Units of parts, part after part.
use Rattle.std.proofs.Common.{◌≡◌, ℕ, ◌+◌, ◌-◌, ◌≤◌, ◌<◌, true, false, List, [], ◌∷◌, length, drop, take, Option}
use Rattle.std.proofs.Common.{Some, None, refl, sym, ap, ◌∙◌, arith, map}
use Rattle.std.specs.Prelude.{is_some, IsSome, option_map, unwrap_or}
use Rattle.std.proofs.lemmas.Bool.{le-leb, lt-leb}
use Rattle.std.proofs.lemmas.List.{length-drop, length-take, length-map, nil_from_length}
use Rattle.mf_base.specs.declared.kind.Role.{Role}
use Rattle.feature_model.specs.Points.{Part}
use Rattle.mf_rows.specs.Units.{Unit16, point_in, part_in, parts_within, parts_in, next_parts, with_part, FollowsPart}
use Rattle.mf_rows.specs.RecordUnits.{last_place}
use Rattle.mf_rows.proofs.Parts.{same-parts, parts_in-none}

some_mapped : {A B : Type 0} (f : A → B) (x : Option A) → is_some (option_map f x) ≡ is_some x
some_mapped f None = refl
some_mapped f (Some x) = refl

module _ (first : Unit16) (rest : List Unit16) where
  pub part-behind : (role : Role) (points : ℕ) → part_in first ≡ Some (role, points) → points ≤ length rest
      → parts_in (first ∷ rest) ≡ option_map (with_part role (take points rest)) (parts_in (drop points rest))
  unfolding parts_within
  part-behind role points is within =
      let more : List Unit16 = drop points rest in
      let same : parts_within (length rest) more ≡ parts_in more =
      same-parts (length rest) (length more) more (omega (arith, length-drop points rest)) (omega arith) in
      ap (λ p. next_parts p rest (parts_within (length rest))) is
      ∙ rw (le-leb points (length rest) within) refl
      ∙ ap (option_map (with_part role (take points rest))) same

  pub follows : (role : Role) (points : ℕ) → part_in first ≡ Some (role, points) → points ≤ length rest
      → (more : List Unit16) → more ≡ drop points rest → FollowsPart first rest more
  follows role points is within more more-is = record {
    role = role;
    points = take points rest;
    all = part-behind role points is within
        ∙ ap (λ us. option_map (with_part role (take points rest)) (parts_in us)) (sym more-is);
    counted = rw more-is (omega (arith, within, length-take points rest, length-drop points rest));
  }

  pub part-short : (role : Role) (points : ℕ) → part_in first ≡ Some (role, points) → length rest < points
      → is_some (parts_in (first ∷ rest)) ≡ false
  unfolding parts_within
  part-short role points is past =
      ap (λ p. is_some (next_parts p rest (parts_within (length rest)))) is
      ∙ rw (lt-leb points (length rest) past) refl

  pub no-part-there : part_in first ≡ None → is_some (parts_in (first ∷ rest)) ≡ false
  unfolding parts_within
  no-part-there none = ap (λ p. is_some (next_parts p rest (parts_within (length rest)))) none

-- ---- the last part

-- where the last of all parts stands, of which those left begin at `done`; where none is left it is known
abbrev place_from : (last done : ℕ) → List Part → ℕ
place_from last done [] = last
place_from last done (p ∷ ps) = done + last_place (p ∷ ps)

-- What is known of the units that are left of all.
pub record AreLeft (units left : List Unit16) (last : ℕ) : Type 0 where
  pub within : length left ≤ length units
  pub some : is_some (parts_in left) ≡ is_some (parts_in units)
  pub place : IsSome (parts_in left) → last_place (unwrap_or (parts_in units) [])
      ≡ place_from last (length units - length left) (unwrap_or (parts_in left) [])

pub all-left : (units : List Unit16) → AreLeft units units 0
all-left units = record { within = omega arith; some = refl; place = λ some. all (unwrap_or (parts_in units) []) }
  where
    all : (ps : List Part) → last_place ps ≡ place_from 0 (length units - length units) ps
    all [] = refl
    all (p ∷ ps) = omega arith

-- one part less
module _ (first : Unit16) (units rest more : List Unit16) (last : ℕ) (left : AreLeft units (first ∷ rest) last)
    (is : FollowsPart first rest more) where
  abbrev done : ℕ
  done = length units - length (first ∷ rest)

  moved : (ps : List Part) → place_from last done (with_part is.role is.points ps)
      ≡ place_from done (length units - length more) ps
  moved [] = omega arith
  moved (p ∷ ps) =
      let within : length (first ∷ rest) ≤ length units = left.within in
      let long : length (map point_in is.points) ≡ length is.points = length-map is.points point_in in
      omega (arith, within, long, is.counted)

  by_rest : (o : Option (List Part)) → IsSome o
      → place_from last done (unwrap_or (option_map (with_part is.role is.points) o) [])
      ≡ place_from done (length units - length more) (unwrap_or o [])
  by_rest None some = cc
  by_rest (Some ps) some = moved ps

  pub one-less : AreLeft units more done
  one-less =
      let mapped = some_mapped (with_part is.role is.points) (parts_in more) in
      let within : length (first ∷ rest) ≤ length units = left.within in
      record {
        within = omega (arith, within, is.counted);
        some = sym (ap is_some is.all ∙ mapped) ∙ left.some;
        place = λ some.
            left.place (ap is_some is.all ∙ mapped ∙ some)
            ∙ ap (λ o. place_from last done (unwrap_or o [])) is.all ∙ by_rest (parts_in more) some;
      }

-- no units are left
module _ (units left : List Unit16) (last : ℕ) (are : AreLeft units left last) (empty : length left ≡ 0) where
  none : parts_in left ≡ Some []
  none = ap parts_in (nil_from_length left empty) ∙ parts_in-none

  pub all-seen : true ≡ is_some (parts_in units)
  all-seen = sym (ap is_some none) ∙ are.some

  pub last-seen : last ≡ last_place (unwrap_or (parts_in units) [])
  last-seen = sym (are.place (ap is_some none)
      ∙ ap (λ o. place_from last (length units - length left) (unwrap_or o [])) none)
