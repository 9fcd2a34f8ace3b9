-- A part, or a point of the last part, that is put behind those that units spell.
use Rattle.std.proofs.Common.{◌≡◌, ℕ, zero, suc, ◌+◌, ◌^◌, ◌≤◌, ◌<◌, List, [], ◌∷◌, ◌++◌, length, take, drop, map}
use Rattle.std.proofs.Common.{Option, Some, None, refl, sym, ap, ◌∙◌, arith, subst}
use Rattle.std.specs.Prelude.{is_some, IsSome, option_map, unwrap_or, slice_index_or, slice_set}
use Rattle.std.proofs.lemmas.List.{length-append, length-drop, length-take, length-map, map-append, take_all, drop_all}
use Rattle.std.proofs.lemmas.List.{take-append-le, drop-append-le, take-set-le, drop-set-add, get_or-drop, length-set}
use Rattle.mf_base.specs.declared.kind.Role.{Role}
use Rattle.feature_model.specs.Points.{Part}
use Rattle.mf_rows.specs.Units.{Unit16, point_in, part_unit, part_in, parts_in, with_part, shown_part}
use Rattle.mf_rows.specs.RecordUnits.{last_place}
use Rattle.mf_rows.specs.Changes.{change_last, with_point}
use Rattle.mf_rows.proofs.Parts.{FirstPart, first_part, no_part_first, parts_in-none}
use Rattle.mf_rows.proofs.PartsAgain.{part_told}
use Rattle.mf_rows.proofs.Walked.{part-behind}

-- What is known of units that begin with the unit of a part, where they spell parts.
record IsFirst (first : Unit16) (units : List Unit16) (parts : List Part) : Type 0 where
  role : Role
  n : ℕ
  told : part_in first ≡ Some (role, n)
  within : n ≤ length units
  more : List Part
  rest : parts_in (drop n units) ≡ Some more
  all : parts ≡ with_part role (take n units) more

some_is : (a b : List Part) → Some a ≡ Some b → a ≡ b
some_is a b e = ap (λ o. unwrap_or o a) e

first-of : (first : Unit16) (units : List Unit16) (parts : List Part) → parts_in (first ∷ units) ≡ Some parts
    → IsFirst first units parts
first-of first units parts is = by_part (part_in first) refl
  where
    some : IsSome (parts_in (first ∷ units))
    some = ap is_some is

    by_rest : (role : Role) (n : ℕ) → part_in first ≡ Some (role, n) → n ≤ length units → (o : Option (List Part))
        → parts_in (drop n units) ≡ o → IsSome o
        → parts_in (first ∷ units) ≡ option_map (with_part role (take n units)) o → IsFirst first units parts
    by_rest role n told within None rest there all = cc
    by_rest role n told within (Some more) rest there all = record {
      role = role;
      n = n;
      told = told;
      within = within;
      more = more;
      rest = rest;
      all = some_is parts (with_part role (take n units) more) (sym is ∙ all);
    }

    by_part : (p : Option (Role × ℕ)) → part_in first ≡ p → IsFirst first units parts
    by_part None none = absurd (no_part_first first units none some)
    by_part (Some p) told =
        let found : FirstPart p.0 p.1 units (parts_in (first ∷ units)) = first_part first units p.0 p.1 told some in
        by_rest p.0 p.1 told found.within (parts_in (drop p.1 units)) refl found.rest found.all_is

-- no parts, no units
pub none-spelled : (units : List Unit16) → parts_in units ≡ Some [] → units ≡ []
none-spelled [] is = refl
none-spelled (first ∷ units) is =
    let one = first-of first units [] is in
    let some : with_part one.role (take one.n units) one.more ≡ [] = sym one.all in
    cc

-- ---- a part behind the others

pub part-put : (most : ℕ) (units : List Unit16) (parts : List Part) (role : Role) → length units ≤ most
    → parts_in units ≡ Some parts
    → parts_in (units ++ part_unit role 0 ∷ []) ≡ Some (parts ++ shown_part role [] ∷ [])
part-put most [] parts role few is =
    let none : [] ≡ parts = some_is [] parts (sym parts_in-none ∙ is) in
    part-behind (part_unit role 0) [] role 0 (part_told role 0 (omega arith)) (omega arith)
    ∙ ap (option_map (with_part role [])) parts_in-none
    ∙ ap (λ ps. Some (ps ++ shown_part role [] ∷ [])) none
part-put zero (first ∷ units) parts role few is = absurd (omega (arith, few))
part-put (suc most) (first ∷ units) parts role few is =
    let one = first-of first units parts is in
    let x : Unit16 = part_unit role 0 in
    let front : take one.n (units ++ x ∷ []) ≡ take one.n units = take-append-le one.n units (x ∷ []) one.within in
    let back : drop one.n (units ++ x ∷ []) ≡ drop one.n units ++ x ∷ [] =
    drop-append-le one.n units (x ∷ []) one.within in
    let later : parts_in (drop one.n units ++ x ∷ []) ≡ Some (one.more ++ shown_part role [] ∷ []) =
    part-put most (drop one.n units) one.more role (omega (arith, few, length-drop one.n units)) one.rest in
    part-behind first (units ++ x ∷ []) one.role one.n one.told
    (omega (arith, one.within, length-append units (x ∷ [])))
    ∙ ap (λ us. option_map (with_part one.role us) (parts_in (drop one.n (units ++ x ∷ [])))) front
    ∙ ap (λ us. option_map (with_part one.role (take one.n units)) (parts_in us)) back
    ∙ ap (option_map (with_part one.role (take one.n units))) later
    ∙ ap (λ ps. Some (ps ++ shown_part role [] ∷ [])) (sym one.all)

-- ---- a point behind those of the last part

-- What is known of the last part that units spell: its unit, and what a point more makes of it.
pub record IsLast (units : List Unit16) (parts : List Part) : Type 0 where
  pub role : Role
  pub n : ℕ
  pub told : part_in (slice_index_or units (last_place parts) []) ≡ Some (role, n)
  pub end : last_place parts + 1 + n ≡ length units
  pub put : (u : Unit16) → parts_in (slice_set units (last_place parts) (part_unit role (n + 1)) ++ u ∷ [])
      ≡ Some (change_last (with_point (point_in u)) parts)

-- it is the only one
module _ (first : Unit16) (units : List Unit16) (role : Role) (n : ℕ) (told : part_in first ≡ Some (role, n))
    (within : n ≤ length units) (few : length units < 2 ^ 63) (rest : parts_in (drop n units) ≡ Some []) where
  ends : n ≡ length units
  ends = let none : length (drop n units) ≡ 0 = ap length (none-spelled (drop n units) rest) in
      omega (arith, none, within, length-drop n units)

  only-put : (u : Unit16) → parts_in (part_unit role (n + 1) ∷ (units ++ u ∷ []))
      ≡ Some (change_last (with_point (point_in u)) (with_part role (take n units) []))
  only-put u =
      let us : List Unit16 = units ++ u ∷ [] in
      let long : length us ≡ n + 1 = omega (arith, ends, length-append units (u ∷ [])) in
      let all : take (n + 1) us ≡ us = take_all (n + 1) us (omega (arith, long)) in
      let none : drop (n + 1) us ≡ [] = drop_all (n + 1) us (omega (arith, long)) in
      let same : take n units ≡ units = take_all n units (omega (arith, ends)) in
      let points : map point_in us ≡ map point_in (take n units) ++ point_in u ∷ [] =
      map-append point_in units (u ∷ []) ∙ ap (λ vs. map point_in vs ++ point_in u ∷ []) (sym same) in
      part-behind (part_unit role (n + 1)) us role (n + 1) (part_told role (n + 1) (omega (arith, ends, few)))
      (omega (arith, long))
      ∙ ap (λ vs. option_map (with_part role vs) (parts_in (drop (n + 1) us))) all
      ∙ ap (λ vs. option_map (with_part role us) (parts_in vs)) none
      ∙ ap (option_map (with_part role us)) parts_in-none
      ∙ ap (λ ps. Some (shown_part role ps ∷ [])) points

  only-last : IsLast (first ∷ units) (with_part role (take n units) [])
  only-last = record { role = role; n = n; told = told; end = omega (arith, ends); put = only-put }

-- it stands behind a part
module _ (first : Unit16) (units : List Unit16) (role : Role) (n : ℕ) (told : part_in first ≡ Some (role, n))
    (within : n ≤ length units) (q : Part) (qs : List Part) (last : IsLast (drop n units) (q ∷ qs)) where
  abbrev all : List Part
  all = with_part role (take n units) (q ∷ qs)

  place : last_place all ≡ suc (n + last_place (q ∷ qs))
  place = omega (arith, within, length-map (take n units) point_in, length-take n units)

  later-told : part_in (slice_index_or (first ∷ units) (last_place all) []) ≡ Some (last.role, last.n)
  later-told = ap (λ k. part_in (slice_index_or (first ∷ units) k [])) place
      ∙ ap part_in (sym (get_or-drop n units (last_place (q ∷ qs)) [])) ∙ last.told

  later-put : (u : Unit16)
      → parts_in (slice_set (first ∷ units) (last_place all) (part_unit last.role (last.n + 1)) ++ u ∷ [])
      ≡ Some (change_last (with_point (point_in u)) all)
  later-put u =
      let x : Unit16 = part_unit last.role (last.n + 1) in
      let put : List Unit16 = slice_set units (n + last_place (q ∷ qs)) x in
      let long : length put ≡ length units = length-set units (n + last_place (q ∷ qs)) x in
      let fits : n ≤ length put = omega (arith, long, within) in
      let front : take n (put ++ u ∷ []) ≡ take n units =
      take-append-le n put (u ∷ []) fits ∙ take-set-le n units (n + last_place (q ∷ qs)) x (omega arith) in
      let back : drop n (put ++ u ∷ []) ≡ slice_set (drop n units) (last_place (q ∷ qs)) x ++ u ∷ [] =
      drop-append-le n put (u ∷ []) fits
      ∙ ap (λ us. us ++ u ∷ []) (drop-set-add n units (last_place (q ∷ qs)) x) in
      ap (λ k. parts_in (slice_set (first ∷ units) k x ++ u ∷ [])) place
      ∙ part-behind first (put ++ u ∷ []) role n told (omega (arith, fits, length-append put (u ∷ [])))
      ∙ ap (λ us. option_map (with_part role us) (parts_in (drop n (put ++ u ∷ [])))) front
      ∙ ap (λ us. option_map (with_part role (take n units)) (parts_in us)) back
      ∙ ap (option_map (with_part role (take n units))) (last.put u)

  later-last : IsLast (first ∷ units) all
  later-last = record {
    role = last.role;
    n = last.n;
    told = later-told;
    end = omega (arith, place, last.end, within, length-drop n units);
    put = later-put;
  }

pub last-in : (most : ℕ) (units : List Unit16) (parts : List Part) → length units ≤ most → length units < 2 ^ 63
    → parts_in units ≡ Some parts → 0 < length parts → IsLast units parts
last-in most [] parts few small is some =
    let none : [] ≡ parts = some_is [] parts (sym parts_in-none ∙ is) in
    let zero-long : 0 ≡ length parts = ap length none in
    absurd (omega (arith, zero-long, some))
last-in zero (first ∷ units) parts few small is some = absurd (omega (arith, few))
last-in (suc most) (first ∷ units) parts few small is some = by_more one.more one.rest one.all
    (λ q qs rest. last-in most (drop one.n units) (q ∷ qs) (omega (arith, few, length-drop one.n units))
    (omega (arith, small, length-drop one.n units)) rest (omega arith))
  where
    one : IsFirst first units parts
    one = first-of first units parts is

    by_more : (more : List Part) → parts_in (drop one.n units) ≡ Some more
        → parts ≡ with_part one.role (take one.n units) more
        → ((q : Part) (qs : List Part) → parts_in (drop one.n units) ≡ Some (q ∷ qs)
        → IsLast (drop one.n units) (q ∷ qs))
        → IsLast (first ∷ units) parts
    by_more [] rest all again = subst (IsLast (first ∷ units)) (sym all)
        (only-last first units one.role one.n one.told one.within (omega (arith, small)) rest)
    by_more (q ∷ qs) rest all again = subst (IsLast (first ∷ units)) (sym all)
        (later-last first units one.role one.n one.told one.within q qs (again q qs rest))
