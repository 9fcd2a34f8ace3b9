-- What is kept of a record is the record that its units spell.
use Rattle.std.proofs.Common.{◌≡◌, ◌⊎◌, inl, inr, ℕ, zero, suc, ◌+◌, ◌*◌, ◌/◌, ◌^◌, ◌≤◌, ◌<◌, true, false}
use Rattle.std.proofs.Common.{List, [], ◌∷◌, length, drop}
use Rattle.std.proofs.Common.{take, Option, Some, None, refl, sym, ap, ◌∙◌, arith, subst}
use Rattle.std.specs.Prelude.{is_some, IsSome, IfSome, nat_eq, nat_le, Bool}
use Rattle.std.specs.Bool.{then_some}
use Rattle.std.specs.List.{AllByRecursion}
use Rattle.std.proofs.lemmas.Bool.{cases_Bool, and_parts, leb-true, le-leb, lt-leb, eqb-true}
use Rattle.std.proofs.lemmas.List.{drop_all, length-drop, length-take, length-append, length-map}
use Rattle.std.proofs.lemmas.Slice.Eq.{bytes_eq-Decides}
use Rattle.std.specs.Prelude.{map, option_map, unwrap_or}
use Rattle.mf_base.specs.declared.kind.EntityKind.{EntityKind}
use Rattle.mf_base.specs.declared.kind.Role.{Role}
use Rattle.mf_rows.specs.Units.{Unit16, point_in, part_unit, part_in, with_part, next_parts}
use Rattle.mf_rows.specs.Units.{parts_within, parts_in}
use Rattle.mf_rows.specs.Heads.{HeadTold, head_in}
use Rattle.mf_rows.specs.Records.{LiesIn, texts_told, spot_in, drawn_parts}
use Rattle.mf_rows.specs.RecordUnits.{slot_sizes, sizes_total, spans_from, units_for, bytes_in, are_sizes, are_zeros}
use Rattle.mf_rows.specs.RecordUnits.{is_line, is_drawn, is_behind, record_behind, record_in}
use Rattle.mf_rows.specs.RecordUnits.{AreWide}
use Rattle.mf_rows.specs.RecordUnits.{text_bytes, spot_count, parts_count, last_place, record_of}
use Rattle.mf_rows.specs.Told.{IsTold, head_told}
use Rattle.mf_rows.specs.declared.head.TextSlot.{TextSlot}
use Rattle.mf_rows.specs.declared.told.Told.{Told}
use Rattle.feature_model.specs.Points.{Part}
use Rattle.mf_rows.proofs.Parts.{parts_in-none, some_of_map}
use Rattle.mf_rows.proofs.PartsAgain.{part_told}
use Rattle.mf_rows.proofs.Walked.{part-behind}

-- texts one after another lie within their bytes
pub spans-lie : (bound at : ℕ) (sizes : List (TextSlot × ℕ)) → at + sizes_total sizes ≤ bound
    → AllByRecursion (LiesIn bound) (spans_from at sizes)
spans-lie bound at [] within = tt
spans-lie bound at (s ∷ sizes) within =
    let all : at + (s.1 + sizes_total sizes) ≤ bound = within in
    by_size all (cases_Bool (nat_eq s.1 0)) (spans-lie bound at sizes (omega (arith, all)))
    (spans-lie bound (at + s.1) sizes (omega (arith, all)))
  where
    by_size : at + (s.1 + sizes_total sizes) ≤ bound → (nat_eq s.1 0 ≡ true) ⊎ (nat_eq s.1 0 ≡ false)
        → AllByRecursion (LiesIn bound) (spans_from at sizes)
        → AllByRecursion (LiesIn bound) (spans_from (at + s.1) sizes)
        → AllByRecursion (LiesIn bound) (spans_from at (s ∷ sizes))
    by_size all (inl e) same more = rw e same
    by_size all (inr e) same more = rw e (omega (arith, all), more)

pub line-parts : (first : Unit16) (points : List Unit16) → length points < 2 ^ 63 → is_line (first ∷ points) ≡ true
    → parts_in (first ∷ points) ≡ Some (with_part Role.Outer (take (length points) points) [])
line-parts first points few is =
    let n : ℕ = length points in
    let unit : first ≡ part_unit Role.Outer n = (bytes_eq-Decides first (part_unit Role.Outer n)).0 is in
    let told : part_in first ≡ Some (Role.Outer, n) =
    ap part_in unit ∙ part_told Role.Outer n (omega (arith, few)) in
    let none : drop n points ≡ [] = drop_all n points (omega arith) in
    part-behind first points Role.Outer n told (omega arith)
    ∙ ap (λ us. option_map (with_part Role.Outer (take n points)) (parts_in us)) none
    ∙ ap (option_map (with_part Role.Outer (take n points))) parts_in-none

line-some : (units : List Unit16) → length units < 2 ^ 63 → is_line units ≡ true → IsSome (parts_in units)
line-some [] few is = ap is_some parts_in-none
line-some (first ∷ points) few is = ap is_some (line-parts first points (omega (arith, few)) is)

-- the part of a way stands first
line-last : (units : List Unit16) → length units < 2 ^ 63 → is_line units ≡ true
    → 0 ≡ last_place (unwrap_or (parts_in units) [])
line-last [] few is = sym (ap (λ o. last_place (unwrap_or o [])) parts_in-none)
line-last (first ∷ points) few is =
    sym (ap (λ o. last_place (unwrap_or o [])) (line-parts first points (omega (arith, few)) is))

pub line-place : (b : Bool) (units : List Unit16) (o : Option ℕ) → b ≡ is_line units → length units < 2 ^ 63
    → o ≡ then_some b 0 → IfSome o (λ n. n ≡ last_place (unwrap_or (parts_in units) []))
line-place true units o line few is = rw is (line-last units few (sym line))
line-place false units o line few is = rw is tt

drawn-some : (kind : EntityKind) (units : List Unit16) → length units < 2 ^ 63 → is_drawn kind units ≡ true
    → IsSome (drawn_parts kind units)
drawn-some EntityKind.Node units few is = refl
drawn-some EntityKind.Way units few is = line-some units few is
drawn-some EntityKind.Relation units few is = is

pub enough : (n : ℕ) → 0 + n ≤ 16 * ((n + 15) / 16)
enough n = omega arith

-- ---- how many units there are

later-wide : (u : Unit16) (units : List Unit16) → AreWide (u ∷ units) → AreWide units
later-wide u units wide i below = wide (suc i) (omega (arith, below))

pub wide-bytes : (n : ℕ) (units : List Unit16) → AreWide units → n ≤ length units
    → length (bytes_in (take n units)) ≡ 16 * n
wide-bytes zero units wide within = refl
wide-bytes (suc n) [] wide within = absurd (omega (arith, within))
wide-bytes (suc n) (u ∷ units) wide within =
    let one : length u ≡ 16 = wide 0 (omega arith) in
    let more : length (bytes_in (take n units)) ≡ 16 * n =
    wide-bytes n units (later-wide u units wide) (omega (arith, within)) in
    omega (arith, one, more, length-append u (bytes_in (take n units)))

-- the texts that spans name have the lengths of the spans
texts-long : (block : List ℕ) (at : ℕ) (sizes : List (TextSlot × ℕ)) → at + sizes_total sizes ≤ length block
    → length (text_bytes (texts_told block (spans_from at sizes))) ≡ sizes_total sizes
texts-long block at [] within = refl
texts-long block at (s ∷ sizes) within =
    by_size within (cases_Bool (nat_eq s.1 0)) (texts-long block at sizes (omega (arith, within)))
    (texts-long block (at + s.1) sizes (omega (arith, within)))
  where
    by_size : at + (s.1 + sizes_total sizes) ≤ length block → (nat_eq s.1 0 ≡ true) ⊎ (nat_eq s.1 0 ≡ false)
        → length (text_bytes (texts_told block (spans_from at sizes))) ≡ sizes_total sizes
        → length (text_bytes (texts_told block (spans_from (at + s.1) sizes))) ≡ sizes_total sizes
        → length (text_bytes (texts_told block (spans_from at (s ∷ sizes)))) ≡ s.1 + sizes_total sizes
    by_size all (inl e) same more =
        let none : s.1 ≡ 0 = eqb-true s.1 0 e in
        let sum : sizes_total sizes ≡ s.1 + sizes_total sizes = omega (arith, none) in
        rw e (same ∙ sum)
    by_size all (inr e) same more =
        let text : List ℕ = take s.1 (drop at block) in
        let long : length text ≡ s.1 = omega (arith, all, length-take s.1 (drop at block), length-drop at block) in
        let rest : List ℕ = text_bytes (texts_told block (spans_from (at + s.1) sizes)) in
        rw e (omega (arith, long, more, length-append text rest))

-- units of parts are as many as the parts have
mapped-long : (role : Role) (points : List Unit16) (more : Option (List Part)) (n : ℕ) → IsSome more
    → parts_count (unwrap_or more []) ≡ n
    → parts_count (unwrap_or (option_map (with_part role points) more) []) ≡ 1 + length points + n
mapped-long role points None n is many = cc
mapped-long role points (Some parts) n is many =
    let long : length (map point_in points) ≡ length points = length-map points point_in in
    omega (arith, long, many)

pub parts-long : (most : ℕ) (units : List Unit16) → length units ≤ most → IsSome (parts_within most units)
    → parts_count (unwrap_or (parts_within most units) []) ≡ length units
unfolding parts_within
parts-long zero [] few is = refl
parts-long zero (first ∷ units) few is = absurd (omega (arith, few))
parts-long (suc most) [] few is = refl
parts-long (suc most) (first ∷ units) few is =
    by_part (part_in first) is (λ n. parts-long most (drop n units) (omega (arith, few, length-drop n units)))
  where
    by_room : (role : Role) (n : ℕ) → (nat_le n (length units) ≡ true) ⊎ (nat_le n (length units) ≡ false)
        → IsSome (next_parts (Some (role, n)) units (parts_within most))
        → ((n : ℕ) → IsSome (parts_within most (drop n units))
        → parts_count (unwrap_or (parts_within most (drop n units)) []) ≡ length (drop n units))
        → parts_count (unwrap_or (next_parts (Some (role, n)) units (parts_within most)) []) ≡ suc (length units)
    by_room role n (inl e) is more =
        let rest : Option (List Part) = parts_within most (drop n units) in
        let holds : next_parts (Some (role, n)) units (parts_within most)
        ≡ option_map (with_part role (take n units)) rest = rw e refl in
        let mapped : IsSome (option_map (with_part role (take n units)) rest) = subst IsSome holds is in
        let some : IsSome rest = some_of_map (with_part role (take n units)) rest mapped in
        let within : n ≤ length units = leb-true n (length units) e in
        rw e (mapped-long role (take n units) rest (length (drop n units)) some (more n some)
        ∙ omega (arith, within, length-take n units, length-drop n units))
    by_room role n (inr e) is more =
        let falls : next_parts (Some (role, n)) units (parts_within most) ≡ None = rw e refl in
        let none : IsSome {T = List Part} None = subst IsSome falls is in
        cc

    by_part : (p : Option (Role × ℕ)) → IsSome (next_parts p units (parts_within most))
        → ((n : ℕ) → IsSome (parts_within most (drop n units))
        → parts_count (unwrap_or (parts_within most (drop n units)) []) ≡ length (drop n units))
        → parts_count (unwrap_or (next_parts p units (parts_within most)) []) ≡ suc (length units)
    by_part None is more = let none : IsSome {T = List Part} None = is in cc
    by_part (Some p) is more = by_room p.0 p.1 (cases_Bool (nat_le p.1 (length units))) is more

-- what an object is drawn from has as many units
drawn-long : (kind : EntityKind) (units : List Unit16) → is_drawn kind units ≡ true
    → IsSome (drawn_parts kind units)
    → spot_count (spot_in kind units) + parts_count (unwrap_or (drawn_parts kind units) []) ≡ length units
drawn-long EntityKind.Node [] is some = refl
drawn-long EntityKind.Node (u ∷ []) is some = refl
drawn-long EntityKind.Node (u ∷ v ∷ units) is some =
    let few : suc (suc (length units)) ≤ 1 = leb-true (suc (suc (length units))) 1 is in
    absurd (omega (arith, few))
drawn-long EntityKind.Way units is some =
    let parts : parts_count (unwrap_or (parts_in units) []) ≡ length units =
    parts-long (length units) units (omega arith) some in
    omega (arith, parts)
drawn-long EntityKind.Relation units is some =
    let parts : parts_count (unwrap_or (parts_in units) []) ≡ length units =
    parts-long (length units) units (omega arith) some in
    omega (arith, parts)

drop-few : (n : ℕ) (units : List Unit16) → length units < 2 ^ 63 → length (drop n units) < 2 ^ 63
drop-few n units few = omega (arith, few, length-drop n units)

pub wide-drop : (k : ℕ) (units : List Unit16) → AreWide units → AreWide (drop k units)
wide-drop zero units wide = wide
wide-drop (suc k) [] wide = wide
wide-drop (suc k) (u ∷ units) wide = wide-drop k units (later-wide u units wide)

-- the texts of a head take the units that are told for them
pub text-count : (t : HeadTold) (units : List Unit16) → AreWide units
    → units_for (sizes_total (slot_sizes t)) ≤ length (drop 10 units)
    → units_for (length (text_bytes (record_of t (units_for (sizes_total (slot_sizes t))) (drop 10 units)).texts))
    ≡ units_for (sizes_total (slot_sizes t))
text-count t units wide fits =
    let n : ℕ = units_for (sizes_total (slot_sizes t)) in
    let bytes : length (bytes_in (take n (drop 10 units))) ≡ 16 * n =
    wide-bytes n (drop 10 units) (wide-drop 10 units wide) fits in
    let all : 0 + sizes_total (slot_sizes t) ≤ length (bytes_in (take n (drop 10 units))) =
    rw bytes (enough (sizes_total (slot_sizes t))) in
    ap units_for (texts-long (bytes_in (take n (drop 10 units))) 0 (slot_sizes t) all)

-- a head, and units behind it that are those of its texts and of what it is drawn from
module _ (t : HeadTold) (units : List Unit16) where
  abbrev texts_units : ℕ
  texts_units = units_for (sizes_total (slot_sizes t))

  pub told-is : (told : Told) → AreWide units → length units < 2 ^ 63 → told.head ≡ t.head
      → told.lengths ≡ t.texts → told.texts ≡ texts_units
      → told.part ≡ last_place (unwrap_or (drawn_parts t.head.kind (drop texts_units units)) [])
      → is_behind t units ≡ true → IsTold told units (record_behind units (Some t))
  told-is told wide few head-is lengths-are texts-are part-is holds =
      let n : ℕ = texts_units in
      let third = and_parts _ (is_drawn t.head.kind (drop n units)) holds in
      let second = and_parts _ (are_zeros (drop (sizes_total (slot_sizes t)) (bytes_in (take n units)))) third.0 in
      let first = and_parts (are_sizes t) (nat_le n (length units)) second.0 in
      let drawn : IsSome (drawn_parts t.head.kind (drop n units)) =
      drawn-some t.head.kind (drop n units) (drop-few n units few) third.1 in
      let within : n ≤ length units = leb-true n (length units) first.1 in
      let bytes : length (bytes_in (take n units)) ≡ 16 * n = wide-bytes n units wide within in
      let all : 0 + sizes_total (slot_sizes t) ≤ length (bytes_in (take n units)) =
      rw bytes (enough (sizes_total (slot_sizes t))) in
      let texts_count : units_for (length (text_bytes (record_of t n units).texts)) ≡ n =
      ap units_for (texts-long (bytes_in (take n units)) 0 (slot_sizes t) all) in
      let drawn_count : spot_count (record_of t n units).spot + parts_count (record_of t n units).parts
      ≡ length (drop n units) = drawn-long t.head.kind (drop n units) third.1 drawn in
      record {
        room = rw texts-are (leb-true n (length units) first.1);
        texts = rw (head-is, lengths-are) texts-are;
        same = rw (holds, head-is, lengths-are, texts-are) refl;
        lies = rw (head-is, lengths-are, texts-are)
            (spans-lie (length (bytes_in (take n units))) 0 (slot_sizes t) all);
        drawn = rw (head-is, texts-are) drawn;
        counted = rw (head-is, lengths-are, texts-are)
            (omega (arith, texts_count, drawn_count, within, length-drop n units));
        last = rw (head-is, texts-are) part-is;
      }

-- units of a record
module _ (units : List Unit16) where
  pub too-few : length units < 10 → record_in units ≡ None
  unfolding record_in
  too-few few = rw (lt-leb 10 (length units) few) refl

  module _ (enough_units : 10 ≤ length units) (front rest : List Unit16) (front-is : front ≡ take 10 units)
      (rest-is : rest ≡ drop 10 units) where
    pub no-head : head_in front ≡ None → record_in units ≡ None
    unfolding record_in
    no-head none = rw (le-leb 10 (length units) enough_units, sym front-is, none) refl

    pub behind-head : (t : HeadTold) → head_in front ≡ Some t → record_behind rest (Some t) ≡ record_in units
    unfolding record_in
    behind-head t is =
        ap (λ us. record_behind us (Some t)) rest-is ∙ ap (record_behind (drop 10 units)) (sym is ∙ ap head_in front-is)
        ∙ sym (rw (le-leb 10 (length units) enough_units) refl)

    pub kept-told : (t : HeadTold) → head_in front ≡ Some t → (found : Option Told)
        → IfSome found (λ told. IsTold told rest (record_behind rest (Some t)))
        → IfSome found (λ told. IsTold told (drop 10 units) (record_in units))
    kept-told t is found all =
        subst (λ spelled. IfSome found (λ told. IsTold told (drop 10 units) spelled)) (behind-head t is)
        (subst (λ us. IfSome found (λ told. IsTold told us (record_behind rest (Some t)))) rest-is all)

-- the head that is kept is the one that is read
pub head-kept : (units front : List Unit16) → front ≡ take 10 units → (t : HeadTold) → head_in front ≡ Some t
    → (found : Option Told) → IfSome found (λ told. head_told told ≡ t)
    → IfSome found (λ told. head_in (take 10 units) ≡ Some (head_told told))
head-kept units front front-is t is None all = tt
head-kept units front front-is t is (Some told) all = sym (ap head_in front-is) ∙ is ∙ ap Some (sym all)
