-- The units of parts that are free or used up.
use Rattle.std.proofs.Common.{◌≡◌, ℕ, zero, suc, ◌+◌, ◌-◌, ◌^◌, ◌<◌, ◌≤◌, Bool, true, false, List, [], ◌∷◌}
use Rattle.std.proofs.Common.{◌++◌, length, take, drop, Some, None, refl, sym, ap, ◌∙◌, arith}
use Rattle.std.proofs.Common.{append_assoc, append-nil}
use Rattle.std.specs.Prelude.{◌==◌, slice_index, slice_set, slice_get}
use Rattle.std.specs.List.{list_any}
use Rattle.std.proofs.lemmas.List.{length-append, take_at, drop_at}
use Rattle.std.proofs.lemmas.Bool.{or_parts, or_from}
use Rattle.std.proofs.lemmas.Option.{none-some, same_Some}
use Rattle.feature_model.specs.Rings.{last_node}
use Rattle.byteorder.specs.Endian.{big_number}
use Rattle.byteorder.specs.Numbers.{big_number-reads_back}
use Rattle.mf_base.specs.Spelling.{big_endian}
use Rattle.mf_base.specs.declared.kind.Role.{Role}
use Rattle.mf_rows.specs.Fields.{field_bytes, number}
use Rattle.mf_rows.specs.Units.{Unit16, role_number, point_in}
use Rattle.ring_assembly.specs.Marked.{State, free, used, Marked, state_number, state_unit, marked_units, all_units}
use Rattle.ring_assembly.specs.Marked.{AreMarked, IsFront, is_free, points_in}
use Rattle.ring_assembly.specs.Found.{FindsFirst, Passed}
use Rattle.ring_assembly.specs.declared.parts.Found.{Found}

-- ---- the unit of a part

pub points-told : (state : State) (points : ℕ) (unit : Unit16) → points < 2 ^ 64 → unit ≡ state_unit state points
    → big_number 8 (drop 1 unit) ≡ points
unfolding state_unit big_endian
points-told state points unit few is =
    ap (λ u. big_number 8 (drop 1 u)) is ∙ big_number-reads_back 8 points (field_bytes (number 7 0) ++ []) few

pub state-told : (state : State) (points : ℕ) (unit : Unit16) → unit ≡ state_unit state points
    → slice_index unit 0 ≡ state_number state
unfolding state_unit big_endian
state-told (free Role.Outer) points unit is = ap (λ u. slice_index u 0) is
state-told (free Role.Inner) points unit is = ap (λ u. slice_index u 0) is
state-told used points unit is = ap (λ u. slice_index u 0) is

pub used-unit : (state : State) (points : ℕ) (unit : Unit16) → unit ≡ state_unit state points
    → slice_set unit 0 2 ≡ state_unit used points
unfolding state_unit big_endian
used-unit state points unit is = ap (λ u. slice_set u 0 2) is

pub free-is : (role : Role) (state : State) → (state_number state == role_number role) ≡ is_free role state
free-is Role.Outer (free Role.Outer) = refl
free-is Role.Outer (free Role.Inner) = refl
free-is Role.Inner (free Role.Outer) = refl
free-is Role.Inner (free Role.Inner) = refl
free-is Role.Outer used = refl
free-is Role.Inner used = refl

-- ---- units of parts one after another

pub all-append : (xs ys : List Marked) → all_units (xs ++ ys) ≡ all_units xs ++ all_units ys
all-append [] ys = refl
all-append (m ∷ xs) ys = ap (λ us. marked_units m ++ us) (all-append xs ys)
    ∙ sym (append_assoc (marked_units m) (all_units xs) (all_units ys))

-- the units behind the first one
module _ (m : Marked) (more : List Marked) (first : Unit16) (rest : List Unit16)
    (is : first ∷ rest ≡ all_units (m ∷ more)) where
  pub head-is : first ≡ state_unit m.state (length m.units)
  head-is = ap (λ (us : List Unit16). slice_first us) is
    where
      slice_first : List Unit16 → Unit16
      slice_first [] = []
      slice_first (u ∷ us) = u

  tail-is : rest ≡ m.units ++ all_units more
  tail-is = ap (λ (us : List Unit16). drop 1 us) is

  module _ (count : ℕ) (counted : count ≡ length m.units) where
    pub front-fits : count ≤ length rest
    front-fits = omega (arith, counted, ap length tail-is, length-append m.units (all_units more))

    pub front-is : (state : ℕ) → state ≡ state_number m.state
        → IsFront m more state (take count rest) (drop count rest)
    front-is state is_state = (
      is_state,
      ap (take count) tail-is ∙ take_at m.units (all_units more) count (sym counted),
      ap (drop count) tail-is ∙ drop_at m.units (all_units more) count (sym counted),
    )

-- the first of units that are those of parts
module _ (units : List Unit16) (first : Unit16) (rest : List Unit16) (whole : units ≡ first ∷ rest)
    (few : length units < 2 ^ 64) (count : ℕ)
    (told : (state : State) (points : ℕ) → points < 2 ^ 64 → first ≡ state_unit state points → count ≡ points) where
  module _ (m : Marked) (more : List Marked) (is : units ≡ all_units (m ∷ more)) where
    here : first ∷ rest ≡ all_units (m ∷ more)
    here = sym whole ∙ is

    counted : count ≡ length m.units
    counted = told m.state (length m.units)
        (omega (arith, few, ap length is, length-append m.units (all_units more)))
        (head-is m more first rest here)

    pub room-here : count ≤ length rest
    room-here = front-fits m more first rest here count counted

    pub front-here : (state : ℕ) → state ≡ slice_index first 0 → IsFront m more state (take count rest) (drop count rest)
    front-here state is_state = front-is m more first rest here count counted state
        (is_state ∙ state-told m.state (length m.units) first (head-is m more first rest here))

  module _ (marked : AreMarked units) where
    by_parts : (P : Type 0) → ((m : Marked) (more : List Marked) → units ≡ all_units (m ∷ more) → P) → P
    by_parts P then = of_list marked.0 marked.1
      where
        of_list : (parts : List Marked) → units ≡ all_units parts → P
        of_list [] is = absurd (omega (arith, ap length (sym whole ∙ is)))
        of_list (m ∷ more) is = then m more is

    pub room-first : count ≤ length rest
    room-first = by_parts (count ≤ length rest) room-here

    pub rest-first : AreMarked (drop count rest)
    rest-first = by_parts (AreMarked (drop count rest)) (λ m more is. (
      more,
      (front-here m more is (slice_index first 0)
          refl).2,
    ))

-- ---- looking for a part

none-more : (test : Marked → Bool) (xs : List Marked) (m : Marked) → list_any test xs ≡ false → test m ≡ false
    → list_any test (xs ++ m ∷ []) ≡ false
none-more test [] m none not_m = or_from (test m) false not_m refl
none-more test (x ∷ xs) m none not_m =
    let both = or_parts (test x) (list_any test xs) none in
    or_from (test x) (list_any test (xs ++ m ∷ [])) both.0 (none-more test xs m both.1 not_m)

module _ (test : Marked → Bool) (parts : List Marked) (left : List Unit16) (count : ℕ)
    (passed : Passed test parts left count) where
  -- what is known of the next part, whatever it is
  abbrev Tells : List Unit16 → List Unit16 → Bool → Type 0
  Tells points rest passes = (m : Marked) (more : List Marked) → left ≡ all_units (m ∷ more)
      → (points ≡ m.units) × (rest ≡ all_units more) × (passes ≡ test m)

  pub passed-on : (points rest : List Unit16) (passes : Bool) → length rest < length left → Tells points rest passes
      → passes ≡ false → Passed test parts rest (count + 1)
  passed-on points rest passes less tells fails = by_rest passed.0 passed.1 passed.2 passed.3 passed.4 passed.5
    where
      by_rest : (before behind : List Marked) → parts ≡ before ++ behind → left ≡ all_units behind
          → count ≡ length before → list_any test before ≡ false → Passed test parts rest (count + 1)
      by_rest before [] whole units place none = absurd (omega (arith, less, ap length units))
      by_rest before (m ∷ more) whole units place none =
          let told = tells m more units in (
            before ++ m ∷ [],
            more,
            whole ∙ sym (append_assoc before (m ∷ []) more),
            told.1,
            omega (arith, place, length-append before (m ∷ [])),
            none-more test before m none (sym told.2 ∙ fails),
          )

  pub found-here : (points rest all : List Unit16) (passes : Bool) (found : Found) → length rest < length left
      → Tells points rest passes → passes ≡ true → all ≡ all_units parts → found.at ≡ length all - length left
      → found.points ≡ length points → found.number ≡ count → FindsFirst test parts (Some found)
  found-here points rest all passes found less tells holds all_is at_is points_are number_is =
      by_rest passed.0 passed.1 passed.2 passed.3 passed.4 passed.5
    where
      by_rest : (before behind : List Marked) → parts ≡ before ++ behind → left ≡ all_units behind
          → count ≡ length before → list_any test before ≡ false → FindsFirst test parts (Some found)
      by_rest before [] whole units place none = absurd (omega (arith, less, ap length units))
      by_rest before (m ∷ more) whole units place none =
          let told = tells m more units in
          let long : length all ≡ length (all_units before) + length left =
          ap length (all_is ∙ ap all_units whole ∙ all-append before (m ∷ more))
          ∙ length-append (all_units before) (all_units (m ∷ more))
          ∙ ap (λ (us : List Unit16). length (all_units before) + length us) (sym units) in (
            before,
            m,
            more,
            whole,
            omega (arith, at_is, long),
            points_are ∙ ap length told.0,
            number_is ∙ place,
            none,
            sym told.2 ∙ holds,
          )

  pub none-found : left ≡ [] → FindsFirst test parts None
  none-found empty = by_rest passed.0 passed.1 passed.2 passed.3 passed.5
    where
      by_rest : (before behind : List Marked) → parts ≡ before ++ behind → left ≡ all_units behind
          → list_any test before ≡ false → list_any test parts ≡ false
      by_rest before [] whole units none =
          ap (list_any test) (whole ∙ append-nil before) ∙ none
      by_rest before (m ∷ more) whole units none =
          let e : suc (length (m.units ++ all_units more)) ≡ 0 = ap length (sym units ∙ empty) in
          absurd (omega (arith, e))

pub nothing-passed : (test : Marked → Bool) (parts : List Marked) (units : List Unit16) → units ≡ all_units parts
    → Passed test parts units 0
nothing-passed test parts units is = ([], parts, refl, is, refl, refl)

-- ---- the node of the last point

last-at : (points : List Unit16) (u : Unit16) (k : ℕ) → k + 1 ≡ length points → Some u ≡ slice_get points k
    → (point_in u).node ≡ last_node (points_in points)
last-at [] u k long is = absurd (omega (arith, long))
last-at (x ∷ []) u zero long is = ap (λ (v : Unit16). (point_in v).node) (same_Some u x is)
last-at (x ∷ []) u (suc k) long is = absurd (omega (arith, long))
last-at (x ∷ y ∷ points) u zero long is = absurd (omega (arith, long))
last-at (x ∷ y ∷ points) u (suc k) long is = last-at (y ∷ points) u k (omega (arith, long)) is

pub last-told : (points : List Unit16) (u : Unit16) → Some u ≡ slice_get points (length points - 1)
    → (point_in u).node ≡ last_node (points_in points)
last-told [] u is = absurd (none-some u (sym is))
last-told (x ∷ points) u is = last-at (x ∷ points) u (length (x ∷ points) - 1) (omega arith) is
