-- What the rows of one relation tell: its parts, and how many points they have.
use Rattle.std.proofs.Common.{◌≡◌, ℕ, suc, ◌+◌, ◌-◌, ◌≤◌, List, [], ◌∷◌, ◌++◌, map, length, take, replicate, Option, Some, None, Bool}
use Rattle.std.proofs.Common.{true, false, if◌then◌else◌, refl, sym, ap, ◌∙◌, inl, inr, arith, append-nil, cond, lt-ltb}
use Rattle.std.specs.Prelude.{filter, filter_map, flat_map, nat_le, nat_lt}
use Rattle.std.specs.List.{AllByRecursion, cons_option, enumerate_from}
use Rattle.std.proofs.lemmas.Bool.Decides.{leb_tells}
use Rattle.std.proofs.lemmas.List.{length-append, length-replicate, length-take, length-map, take_all}
use Rattle.std.proofs.lemmas.List.FromFn.{length-enumerate_from}
use Rattle.mf_base.specs.declared.kind.Role.{Role}
use Rattle.osm_model.specs.Entities.{Entity, Relation}
use Rattle.osm_model.specs.Order.{IsRising}
use Rattle.feature_model.specs.Points.{Point, Part, part_of, relation_parts}
use Rattle.feature_model.proofs.Rising.{all-from}
use Rattle.feature_model.specs.Points.{parts}
use Rattle.feature_model.specs.Weights.{point_count}
use Rattle.feature_model.proofs.Totals.{total, sum-total}
use Rattle.mf_rows.specs.declared.kinds.MemberRow.{MemberRow}
use Rattle.mf_rows.specs.declared.kinds.RelRow.{RelRow}
use Rattle.spill_parts.specs.Handed.{member_row_of, member_rows}
use Rattle.row_runs.specs.Runs.{rows_with, has_rows, HasItsKey}
use Rattle.row_runs.proofs.Flat.{rows_of_each, run_keys-flat}
use Rattle.way_points.specs.PointRows.{point_rows}
use Rattle.member_points.specs.RelRows.{rel_member, blank, held_points, points_with, member_point_rows}
use Rattle.member_points.specs.RelRows.{relation_point_rows, rel_told, role_told, rel_row_of, part_of_run, parts_of_rows}
use Rattle.member_points.proofs.InOrder.{rows_at, IsPointOf, points-own, member_places-rise}
use Rattle.member_points.proofs.Parts.{row_part, parts_of_relation}

-- ---- held points

-- they are as many as there are points
pub held-length : (limit : ℕ) (points : List Point) → length (held_points limit points) ≡ length points
held-length limit points =
    omega (
      arith,
      length-append (take limit points) (replicate (length points - limit) blank),
      length-take limit points,
      length-replicate {A = Point} (length points - limit) blank,
    )

-- and these points, where there is room for all
pub held-all : (limit : ℕ) (points : List Point) → length points ≤ limit → held_points limit points ≡ points
held-all limit points few =
    let none : length points - limit ≡ 0 = omega (arith, few) in
    ap (λ n. take limit points ++ replicate n blank) none
    ∙ append-nil (take limit points)
    ∙ take_all limit points few

-- ---- runs

-- what is made of the rows of each id, of the items that have rows
made_of_each : {W R O : Type 0} (id : W → ℕ) (key : R → ℕ) (f : W → List R) (g : List R → Option O) → g [] ≡ None
    → (all : List R) (ws : List W) → AllByRecursion (λ (w : W). rows_with key (id w) all ≡ f w) ws
    → filter_map (λ (k : ℕ). g (rows_with key k all)) (map id (filter (has_rows f) ws))
    ≡ filter_map (λ (w : W). g (f w)) ws
made_of_each id key f g nothing all [] own = refl
made_of_each {W} {R} {O} id key f g nothing all (w ∷ ws) own = by_rows (f w) own.0 (made_of_each id key f g nothing all ws own.1)
  where
    by_rows : (rows : List R) → rows_with key (id w) all ≡ rows
        → filter_map (λ (k : ℕ). g (rows_with key k all)) (map id (filter (has_rows f) ws))
        ≡ filter_map (λ (w : W). g (f w)) ws
        → filter_map (λ (k : ℕ). g (rows_with key k all))
        (map id (cond (nat_lt 0 (length rows)) (w ∷ filter (has_rows f) ws) (filter (has_rows f) ws)))
        ≡ cons_option (g rows) (filter_map (λ (w : W). g (f w)) ws)
    by_rows [] is more = more ∙ ap (λ o. cons_option o (filter_map (λ (w : W). g (f w)) ws)) (sym nothing)
    by_rows (first ∷ rest) is more =
        rw (lt-ltb 0 (suc (length rest)) (omega arith))
        (ap (λ l. cons_option (g l) (filter_map (λ (k : ℕ). g (rows_with key k all)) (map id (filter (has_rows f) ws)))) is
        ∙ ap (cons_option (g (first ∷ rest))) more)

-- ---- the part of a member

told_again : (m : MemberRow) (n : ℕ) (points : List Point)
    → map rel_told (map (rel_row_of m) (enumerate_from n points)) ≡ points
told_again m n [] = refl
told_again m n (p ∷ points) = ap (λ l. p ∷ l) (told_again m (n + 1) points)

part_of_rows : (m : MemberRow) (points : List Point)
    → part_of_run (rows_at m points) ≡ part_of (role_told m.role) points
part_of_rows m [] = refl
part_of_rows m (p ∷ points) = ap (part_of (role_told m.role)) (told_again m 0 (p ∷ points))

alike : {A B : Type 0} (f g : A → Option B) → ((a : A) → f a ≡ g a) → (xs : List A) → filter_map f xs ≡ filter_map g xs
alike f g same [] = refl
alike f g same (x ∷ xs) = rw (same x, alike f g same xs) refl

-- the part of a member, of the points that are held
abbrev held_part : ℕ → List Entity → MemberRow → Option Part
held_part limit entities m =
    part_of (role_told m.role) (held_points limit (points_with (point_rows entities) m.way))

module _ (limit : ℕ) (entities : List Entity) where
  -- the rows of a member are of its place
  place-own : (m : MemberRow)
      → HasItsKey (λ (m : MemberRow). m.member) rel_member (member_point_rows limit entities) m
  place-own m = places (member_point_rows limit entities m)
      (points-own m (held_points limit (points_with (point_rows entities) m.way)))
    where
      places : (rows : List RelRow) → AllByRecursion (IsPointOf m) rows
          → AllByRecursion (λ (r : RelRow). rel_member r ≡ m.member) rows
      places [] own = tt
      places (r ∷ rows) own = (own.0.1, places rows own.1)

  -- The parts that the rows of a relation tell are those of its members.
  parts-told : (r : Relation)
      → parts_of_rows (relation_point_rows limit entities r) ≡ filter_map (held_part limit entities) (member_rows r)
  parts-told r =
      let own = all-from (HasItsKey (λ (m : MemberRow). m.member) rel_member (member_point_rows limit entities)) place-own
      (member_rows r) in
      let rises = member_places-rise r in
      ap (filter_map (λ (k : ℕ). part_of_run (rows_with rel_member k (relation_point_rows limit entities r))))
      (run_keys-flat (λ (m : MemberRow). m.member) rel_member (member_point_rows limit entities) (member_rows r) own rises)
      ∙ made_of_each (λ (m : MemberRow). m.member) rel_member (member_point_rows limit entities) part_of_run refl
      (relation_point_rows limit entities r) (member_rows r)
      (rows_of_each (λ (m : MemberRow). m.member) rel_member (member_point_rows limit entities) (member_rows r) own rises)
      ∙ alike (λ (m : MemberRow). part_of_run (member_point_rows limit entities m)) (held_part limit entities)
      (λ m. part_of_rows m (held_points limit (points_with (point_rows entities) m.way))) (member_rows r)

-- ---- parts of held points

abbrev points_in : Part → ℕ
points_in part = length part.points

-- they are the parts, where the points of all parts have room
module _ (limit : ℕ) (role : MemberRow → Role) (points : MemberRow → List Point) where
  abbrev whole : MemberRow → Option Part
  whole m = part_of (role m) (points m)

  abbrev kept : MemberRow → Option Part
  kept m = part_of (role m) (held_points limit (points m))

  same_parts : (ms : List MemberRow) → total points_in (filter_map whole ms) ≤ limit
      → filter_map kept ms ≡ filter_map whole ms
  same_parts [] few = refl
  same_parts (m ∷ ms) few = by_size (nat_le 2 (length (points m))) refl (same_parts ms) few
    where
      shown : Part
      shown = record { role = role m; points = points m }

      by_size : (many : Bool) → nat_le 2 (length (points m)) ≡ many
          → (total points_in (filter_map whole ms) ≤ limit → filter_map kept ms ≡ filter_map whole ms)
          → total points_in (cons_option (if many then Some shown else None) (filter_map whole ms)) ≤ limit
          → cons_option (kept m) (filter_map kept ms)
          ≡ cons_option (if many then Some shown else None) (filter_map whole ms)
      by_size true is more few =
          ap (λ l. cons_option (part_of (role m) l) (filter_map kept ms))
          (held-all limit (points m) (omega (arith, few)))
          ∙ rw is (ap (λ l. shown ∷ l) (more (omega (arith, few))))
      by_size false is more few = rw (held-length limit (points m), is) (more few)

  as_many_points : (ms : List MemberRow)
      → map points_in (filter_map kept ms) ≡ map points_in (filter_map whole ms)
  as_many_points [] = refl
  as_many_points (m ∷ ms) = elim (leb_tells 2 (length (points m))) [
    | inl many ↦ rw (held-length limit (points m), many.0)
        (rw (held-length limit (points m)) (ap (λ l. length (points m) ∷ l) (as_many_points ms)))
    | inr one ↦ rw (held-length limit (points m), one.0) (as_many_points ms)
  ]

-- ---- how many rows a relation has

fewer_given : {A B : Type 0} (h : A → Option B) (xs : List A) → length (filter_map h xs) ≤ length xs
fewer_given h [] = omega arith
fewer_given {A} {B} h (x ∷ xs) = by_value (h x) (fewer_given h xs)
  where
    by_value : (o : Option B) → length (filter_map h xs) ≤ length xs
        → length (cons_option o (filter_map h xs)) ≤ suc (length xs)
    by_value None fewer = omega (arith, fewer)
    by_value (Some y) fewer = omega (arith, fewer)

module _ (limit : ℕ) (entities : List Entity) where
  rows-length : (m : MemberRow)
      → length (member_point_rows limit entities m) ≡ length (points_with (point_rows entities) m.way)
  rows-length m =
      length-map (enumerate_from 0 (held_points limit (points_with (point_rows entities) m.way))) (rel_row_of m)
      ∙ length-enumerate_from 0 (held_points limit (points_with (point_rows entities) m.way))
      ∙ held-length limit (points_with (point_rows entities) m.way)

  rows_of_few : (ms : List MemberRow)
      → length (flat_map (member_point_rows limit entities) ms)
      ≤ length ms + total points_in (filter_map (row_part entities) ms)
  rows_of_few [] = omega arith
  rows_of_few (m ∷ ms) = elim (leb_tells 2 (length (points_with (point_rows entities) m.way))) [
    | inl many ↦ rw many.0 (omega (
      arith,
      length-append (member_point_rows limit entities m) (flat_map (member_point_rows limit entities) ms),
      rows-length m,
      rows_of_few ms,
    ))
    | inr one ↦ rw one.0 (omega (
      arith,
      one.1,
      length-append (member_point_rows limit entities m) (flat_map (member_point_rows limit entities) ms),
      rows-length m,
      rows_of_few ms,
    ))
  ]

-- ---- the laws

module _ (limit : ℕ) (entities : List Entity) (r : Relation) (rising : IsRising entities) where
  all_points : total points_in (filter_map (row_part entities) (member_rows r))
      ≡ point_count (parts (relation_parts entities r))
  all_points = ap (total points_in) (parts_of_relation entities r rising)
      ∙ sym (sum-total points_in (relation_parts entities r))

  pub parts_are : point_count (parts (relation_parts entities r)) ≤ limit
      → parts_of_rows (relation_point_rows limit entities r) ≡ relation_parts entities r
  parts_are few =
      parts-told limit entities r
      ∙ same_parts limit (λ m. role_told m.role) (λ m. points_with (point_rows entities) m.way) (member_rows r)
      (omega (arith, all_points, few))
      ∙ parts_of_relation entities r rising

  pub points_are : map points_in (parts_of_rows (relation_point_rows limit entities r))
      ≡ map points_in (relation_parts entities r)
  points_are =
      ap (map points_in) (parts-told limit entities r)
      ∙ as_many_points limit (λ m. role_told m.role) (λ m. points_with (point_rows entities) m.way) (member_rows r)
      ∙ ap (map points_in) (parts_of_relation entities r rising)

  pub rows_are_few : length (relation_point_rows limit entities r)
      ≤ length r.members + point_count (parts (relation_parts entities r))
  rows_are_few = omega (
    arith,
    rows_of_few limit entities (member_rows r),
    all_points,
    fewer_given (member_row_of r.id) (enumerate_from 0 r.members),
    length-enumerate_from 0 r.members,
  )
