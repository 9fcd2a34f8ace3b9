-- The points of a way have places of 32 bits, and so have their rows among those of its members.
use Rattle.std.proofs.Common.{◌≡◌, ℕ, zero, suc, ◌+◌, ◌-◌, ◌^◌, ◌<◌, ◌≤◌, List, [], ◌∷◌, map, length, take, replicate, pos, refl, ap}
use Rattle.std.proofs.Common.{◌∙◌, arith, inl, inr}
use Rattle.std.specs.Prelude.{◌==◌, flat_map, min, FitsSigned}
use Rattle.std.specs.Int.{w32}
use Rattle.std.specs.List.{AllByRecursion, enumerate_from}
use Rattle.std.proofs.lemmas.Bool.Decides.{eqb_tells}
use Rattle.std.proofs.lemmas.List.{length-map}
use Rattle.mf_base.proofs.Pairs.{EachPair}
use Rattle.feature_model.specs.Points.{Point}
use Rattle.feature_model.proofs.ListLemmas.{all-take}
use Rattle.feature_model.proofs.Rising.{all-append, all-map, all-filter, all-imp, all-flat_map, rises-filter}
use Rattle.mf_rows.specs.RowKinds.{IsOf}
use Rattle.mf_rows.specs.Kinds.{node_kind, point_kind, member_kind, rel_kind}
use Rattle.mf_rows.specs.Units.{row_of_point}
use Rattle.mf_rows.specs.declared.kinds.MemberRow.{MemberRow}
use Rattle.mf_rows.specs.declared.kinds.PointRow.{PointRow}
use Rattle.row_runs.specs.Runs.{rows_with}
use Rattle.way_points.specs.PointRows.{point_way, point_told, IsPointBelow}
use Rattle.member_points.specs.RelRows.{blank, held_points, rel_row_of, points_with}
use Rattle.member_points.specs.Pairing.{rows_from, rows_of_member, last_place}
use Rattle.member_points.proofs.InOrder.{rows_at}
use Rattle.member_points.proofs.OfRelation.{held-length}

-- ---- places

-- rows with rising places from a number on are no more than there are places
few-places : (n : ℕ) (rows : List PointRow) → n ≤ 2 ^ 32 → EachPair (λ (p q : PointRow). p.place < q.place) rows
    → AllByRecursion (λ (p : PointRow). p.place < 2 ^ 32) rows → AllByRecursion (λ (p : PointRow). n ≤ p.place) rows
    → n + length rows ≤ 2 ^ 32
few-places n [] small rises fit above = omega (arith, small)
few-places n (p ∷ rows) small rises fit above =
    omega (
      arith,
      few-places (n + 1) rows (omega (arith, above.0, fit.0)) rises.1 fit.1
          (all-imp (λ (q : PointRow). p.place < q.place) (λ (q : PointRow). n + 1 ≤ q.place)
          (λ q less. omega (arith, less, above.0)) rows rises.0),
    )

-- the rows of an id have it
with-own : (k : ℕ) (ps : List PointRow) → AllByRecursion (λ (p : PointRow). point_way p ≡ k) (rows_with point_way k ps)
with-own k [] = tt
with-own k (p ∷ ps) = elim (eqb_tells p.way k) [
  | inl same ↦ rw same.0 (same.1, with-own k ps)
  | inr other ↦ rw other.0 (with-own k ps)
]

later-places : (k : ℕ) (p : PointRow) → point_way p ≡ k → (ps : List PointRow)
    → AllByRecursion (λ (q : PointRow). point_way q ≡ k) ps → AllByRecursion (IsPointBelow p) ps
    → AllByRecursion (λ (q : PointRow). p.place < q.place) ps
later-places k p own [] all below = tt
later-places k p own (q ∷ ps) all below = (by_order below.0, later-places k p own ps all.1 below.1)
  where
    by_order : IsPointBelow p q → p.place < q.place
    by_order (inl less) = absurd (omega (arith, less, own, all.0))
    by_order (inr same) = same.1

place-rise : (k : ℕ) (ps : List PointRow) → AllByRecursion (λ (q : PointRow). point_way q ≡ k) ps
    → EachPair IsPointBelow ps → EachPair (λ (p q : PointRow). p.place < q.place) ps
place-rise k [] own below = tt
place-rise k (p ∷ ps) own below =
    (later-places k p own.0 ps own.1 below.0, place-rise k ps own.1 below.1)

-- The points of a way are no more than there are places.
pub few-points : (points : List PointRow) (k : ℕ) → AllByRecursion (IsOf point_kind) points
    → EachPair IsPointBelow points → length (points_with points k) ≤ 2 ^ 32
few-points points k known rises =
    let mine = rows_with point_way k points in
    let all : AllByRecursion (IsOf point_kind) mine =
    all-filter (IsOf point_kind) (λ (p : PointRow). point_way p == k) points known in
    let few : 0 + length mine ≤ 2 ^ 32 = few-places 0 mine (omega arith)
    (place-rise k mine (with-own k points)
    (rises-filter IsPointBelow (λ (p : PointRow). point_way p == k) points rises))
    (all-imp (IsOf point_kind) (λ (p : PointRow). p.place < 2 ^ 32) (λ p is. is.1.0) mine all)
    (all-imp (IsOf point_kind) (λ (p : PointRow). 0 ≤ p.place) (λ p is. omega arith) mine all) in
    omega (arith, few, length-map mine point_told)

-- so places do not stop
from-at : (m : MemberRow) (n : ℕ) (points : List Point) → n + length points ≤ 2 ^ 32
    → rows_from m n points ≡ map (rel_row_of m) (enumerate_from n points)
from-at m n [] few = refl
from-at m n (p ∷ []) few = refl
from-at m n (p ∷ q ∷ points) few =
    ap (λ l. rel_row_of m (n, p) ∷ l)
    (ap (λ k. rows_from m k (q ∷ points)) (next few) ∙ from-at m (n + 1) (q ∷ points) (omega (arith, few)))
  where
    next : n + suc (suc (length points)) ≤ 2 ^ 32 → min (n + 1) last_place ≡ n + 1
    next few = omega (arith, few)

pub member-rows : (room : ℕ) (points : List PointRow) (m : MemberRow) → length (points_with points m.way) ≤ 2 ^ 32
    → rows_of_member room points m ≡ rows_at m (held_points room (points_with points m.way))
member-rows room points m few =
    from-at m 0 (held_points room (points_with points m.way))
    (omega (arith, few, held-length room (points_with points m.way)))

-- ---- rows of the kind

abbrev IsPoint : Point → Type 0
IsPoint p = IsOf node_kind (row_of_point p)

blank-known : IsPoint blank
blank-known =
    let none : FitsSigned w32 (pos 0) = record { sfits = omega arith } in
    (omega arith, (none, (none, tt)))

blanks-known : (n : ℕ) → AllByRecursion IsPoint (replicate n blank)
blanks-known zero = tt
blanks-known (suc n) = (blank-known, blanks-known n)

held-known : (room : ℕ) (points : List Point) → AllByRecursion IsPoint points
    → AllByRecursion IsPoint (held_points room points)
held-known room points known =
    all-append IsPoint (take room points) (replicate (length points - room) blank) (all-take IsPoint room points known)
    (blanks-known (length points - room))

at-known : (m : MemberRow) (n : ℕ) (points : List Point) → IsOf member_kind m → AllByRecursion IsPoint points
    → n + length points ≤ 2 ^ 32 → AllByRecursion (IsOf rel_kind) (map (rel_row_of m) (enumerate_from n points))
at-known m n [] known all few = tt
at-known m n (p ∷ points) known all few = (
  (
    known.1.0,
    (known.1.1.0, (omega (arith, few), (known.1.1.1.0, (all.0.0, (all.0.1.0, (all.0.1.1.0, tt)))))),
  ),
  at-known m (n + 1) points known all.1 (omega (arith, few)),
)

-- The rows of members are rows of the kind.
pub rows-known : (room : ℕ) (points : List PointRow) → AllByRecursion (IsOf point_kind) points
    → ((k : ℕ) → length (points_with points k) ≤ 2 ^ 32) → (ms : List MemberRow) → AllByRecursion (IsOf member_kind) ms
    → AllByRecursion (IsOf rel_kind) (flat_map (λ (m : MemberRow). rows_at m (held_points room (points_with points m.way))) ms)
rows-known room points known few ms all =
    all-flat_map (IsOf rel_kind) (λ (m : MemberRow). rows_at m (held_points room (points_with points m.way))) ms
    (all-imp (IsOf member_kind)
    (λ (m : MemberRow). AllByRecursion (IsOf rel_kind) (rows_at m (held_points room (points_with points m.way))))
    (λ m is. at-known m 0 (held_points room (points_with points m.way)) is
    (held-known room (points_with points m.way)
    (all-map IsPoint point_told (rows_with point_way m.way points)
    (all-imp (IsOf point_kind) (λ (p : PointRow). IsPoint (point_told p))
    (λ p own. (own.1.1.0, (own.1.1.1.0, (own.1.1.1.1.0, tt)))) (rows_with point_way m.way points)
    (all-filter (IsOf point_kind) (λ (p : PointRow). point_way p == m.way) points known))))
    (omega (arith, few m.way, held-length room (points_with points m.way)))) ms all)
