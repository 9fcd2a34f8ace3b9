-- Crossings, edge by edge and ring by ring.
use Rattle.std.proofs.Common.{◌≡◌, ◌⊎◌, inl, inr, ℕ, ◌+◌, Bool, true, false, not, List, [], ◌∷◌, ◌++◌, Option, Some, None}
use Rattle.std.proofs.Common.{refl, sym, ap, ◌∙◌, arith, append-nil}
use Rattle.std.specs.Prelude.{◌%◌, ◌==◌, count_by, flat_map, slice_get, option_map, drop, if◌then◌else◌}
use Rattle.std.proofs.lemmas.Bool.{cases_Bool, eq-eqb, ne_eqb, eqb-true, eqb-false}
use Rattle.std.proofs.lemmas.List.Sums.{sum_by-append, sum_by-cons}
use Rattle.std.proofs.lemmas.Option.{none-some, same_Some}
use mathlib.Core.Bool.{beq}
use Rattle.mf_base.specs.declared.place.Place.{Place}
use Rattle.mf_base.specs.declared.kind.Role.{Role}
use Rattle.feature_model.specs.Points.{Point, Part}
use Rattle.feature_model.specs.Blocks.{places}
use Rattle.feature_model.specs.Inside.{Ring, edges, is_one_of, crosses, inside}
use Rattle.mf_rows.specs.Units.{shown_part}
use Rattle.ring_assembly.specs.Edges.{part_rings, step_crosses, from_last}

-- a sum is odd where one of the two is
abbrev odd : ℕ → Bool
odd n = n % 2 == 1

odd-sum : (a b : ℕ) → odd (a + b) ≡ is_one_of (odd a) (odd b)
odd-sum a b = by_parity (cases_Bool (odd a)) (cases_Bool (odd b))
  where
    by_parity : (odd a ≡ true) ⊎ (odd a ≡ false) → (odd b ≡ true) ⊎ (odd b ≡ false)
        → odd (a + b) ≡ is_one_of (odd a) (odd b)
    by_parity (inl ea) (inl eb) =
        let one : a % 2 ≡ 1 = eqb-true (a % 2) 1 ea in let two : b % 2 ≡ 1 = eqb-true (b % 2) 1 eb in
        rw (ea, eb) (ne_eqb ((a + b) % 2) 1 (λ e. omega (arith, e, one, two)))
    by_parity (inl ea) (inr eb) =
        let one : a % 2 ≡ 1 = eqb-true (a % 2) 1 ea in let two = eqb-false (b % 2) 1 eb in
        rw (ea, eb) (eq-eqb ((a + b) % 2) 1 (omega (arith, one, two)))
    by_parity (inr ea) (inl eb) =
        let one = eqb-false (a % 2) 1 ea in let two : b % 2 ≡ 1 = eqb-true (b % 2) 1 eb in
        rw (ea, eb) (eq-eqb ((a + b) % 2) 1 (omega (arith, one, two)))
    by_parity (inr ea) (inr eb) =
        let one = eqb-false (a % 2) 1 ea in let two = eqb-false (b % 2) 1 eb in
        rw (ea, eb) (ne_eqb ((a + b) % 2) 1 (λ e. omega (arith, e, one, two)))

-- one of two, and then of three
one_of_three : (a b c : Bool) → is_one_of (is_one_of a b) c ≡ is_one_of a (is_one_of b c)
one_of_three true true true = refl
one_of_three true true false = refl
one_of_three true false c = refl
one_of_three false b c = refl

abbrev crossed : Place → List (Place × Place) → ℕ
crossed p es = count_by (crosses p) es

-- ---- rings

inside-crossed : (rings : List Ring) (p : Place) → inside rings p ≡ odd (crossed p (flat_map edges rings))
unfolding inside
inside-crossed rings p = refl

inside-more : (ring : Ring) (rings : List Ring) (p : Place)
    → inside (ring ∷ rings) p ≡ is_one_of (inside (ring ∷ []) p) (inside rings p)
inside-more ring rings p =
    let one : inside (ring ∷ []) p ≡ odd (crossed p (edges ring)) =
    inside-crossed (ring ∷ []) p ∙ ap (λ es. odd (crossed p es)) (append-nil (edges ring)) in
    inside-crossed (ring ∷ rings) p
    ∙ ap odd (sum_by-append _ (edges ring) (flat_map edges rings))
    ∙ odd-sum (crossed p (edges ring)) (crossed p (flat_map edges rings))
    ∙ ap (λ b. is_one_of b (odd (crossed p (flat_map edges rings)))) (sym one)
    ∙ ap (is_one_of (inside (ring ∷ []) p)) (sym (inside-crossed rings p))

pub inside-none : (p : Place) → inside [] p ≡ false
inside-none p = inside-crossed [] p

-- ---- one ring

inside-empty : (p : Place) → inside ([] ∷ []) p ≡ false
inside-empty p = inside-crossed ([] ∷ []) p

-- a ring that is at its last place
inside-last : (last : Option Place) (p : Place) → inside (from_last last [] ∷ []) p ≡ false
inside-last None p = inside-empty p
inside-last (Some last) p = inside-crossed ((last ∷ []) ∷ []) p

odd_one : (b : Bool) (n : ℕ) → odd ((if b then 1 else 0) + n) ≡ is_one_of b (odd n)
odd_one true n = odd-sum 1 n
odd_one false n = odd-sum 0 n

inside-step : (last : Option Place) (next : Place) (places : Ring) (p : Place)
    → inside (from_last last (next ∷ places) ∷ []) p
    ≡ is_one_of (step_crosses p last next) (inside (from_last (Some next) places ∷ []) p)
inside-step None next places p = refl
inside-step (Some last) next places p =
    inside-crossed ((last ∷ next ∷ places) ∷ []) p
    ∙ ap odd (sum_by-cons _ (last, next) (edges (next ∷ places) ++ []))
    ∙ odd_one (crosses p (last, next)) (crossed p (edges (next ∷ places) ++ []))
    ∙ ap (is_one_of (crosses p (last, next))) (sym (inside-crossed ((next ∷ places) ∷ []) p))

-- two truth values are not the same
pub not_same : (a b : Bool) → not (beq a b) ≡ is_one_of a b
not_same true true = refl
not_same true false = refl
not_same false true = refl
not_same false false = refl

one_of_none : (a : Bool) → a ≡ is_one_of a false
one_of_none true = refl
one_of_none false = refl

-- ---- the loops

abbrev pub shown_first : Option (Role × List Point) → Option Part
shown_first found = option_map (λ r. shown_part r.0 r.1) found

-- the first ring is behind
pub ring-behind : (rings : List Part) (role : Role) (points : List Point) (more : List Part) (so_far here : Bool)
    → (p : Place) → Some (shown_part role points) ≡ slice_get rings 0 → more ≡ drop 1 rings
    → here ≡ inside (places points ∷ []) p
    → is_one_of (not (beq so_far here)) (inside (part_rings more) p) ≡ is_one_of so_far (inside (part_rings rings) p)
ring-behind [] role points more so_far here p head tail is = absurd (none-some _ (sym head))
ring-behind (part ∷ rings) role points more so_far here p head tail is =
    let this : here ≡ inside (places part.points ∷ []) p =
    is ∙ ap (λ (q : Part). inside (places q.points ∷ []) p) (same_Some (shown_part role points) part head) in
    ap (λ b. is_one_of b (inside (part_rings more) p)) (not_same so_far here)
    ∙ ap (λ b. is_one_of (is_one_of so_far b) (inside (part_rings more) p)) this
    ∙ ap (λ (ps : List Part). is_one_of (is_one_of so_far (inside (places part.points ∷ []) p))
    (inside (part_rings ps) p)) tail
    ∙ one_of_three so_far (inside (places part.points ∷ []) p) (inside (part_rings rings) p)
    ∙ ap (is_one_of so_far) (sym (inside-more (places part.points) (part_rings rings) p))

-- no ring is left
pub rings-behind : (rings : List Part) (so_far : Bool) (p : Place) → shown_first None ≡ slice_get rings 0
    → so_far ≡ is_one_of so_far (inside (part_rings rings) p)
rings-behind [] so_far p none = one_of_none so_far ∙ ap (is_one_of so_far) (sym (inside-none p))
rings-behind (part ∷ rings) so_far p none = absurd (none-some _ none)

abbrev pub pair_first : Option Point → Option (ℕ × Place)
pair_first found = option_map (λ (q : Point). (q.node, q.place)) found

-- the next point is behind
pub point-behind : (points : List Point) (found : ℕ × Place) (more : List Point) (last : Option Place)
    → (so_far here : Bool) (p : Place)
    → Some found ≡ pair_first (slice_get points 0) → more ≡ drop 1 points → here ≡ step_crosses p last found.1
    → is_one_of (not (beq so_far here)) (inside (from_last (Some found.1) (places more) ∷ []) p)
    ≡ is_one_of so_far (inside (from_last last (places points) ∷ []) p)
point-behind [] found more last so_far here p head tail is = absurd (none-some _ (sym head))
point-behind (q ∷ points) found more last so_far here p head tail is =
    let same : found.1 ≡ q.place = ap (λ (f : ℕ × Place). f.1) (same_Some found (q.node, q.place) head) in
    let rest = inside (from_last (Some q.place) (places points) ∷ []) p in
    ap (λ b. is_one_of b (inside (from_last (Some found.1) (places more) ∷ []) p)) (not_same so_far here)
    ∙ ap (λ b. is_one_of (is_one_of so_far b) (inside (from_last (Some found.1) (places more) ∷ []) p)) is
    ∙ ap (λ (place : Place). is_one_of (is_one_of so_far (step_crosses p last place))
    (inside (from_last (Some place) (places more) ∷ []) p)) same
    ∙ ap (λ (ps : List Point). is_one_of (is_one_of so_far (step_crosses p last q.place))
    (inside (from_last (Some q.place) (places ps) ∷ []) p)) tail
    ∙ one_of_three so_far (step_crosses p last q.place) rest
    ∙ ap (is_one_of so_far) (sym (inside-step last q.place (places points) p))

-- no point is left
pub points-behind : (points : List Point) (last : Option Place) (so_far : Bool) (p : Place)
    → None ≡ pair_first (slice_get points 0)
    → so_far ≡ is_one_of so_far (inside (from_last last (places points) ∷ []) p)
points-behind [] last so_far p none = one_of_none so_far ∙ ap (is_one_of so_far) (sym (inside-last last p))
points-behind (q ∷ points) last so_far p none = absurd (none-some _ none)
