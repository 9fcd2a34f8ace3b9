-- What is tested of the order of two records.
use Rattle.std.proofs.Common.{◌≡◌, ℕ, ◌<◌, ◌⊎◌, refl, sym, ◌∙◌, subst, arith, Bool, true, false, inl, inr}
use Rattle.std.specs.Prelude.{◌&&◌, ◌||◌, not, cond, ◌↔◌, IsTrue, IfSome, Option, Some}
use Rattle.std.proofs.lemmas.Bool.{le-leb, leb-true, true≢false}
use Rattle.mf_base.specs.declared.tile.Interval.{Interval}
use Rattle.map_model.specs.Intervals.{raised_zoom}
use Rattle.map_model.specs.Members.{is_node_kind, StandsBefore}
use Rattle.mf_rows.specs.Records.{Record, candidate_told}
use Rattle.mf_rows.specs.Shapes.{feature_told}
use Rattle.tile_body.specs.Tested.{stands_before, is_no_higher}

-- the number of a class
abbrev number : Bool → ℕ
number b = cond b 0 1

-- by the classes of both, and by whether the zoom is no higher
before-by : (a b low : Bool) → cond a (low || not b) (low && not b) ≡ true
    → (number a < number b) ⊎ ((number a ≡ number b) × (low ≡ true))
before-by true true true e = inr (refl, refl)
before-by true true false e = absurd (true≢false (sym e))
before-by true false low e = inl (omega arith)
before-by false true true e = absurd (true≢false (sym e))
before-by false true false e = absurd (true≢false (sym e))
before-by false false true e = inr (refl, refl)
before-by false false false e = absurd (true≢false (sym e))

by-before : (a b low : Bool) → (number a < number b) ⊎ ((number a ≡ number b) × (low ≡ true))
    → cond a (low || not b) (low && not b) ≡ true
by-before true true low (inl less) = absurd (omega (arith, less))
by-before true true true (inr same) = refl
by-before true true false (inr same) = absurd (true≢false (sym same.1))
by-before true false true h = refl
by-before true false false h = refl
by-before false true low (inl less) = absurd (omega (arith, less))
by-before false true low (inr same) = let e = same.0 in absurd (omega (arith, e))
by-before false false low (inl less) = absurd (omega (arith, less))
by-before false false true (inr same) = refl
by-before false false false (inr same) = absurd (true≢false (sym same.1))

pub stands-is : (interval : Interval) (q r : Record) → stands_before interval q r ≡ true
    → StandsBefore interval (feature_told q) (feature_told r)
unfolding feature_told candidate_told
stands-is interval q r e =
    elim (before-by (is_node_kind q.head.kind) (is_node_kind r.head.kind) (is_no_higher interval q r) e) [
      | inl less ↦ inl less
      | inr same ↦
          inr (same.0, leb-true (raised_zoom interval q.head.zoom) (raised_zoom interval r.head.zoom) same.1)
    ]

pub is-before : (interval : Interval) (q r : Record) → StandsBefore interval (feature_told q) (feature_told r)
    → stands_before interval q r ≡ true
unfolding feature_told candidate_told
is-before interval q r (inl less) =
    by-before (is_node_kind q.head.kind) (is_node_kind r.head.kind) (is_no_higher interval q r) (inl less)
is-before interval q r (inr same) =
    by-before (is_node_kind q.head.kind) (is_node_kind r.head.kind) (is_no_higher interval q r)
    (inr (same.0, le-leb (raised_zoom interval q.head.zoom) (raised_zoom interval r.head.zoom) same.1))

-- the same where the other record is the last of some
pub behind-told : (interval : Interval) (last : Option Record) (q r : Record) (b : Bool) → last ≡ Some q
    → b ≡ stands_before interval q r
    → IsTrue b ↔ IfSome last (λ (q : Record). StandsBefore interval (feature_told q) (feature_told r))
behind-told interval last q r b is tested =
    let P : Record → Type 0 = λ q. StandsBefore interval (feature_told q) (feature_told r) in (
      λ e. subst (λ (o : Option Record). IfSome o P) (sym is) (stands-is interval q r (sym tested ∙ e)),
      λ h. tested ∙ is-before interval q r (subst (λ (o : Option Record). IfSome o P) is h),
    )
