-- The rows of blocks: those of the outer rings, and of the inner rings that have a home.
use Rattle.std.proofs.Common.{◌≡◌, ◌⊎◌, inl, inr, ℕ, ◌+◌, Bool, true, false, not, List, [], ◌∷◌, refl, arith}
use Rattle.std.specs.Prelude.{◌||◌, sum_by, filter}
use Rattle.std.specs.List.{list_any}
use Rattle.std.proofs.lemmas.Bool.{cases_Bool}
use Rattle.std.proofs.lemmas.List.Sums.{sum_by-cons}
use Rattle.feature_model.specs.Points.{Point}
use Rattle.feature_model.specs.Blocks.{JoinedBlock, begins_inside, blocks_of}
use Rattle.feature_model.proofs.BlockBounds.{total}

-- whether some outer ring has the first point of a ring inside
abbrev pub housed : List (List Point) → List Point → Bool
housed outer ring = list_any (λ o. begins_inside o ring) outer

-- those that pass one of two tests: those that pass the first, and of the others those that pass the second
sum-either : {A : Type 0} (p q : A → Bool) (f : A → ℕ) (xs : List A)
    → sum_by f (filter p xs) + sum_by f (filter q (filter (λ x. not (p x)) xs))
    ≡ sum_by f (filter (λ x. p x || q x) xs)
sum-either p q f [] = refl
sum-either p q f (x ∷ xs) = by_tests (cases_Bool (p x)) (cases_Bool (q x)) (sum-either p q f xs)
  where
    by_tests : (p x ≡ true) ⊎ (p x ≡ false) → (q x ≡ true) ⊎ (q x ≡ false)
        → sum_by f (filter p xs) + sum_by f (filter q (filter (λ x. not (p x)) xs))
        ≡ sum_by f (filter (λ x. p x || q x) xs)
        → sum_by f (filter p (x ∷ xs)) + sum_by f (filter q (filter (λ x. not (p x)) (x ∷ xs)))
        ≡ sum_by f (filter (λ x. p x || q x) (x ∷ xs))
    by_tests (inl e) d more =
        let a = sum_by-cons f x (filter p xs) in
        let b = sum_by-cons f x (filter (λ x. p x || q x) xs) in
        rw e (omega (arith, a, b, more))
    by_tests (inr e) (inl d) more =
        let a = sum_by-cons f x (filter q (filter (λ x. not (p x)) xs)) in
        let b = sum_by-cons f x (filter (λ x. p x || q x) xs) in
        rw (e, d) (omega (arith, a, b, more))
    by_tests (inr e) (inr d) more = rw (e, d) more

none-pass : {A : Type 0} (f : A → ℕ) (xs : List A) → 0 ≡ sum_by f (filter (λ x. false) xs)
none-pass f [] = refl
none-pass f (x ∷ xs) = none-pass f xs

pub block-rows : (f : List Point → ℕ) (outer inner : List (List Point))
    → total f (blocks_of outer inner) ≡ sum_by f outer + sum_by f (filter (housed outer) inner)
unfolding blocks_of
block-rows f [] inner =
    let none : 0 ≡ sum_by f (filter (housed []) inner) = none-pass f inner in
    let no_rows : total f (blocks_of [] inner) ≡ 0 = refl in
    let no_outer : sum_by f [] ≡ 0 = refl in
    omega (arith, none, no_rows, no_outer)
block-rows f (o ∷ outer) inner =
    let mine = filter (begins_inside o) inner in let others = filter (λ ring. not (begins_inside o ring)) inner in
    let a = sum_by-cons (λ (b : JoinedBlock). sum_by f b) (o ∷ mine) (blocks_of outer others) in
    let b = sum_by-cons f o mine in let c = sum_by-cons f o outer in
    let d = sum-either (begins_inside o) (housed outer) f inner in
    let e = block-rows f outer others in
    omega (arith, a, b, c, d, e)
