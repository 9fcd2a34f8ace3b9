-- Sums over lists, for weights of tiles and for counts; two lists have the same items, each as often, where every
-- function has the same total over both.
use Rattle.std.proofs.Common.{◌≡◌, ℕ, zero, suc, ◌+◌, ◌-◌, ◌<◌, ◌≤◌, List, [], ◌∷◌, ◌++◌, map, length, refl, sym, ap}
use Rattle.std.proofs.Common.{◌∙◌, arith, true, false, inl, inr}
use Rattle.std.specs.Prelude.{Bool, ◌&&◌, cond, filter, flat_map, count_by, max, min, leb, eqb, sum_by}
use Rattle.std.specs.List.{range_with_len, fold}
use Rattle.std.proofs.lemmas.Bool.{le-leb, lt-leb, eq-eqb, ne_eqb, cases_lt, cases_eq}

-- the sum of f over a list
abbrev pub total : {X : Type 0} → (X → ℕ) → List X → ℕ
total f [] = 0
total f (x ∷ xs) = f x + total f xs

pub total-append : {X : Type 0} (f : X → ℕ) (xs ys : List X) → total f (xs ++ ys) ≡ total f xs + total f ys
total-append f [] ys = omega arith
total-append f (x ∷ xs) ys = omega (arith, total-append f xs ys)

pub total-map : {X Y : Type 0} (f : Y → ℕ) (g : X → Y) (xs : List X) → total f (map g xs) ≡ total (λ x. f (g x)) xs
total-map f g [] = refl
total-map f g (x ∷ xs) = ap (λ (n : ℕ). f (g x) + n) (total-map f g xs)

pub total-flat_map : {X Y : Type 0} (f : Y → ℕ) (g : X → List Y) (xs : List X)
    → total f (flat_map g xs) ≡ total (λ x. total f (g x)) xs
total-flat_map f g [] = refl
total-flat_map f g (x ∷ xs) =
    total-append f (g x) (flat_map g xs) ∙ ap (λ (n : ℕ). total f (g x) + n) (total-flat_map f g xs)

pub total-same : {X : Type 0} (f g : X → ℕ) → ((x : X) → f x ≡ g x) → (xs : List X) → total f xs ≡ total g xs
total-same f g e [] = refl
total-same f g e (x ∷ xs) = omega (arith, e x, total-same f g e xs)

pub total-zero : {X : Type 0} (xs : List X) → total (λ x. 0) xs ≡ 0
total-zero [] = refl
total-zero (x ∷ xs) = omega (arith, total-zero xs)

pub total-add : {X : Type 0} (f g : X → ℕ) (xs : List X) → total (λ x. f x + g x) xs ≡ total f xs + total g xs
total-add f g [] = refl
total-add f g (x ∷ xs) = omega (arith, total-add f g xs)

-- the sum over two lists does not hang on which is gone over first
pub total-swap : {X Y : Type 0} (h : X → Y → ℕ) (xs : List X) (ys : List Y)
    → total (λ x. total (h x) ys) xs ≡ total (λ y. total (λ x. h x y) xs) ys
total-swap h [] ys = sym (total-zero ys)
total-swap h (x ∷ xs) ys =
    ap (λ (n : ℕ). total (h x) ys + n) (total-swap h xs ys) ∙ sym (total-add (h x) (λ y. total (λ x. h x y) xs) ys)

pub total-filter : {X : Type 0} (f : X → ℕ) (p : X → Bool) (xs : List X)
    → total f (filter p xs) ≡ total (λ x. cond (p x) (f x) 0) xs
total-filter f p [] = refl
total-filter f p (x ∷ xs) = by_test (p x) (total-filter f p xs)
  where
    by_test : (b : Bool) → total f (filter p xs) ≡ total (λ x. cond (p x) (f x) 0) xs
        → total f (cond b (x ∷ filter p xs) (filter p xs)) ≡ cond b (f x) 0 + total (λ x. cond (p x) (f x) 0) xs
    by_test true more = omega (arith, more)
    by_test false more = omega (arith, more)

-- a count is a total
sum_from : {X : Type 0} (f : X → ℕ) (a : ℕ) (xs : List X) → fold (λ a x. a + f x) a xs ≡ a + total f xs
sum_from f a [] = omega arith
sum_from f a (x ∷ xs) = sum_from f (a + f x) xs ∙ omega arith

pub count-total : {X : Type 0} (p : X → Bool) (xs : List X) → count_by p xs ≡ total (λ x. cond (p x) 1 0) xs
count-total p xs = sum_from (λ x. cond (p x) 1 0) 0 xs ∙ omega arith

pub sum-total : {X : Type 0} (f : X → ℕ) (xs : List X) → sum_by f xs ≡ total f xs
sum-total f xs = sum_from f 0 xs ∙ omega arith

pub length-total : {X : Type 0} (xs : List X) → length xs ≡ total (λ x. 1) xs
length-total [] = refl
length-total (x ∷ xs) = omega (arith, length-total xs)

-- ---- over numbers that follow each other

same_range : (h : ℕ → ℕ) (a b n m : ℕ) → a ≡ b → n ≡ m → total h (range_with_len a n) ≡ total h (range_with_len b m)
same_range h a b n m p q = λ i. total h (range_with_len (p i) (q i))

-- those from c to d among the n numbers from a on
pub total-cut : (h : ℕ → ℕ) (a n c d : ℕ)
    → total (λ x. cond (leb c x && leb x d) (h x) 0) (range_with_len a n)
    ≡ total h (range_with_len (max a c) (min (a + n) (suc d) - max a c))
total-cut h a zero c d = same_range h (max a c) (max a c) 0 (min (a + 0) (suc d) - max a c) refl (omega arith)
total-cut h a (suc n) c d =
    let more = total-cut h (a + 1) n c d in
    elim (cases_lt a c) [
      | inl lt ↦ rw lt-leb
          (omega (
            arith,
            more,
            same_range h (max (a + 1) c) (max a c) (min (a + 1 + n) (suc d) - max (a + 1) c)
                (min (a + suc n) (suc d) - max a c) (omega arith) (omega arith),
          ))
      | inr ge ↦ elim (cases_lt d a) [
        | inl past ↦ rw (le-leb c a ge, lt-leb a d past) (omega (
          arith,
          more,
          same_range h (max (a + 1) c) (max (a + 1) c) (min (a + 1 + n) (suc d) - max (a + 1) c) 0 refl (omega arith),
          same_range h (max a c) (max a c) (min (a + suc n) (suc d) - max a c) 0 refl (omega arith),
        ))
        | inr le ↦ rw (le-leb c a ge, le-leb a d le) (omega (
          arith,
          more,
          same_range h (max (a + 1) c) (a + 1) (min (a + 1 + n) (suc d) - max (a + 1) c)
              (min (a + 1 + n) (suc d) - (a + 1)) (omega arith) (omega arith),
          same_range h (max a c) a (min (a + suc n) (suc d) - max a c) (suc (min (a + 1 + n) (suc d) - (a + 1)))
              (omega arith) (omega arith),
        ))
      ]
    ]

total-none : (v e a n : ℕ) → e < a → total (λ x. cond (eqb e x) v 0) (range_with_len a n) ≡ 0
total-none v e a zero lt = refl
total-none v e a (suc n) lt = rw (ne_eqb e a (λ q. omega arith)) (omega (arith, total-none v e (a + 1) n (omega arith)))

-- one number among them
pub total-one : (v e a n : ℕ) → a ≤ e → e < a + n → total (λ x. cond (eqb e x) v 0) (range_with_len a n) ≡ v
total-one v e a zero le lt = absurd (omega arith)
total-one v e a (suc n) le lt =
    let more = λ (h : a + 1 ≤ e). total-one v e (a + 1) n h (omega arith) in
    elim (cases_eq e a) [
      | inl same ↦ rw (eq-eqb e a same) (omega (arith, total-none v e (a + 1) n (omega arith)))
      | inr apart ↦ rw (ne_eqb e a apart) (omega (arith, more (omega arith)))
    ]
