-- Lists in which each item stands before all later ones: for members, tiles and whatever is ordered by them.
use Rattle.std.proofs.Common.{◌≡◌, ℕ, zero, suc, ◌+◌, ◌<◌, ◌≤◌, List, [], ◌∷◌, ◌++◌, map, length, refl, arith, true}
use Rattle.std.proofs.Common.{false}
use Rattle.std.specs.Prelude.{Bool, cond, filter, flat_map}
use Rattle.std.specs.List.{range_with_len, enumerate_from, AllByRecursion}
use Rattle.mf_base.proofs.Pairs.{EachPair}

-- ---- all of a list

pub all-append : {X : Type 0} (P : X → Type 0) (xs ys : List X) → AllByRecursion P xs → AllByRecursion P ys
    → AllByRecursion P (xs ++ ys)
all-append P [] ys a b = b
all-append P (x ∷ xs) ys a b = (a.0, all-append P xs ys a.1 b)

pub all-flat_map : {X Y : Type 0} (P : Y → Type 0) (g : X → List Y) (xs : List X)
    → AllByRecursion (λ x. AllByRecursion P (g x)) xs → AllByRecursion P (flat_map g xs)
all-flat_map P g [] a = tt
all-flat_map P g (x ∷ xs) a = all-append P (g x) (flat_map g xs) a.0 (all-flat_map P g xs a.1)

pub all-map : {X Y : Type 0} (P : Y → Type 0) (f : X → Y) (xs : List X) → AllByRecursion (λ x. P (f x)) xs
    → AllByRecursion P (map f xs)
all-map P f [] a = tt
all-map P f (x ∷ xs) a = (a.0, all-map P f xs a.1)

pub all-from : {X : Type 0} (P : X → Type 0) → ((x : X) → P x) → (xs : List X) → AllByRecursion P xs
all-from P p [] = tt
all-from P p (x ∷ xs) = (p x, all-from P p xs)

pub all-imp : {X : Type 0} (P Q : X → Type 0) → ((x : X) → P x → Q x) → (xs : List X) → AllByRecursion P xs
    → AllByRecursion Q xs
all-imp P Q s [] a = tt
all-imp P Q s (x ∷ xs) a = (s x a.0, all-imp P Q s xs a.1)

pub all-both : {X : Type 0} (P Q : X → Type 0) (xs : List X) → AllByRecursion P xs → AllByRecursion Q xs
    → AllByRecursion (λ x. P x × Q x) xs
all-both P Q [] a b = tt
all-both P Q (x ∷ xs) a b = ((a.0, b.0), all-both P Q xs a.1 b.1)

pub all-filter : {X : Type 0} (P : X → Type 0) (p : X → Bool) (xs : List X) → AllByRecursion P xs
    → AllByRecursion P (filter p xs)
all-filter P p [] a = tt
all-filter {X} P p (x ∷ xs) a = by_test (p x) (all-filter P p xs a.1)
  where
    by_test : (b : Bool) → AllByRecursion P (filter p xs) → AllByRecursion P (cond b (x ∷ filter p xs) (filter p xs))
    by_test true more = (a.0, more)
    by_test false more = more

-- what a filter keeps passes its test
pub all-passes : {X : Type 0} (p : X → Bool) (xs : List X) → AllByRecursion (λ x. p x ≡ true) (filter p xs)
all-passes p [] = tt
all-passes {X} p (x ∷ xs) = by_test (p x) refl (all-passes p xs)
  where
    by_test : (b : Bool) → p x ≡ b → AllByRecursion (λ x. p x ≡ true) (filter p xs)
        → AllByRecursion (λ x. p x ≡ true) (cond b (x ∷ filter p xs) (filter p xs))
    by_test true e more = (e, more)
    by_test false e more = more

-- ---- rising lists

pub rises-append : {X : Type 0} (Below : X → X → Type 0) (xs ys : List X) → EachPair Below xs → EachPair Below ys
    → AllByRecursion (λ x. AllByRecursion (Below x) ys) xs → EachPair Below (xs ++ ys)
rises-append Below [] ys a b c = b
rises-append Below (x ∷ xs) ys a b c = (all-append (Below x) xs ys a.0 c.0, rises-append Below xs ys a.1 b c.1)

pub rises-filter : {X : Type 0} (Below : X → X → Type 0) (p : X → Bool) (xs : List X) → EachPair Below xs
    → EachPair Below (filter p xs)
rises-filter Below p [] a = tt
rises-filter {X} Below p (x ∷ xs) a = by_test (p x) (all-filter (Below x) p xs a.0) (rises-filter Below p xs a.1)
  where
    by_test : (b : Bool) → AllByRecursion (Below x) (filter p xs) → EachPair Below (filter p xs)
        → EachPair Below (cond b (x ∷ filter p xs) (filter p xs))
    by_test true above more = (above, more)
    by_test false above more = more

pub rises-map : {X Y : Type 0} (Below : Y → Y → Type 0) (f : X → Y) (xs : List X)
    → EachPair (λ x y. Below (f x) (f y)) xs → EachPair Below (map f xs)
rises-map Below f [] a = tt
rises-map Below f (x ∷ xs) a = (all-map (Below (f x)) f xs a.0, rises-map Below f xs a.1)

pub all-unmap : {X Y : Type 0} (P : Y → Type 0) (f : X → Y) (xs : List X) → AllByRecursion P (map f xs)
    → AllByRecursion (λ x. P (f x)) xs
all-unmap P f [] a = tt
all-unmap P f (x ∷ xs) a = (a.0, all-unmap P f xs a.1)

pub rises-unmap : {X Y : Type 0} (Below : Y → Y → Type 0) (f : X → Y) (xs : List X) → EachPair Below (map f xs)
    → EachPair (λ x y. Below (f x) (f y)) xs
rises-unmap Below f [] a = tt
rises-unmap Below f (x ∷ xs) a = (all-unmap (Below (f x)) f xs a.0, rises-unmap Below f xs a.1)

-- a weaker order, among items of which something holds
pub rises-imp : {X : Type 0} (P : X → Type 0) (R S : X → X → Type 0) → ((x y : X) → P x → P y → R x y → S x y)
    → (xs : List X) → AllByRecursion P xs → EachPair R xs → EachPair S xs
rises-imp P R S step [] p a = tt
rises-imp P R S step (x ∷ xs) p a = (
  all-imp (λ y. P y × R x y) (S x) (λ y h. step x y p.0 h.0 h.1) xs (all-both P (R x) xs p.1 a.0),
  rises-imp P R S step xs p.1 a.1,
)

-- Blocks one after another rise, where each does, and the order of what they are of is that of their items.
pub rises-flat_map : {X Y : Type 0} (IsOf : X → Y → Type 0) (R : X → X → Type 0) (Below : Y → Y → Type 0) (g : X
    → List Y)
    → ((x x' : X) (y y' : Y) → R x x' → IsOf x y → IsOf x' y' → Below y y')
    → ((x : X) → AllByRecursion (IsOf x) (g x)) → ((x : X) → EachPair Below (g x)) → (xs : List X) → EachPair R xs
    → EachPair Below (flat_map g xs)
rises-flat_map IsOf R Below g step of each [] a = tt
rises-flat_map {X} {Y} IsOf R Below g step of each (x ∷ xs) a =
    rises-append Below (g x) (flat_map g xs) (each x) (rises-flat_map IsOf R Below g step of each xs a.1)
    (all-imp (IsOf x) (λ y. AllByRecursion (Below y) (flat_map g xs)) (λ y h. later y h xs a.0) (g x) (of x))
  where
    later : (y : Y) → IsOf x y → (zs : List X) → AllByRecursion (R x) zs → AllByRecursion (Below y) (flat_map g zs)
    later y h zs b =
        all-flat_map (Below y) g zs
        (all-imp (R x) (λ z. AllByRecursion (Below y) (g z))
        (λ z r. all-imp (IsOf z) (Below y) (λ y' k. step x z y y' r h k) (g z) (of z)) zs b)

-- ---- numbers

all-range : (a b n : ℕ) → a ≤ b → AllByRecursion (λ m. a ≤ m) (range_with_len b n)
all-range a b zero le = tt
all-range a b (suc n) le = (le, all-range a (b + 1) n (omega arith))

pub rises-range : (a n : ℕ) → EachPair (λ x y. x < y) (range_with_len a n)
rises-range a zero = tt
rises-range a (suc n) = (
  all-imp (λ m. a + 1 ≤ m) (λ m. a < m) (λ m h. omega arith) (range_with_len (a + 1) n)
      (all-range (a + 1) (a + 1) n (omega arith)),
  rises-range (a + 1) n,
)

all-enumerate : {X : Type 0} (a n : ℕ) (xs : List X) → a ≤ n
    → AllByRecursion (λ (p : ℕ × X). a ≤ p.0) (enumerate_from n xs)
all-enumerate a n [] le = tt
all-enumerate a n (x ∷ xs) le = (le, all-enumerate a (n + 1) xs (omega arith))

pub rises-enumerate : {X : Type 0} (n : ℕ) (xs : List X) → EachPair (λ (p q : ℕ × X). p.0 < q.0) (enumerate_from n xs)
rises-enumerate n [] = tt
rises-enumerate {X} n (x ∷ xs) = (
  all-imp (λ (p : ℕ × X). n + 1 ≤ p.0) (λ (p : ℕ × X). n < p.0) (λ p h. omega (arith, h)) (enumerate_from (n + 1) xs)
      (all-enumerate (n + 1) (n + 1) xs (omega arith)),
  rises-enumerate (n + 1) xs,
)

pub all-places : {X : Type 0} (n : ℕ) (xs : List X)
    → AllByRecursion (λ (p : ℕ × X). p.0 < n + length xs) (enumerate_from n xs)
all-places n [] = tt
all-places {X} n (x ∷ xs) = (
  omega arith,
  all-imp (λ (p : ℕ × X). p.0 < n + 1 + length xs) (λ (p : ℕ × X). p.0 < n + suc (length xs))
      (λ p h. omega (arith, h)) (enumerate_from (n + 1) xs) (all-places (n + 1) xs),
)

pub all-items : {X : Type 0} (P : X → Type 0) (n : ℕ) (xs : List X) → AllByRecursion P xs
    → AllByRecursion (λ (p : ℕ × X). P p.1) (enumerate_from n xs)
all-items P n [] all = tt
all-items P n (x ∷ xs) all = (all.0, all-items P (n + 1) xs all.1)

-- ---- the later part of a list

pub rises-after : {X : Type 0} (Below : X → X → Type 0) (xs ys : List X) → EachPair Below (xs ++ ys) → EachPair Below ys
rises-after Below [] ys a = a
rises-after Below (x ∷ xs) ys a = rises-after Below xs ys a.1

pub all-after : {X : Type 0} (P : X → Type 0) (xs ys : List X) → AllByRecursion P (xs ++ ys) → AllByRecursion P ys
all-after P [] ys a = a
all-after P (x ∷ xs) ys a = all-after P xs ys a.1

pub all-below : (a n : ℕ) → AllByRecursion (λ m. m < a + n) (range_with_len a n)
all-below a zero = tt
all-below a (suc n) = (
  omega arith,
  all-imp (λ m. m < a + 1 + n) (λ m. m < a + suc n) (λ m h. omega (arith, h)) (range_with_len (a + 1) n)
      (all-below (a + 1) n),
)
