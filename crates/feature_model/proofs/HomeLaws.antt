-- An inner ring is in the block of its home.
use Rattle.std.proofs.Common.{◌≡◌, ◌⊎◌, ℕ, ◌+◌, ◌<◌, ◌≤◌, List, [], ◌∷◌, map, Bool, true, false, not, Option, refl, sym}
use Rattle.std.proofs.Common.{ap, ◌∙◌, inl, inr, arith}
use Rattle.std.specs.Prelude.{filter}
use Rattle.std.specs.List.{enumerate_from, position_from}
use Rattle.std.proofs.lemmas.Iterator.Adapters.{position_from-zero}
use Rattle.std.proofs.lemmas.List.Elements.{filter_agree}
use Rattle.std.proofs.lemmas.Bool.{cases_Bool, ne_eqb, eq-eqb}
use Rattle.feature_model.specs.Points.{Point}
use Rattle.feature_model.specs.Blocks.{JoinedBlock, begins_inside, blocks_of, home, is_home}

-- one filter behind another
filter-twice : {A : Type 0} (p q r : A → Bool) (xs : List A) → ((x : A) → q x ≡ true → r x ≡ false)
    → ((x : A) → q x ≡ false → r x ≡ p x) → filter p (filter (λ x. not (q x)) xs) ≡ filter r xs
filter-twice p q r [] yes_case no_case = refl
filter-twice p q r (x ∷ xs) yes_case no_case =
    by_test (cases_Bool (q x)) (cases_Bool (p x)) (filter-twice p q r xs yes_case no_case)
  where
    by_test : (q x ≡ true) ⊎ (q x ≡ false) → (p x ≡ true) ⊎ (p x ≡ false)
        → filter p (filter (λ x. not (q x)) xs) ≡ filter r xs
        → filter p (filter (λ x. not (q x)) (x ∷ xs)) ≡ filter r (x ∷ xs)
    by_test (inl e) ps more = let out = yes_case x e in rw (e, out) more
    by_test (inr e) (inl h) more = let same = no_case x e in rw (e, same, h) (ap (λ ys. x ∷ ys) more)
    by_test (inr e) (inr h) more = let same = no_case x e in rw (e, same, h) more

map-from : {A B : Type 0} (f g : ℕ × A → B) (n : ℕ) (xs : List A) → ((k : ℕ) (x : A) → n ≤ k → f (k, x) ≡ g (k, x))
    → map f (enumerate_from n xs) ≡ map g (enumerate_from n xs)
map-from f g n [] same = refl
map-from f g n (x ∷ xs) same = ap (λ y. y ∷ map f (enumerate_from (n + 1) xs)) (same n x (omega arith))
    ∙ ap (λ ys. g (n, x) ∷ ys) (map-from f g (n + 1) xs (λ k x low. same k x (omega (arith, low))))

-- the home of a ring, where the outer rings have these numbers
home_at : ℕ → List (List Point) → List Point → Option ℕ
home_at n outer ring = position_from (λ o. begins_inside o ring) n outer

-- it is no number before them
not_before : (k n : ℕ) (outer : List (List Point)) (ring : List Point) → k < n
    → is_home k (home_at n outer ring) ≡ false
unfolding home_at
not_before k n [] ring low = refl
not_before k n (o ∷ outer) ring low =
    by_test (cases_Bool (begins_inside o ring)) (not_before k (n + 1) outer ring (omega (arith, low)))
  where
    by_test : (begins_inside o ring ≡ true) ⊎ (begins_inside o ring ≡ false)
        → is_home k (home_at (n + 1) outer ring) ≡ false → is_home k (home_at n (o ∷ outer) ring) ≡ false
    by_test (inl e) more = rw e (ne_eqb n k (λ same. omega (arith, same, low)))
    by_test (inr e) more = rw e more

first-home : (n : ℕ) (o : List Point) (outer : List (List Point)) (ring : List Point)
    → begins_inside o ring ≡ is_home n (home_at n (o ∷ outer) ring)
unfolding home_at
first-home n o outer ring = by_test (cases_Bool (begins_inside o ring))
  where
    by_test : (begins_inside o ring ≡ true) ⊎ (begins_inside o ring ≡ false)
        → begins_inside o ring ≡ is_home n (home_at n (o ∷ outer) ring)
    by_test (inl e) = rw e (sym (eq-eqb n n refl))
    by_test (inr e) = rw e (sym (not_before n (n + 1) outer ring (omega arith)))

-- a ring that begins inside the first outer ring has no later home
no_later : (n k : ℕ) (o : List Point) (outer : List (List Point)) (ring : List Point) → n + 1 ≤ k
    → begins_inside o ring ≡ true → is_home k (home_at n (o ∷ outer) ring) ≡ false
unfolding home_at
no_later n k o outer ring low e = rw e (ne_eqb n k (λ same. omega (arith, same, low)))

-- and else the first outer ring changes nothing
same_later : (n k : ℕ) (o : List Point) (outer : List (List Point)) (ring : List Point) → begins_inside o ring ≡ false
    → is_home k (home_at n (o ∷ outer) ring) ≡ is_home k (home_at (n + 1) outer ring)
unfolding home_at
same_later n k o outer ring e = rw e refl

block_at : (List Point → Option ℕ) → List (List Point) → ℕ × List Point → JoinedBlock
block_at home inner o = o.1 ∷ filter (λ ring. is_home o.0 (home ring)) inner

blocks-at : (n : ℕ) (outer inner : List (List Point))
    → blocks_of outer inner ≡ map (block_at (home_at n outer) inner) (enumerate_from n outer)
unfolding blocks_of block_at
blocks-at n [] inner = refl
blocks-at n (o ∷ outer) inner =
    let others = filter (λ ring. not (begins_inside o ring)) inner in
    let here = filter_agree (begins_inside o) (λ ring. is_home n (home_at n (o ∷ outer) ring)) (first-home n o outer)
    inner in
    let later = map-from (block_at (home_at (n + 1) outer) others) (block_at (home_at n (o ∷ outer)) inner) (n + 1)
    outer
    (λ k x low. ap (λ (rings : List (List Point)). x ∷ rings)
    (filter-twice (λ ring. is_home k (home_at (n + 1) outer ring)) (begins_inside o)
    (λ ring. is_home k (home_at n (o ∷ outer) ring)) inner
    (λ ring e. no_later n k o outer ring low e) (λ ring e. same_later n k o outer ring e))) in
    ap (λ (rings : List (List Point)). (o ∷ rings) ∷ blocks_of outer others) here
    ∙ ap (λ (blocks : List JoinedBlock). (o ∷ filter (λ ring. is_home n (home_at n (o ∷ outer) ring)) inner) ∷ blocks)
    (blocks-at (n + 1) outer others ∙ later)

pub blocks-home : (outer inner : List (List Point))
    → blocks_of outer inner ≡ map (λ (o : ℕ × List Point). o.1 ∷ filter (λ ring. is_home o.0 (home outer ring)) inner)
    (enumerate_from 0 outer)
unfolding home_at block_at
blocks-home outer inner = blocks-at 0 outer inner
    ∙ map-from (block_at (home_at 0 outer) inner)
    (λ (o : ℕ × List Point). o.1 ∷ filter (λ ring. is_home o.0 (home outer ring)) inner) 0 outer
    (λ k x low. ap (λ (rings : List (List Point)). x ∷ rings)
    (filter_agree (λ ring. is_home k (home_at 0 outer ring)) (λ ring. is_home k (home outer ring))
    (λ ring. ap (is_home k) (sym (position_from-zero (λ o. begins_inside o ring) outer))) inner))
