-- Tests of all or some of a list, one more at a time.
use Rattle.std.proofs.Common.{◌≡◌, ℕ, zero, suc, ◌+◌, Bool, true, false, List, [], ◌∷◌, map, drop, length}
use Rattle.std.proofs.Common.{Some, refl, sym, ap, ◌∙◌, arith, subst}
use Rattle.std.specs.Prelude.{slice_get}
use Rattle.std.specs.List.{list_any, AllByRecursion}
use Rattle.std.proofs.lemmas.Option.{none-some, same_Some}

pub any-more : {A : Type 0} (p : A → Bool) (x : A) (xs : List A) → p x ≡ false → list_any p xs ≡ list_any p (x ∷ xs)
any-more p x xs h = rw h refl

pub any-here : {A : Type 0} (p : A → Bool) (x : A) (xs : List A) → p x ≡ true → true ≡ list_any p (x ∷ xs)
any-here p x xs h = rw h refl

-- ---- by places

pub drop-at : {A : Type 0} (xs : List A) (i : ℕ) (x : A) → Some x ≡ slice_get xs i → drop i xs ≡ x ∷ drop (i + 1) xs
drop-at [] i x e = absurd (none-some x (sym e))
drop-at (y ∷ xs) zero x e = ap (λ z. z ∷ xs) (sym (same_Some x y e))
drop-at (y ∷ xs) (suc i) x e =
    let next : suc (i + 1) ≡ suc i + 1 = omega arith in
    drop-at xs i x e ∙ ap (λ k. x ∷ drop k (y ∷ xs)) next

-- what holds of some of those from a place on
pub some_left : {A B : Type 0} (p : B → Bool) (f : A → B) (xs : List A) (i : ℕ) (x : A) → Some x ≡ slice_get xs i
    → p (f x) ≡ false → list_any p (map f (drop (i + 1) xs)) ≡ list_any p (map f (drop i xs))
some_left p f xs i x e none = any-more p (f x) (map f (drop (i + 1) xs)) none
    ∙ ap (λ ys. list_any p (map f ys)) (sym (drop-at xs i x e))

pub some_here : {A B : Type 0} (p : B → Bool) (f : A → B) (xs : List A) (i : ℕ) (x : A) → Some x ≡ slice_get xs i
    → p (f x) ≡ true → true ≡ list_any p (map f (drop i xs))
some_here p f xs i x e some = any-here p (f x) (map f (drop (i + 1) xs)) some
    ∙ ap (λ ys. list_any p (map f ys)) (sym (drop-at xs i x e))

pub none_left : {A B : Type 0} (p : B → Bool) (f : A → B) (xs : List A) (n : ℕ) → n ≡ length xs
    → false ≡ list_any p (map f (drop n xs))
none_left p f xs n e = ap (λ ys. list_any p (map f ys)) (sym (ap (λ k. drop k xs) e ∙ drop-length xs))
  where
    drop-length : {A : Type 0} (xs : List A) → drop (length xs) xs ≡ []
    drop-length [] = refl
    drop-length (x ∷ xs) = drop-length xs

-- all of those from a place on, where there is one more
pub all_left : {A : Type 0} (P : A → Type 0) (xs : List A) (i : ℕ) (x : A) → Some x ≡ slice_get xs i → P x
    → AllByRecursion P (drop (i + 1) xs) → AllByRecursion P (drop i xs)
all_left P xs i x e here more = subst (AllByRecursion P) (sym (drop-at xs i x e)) (here, more)

pub all_end : {A : Type 0} (P : A → Type 0) (xs : List A) (n : ℕ) → n ≡ length xs → AllByRecursion P (drop n xs)
all_end P [] zero e = tt
all_end P [] (suc n) e = tt
all_end P (x ∷ xs) zero e = absurd (omega (arith, e))
all_end P (x ∷ xs) (suc n) e = all_end P xs n (omega (arith, e))
