-- What holds of all items of a list.
use Rattle.std.proofs.Common.{◌≡◌, ℕ, zero, suc, ◌+◌, List, [], ◌∷◌, map, take, Option, Some, None, refl, sym, ap, ◌∙◌}
use Rattle.std.proofs.Common.{subst, arith}
use Rattle.std.specs.Prelude.{filter_map, slice_get}
use Rattle.std.specs.List.{AllByRecursion, enumerate_from, cons_option}

pub all-filter_map : {A B : Type 0} (G : A → Type 0) (P : B → Type 0) (h : A → Option B) (xs : List A)
    → AllByRecursion G xs → ((x : A) (y : B) → G x → h x ≡ Some y → P y) → AllByRecursion P (filter_map h xs)
all-filter_map G P h [] all step = tt
all-filter_map {A} {B} G P h (x ∷ xs) all step = by_value (h x) refl (all-filter_map G P h xs all.1 step)
  where
    by_value : (o : Option B) → h x ≡ o → AllByRecursion P (filter_map h xs)
        → AllByRecursion P (cons_option (h x) (filter_map h xs))
    by_value None e more = subst (λ o. AllByRecursion P (cons_option o (filter_map h xs))) (sym e) more
    by_value (Some y) e more =
        subst (λ o. AllByRecursion P (cons_option o (filter_map h xs))) (sym e) (step x y all.0 e, more)

pub any-all : {A : Type 0} (xs : List A) → AllByRecursion (λ x. Unit {0}) xs
any-all [] = tt
any-all (x ∷ xs) = (tt, any-all xs)

pub all-map : {A B : Type 0} (P : B → Type 0) (f : A → B) (xs : List A) → AllByRecursion (λ x. P (f x)) xs
    → AllByRecursion P (map f xs)
all-map P f [] h = tt
all-map P f (x ∷ xs) h = (h.0, all-map P f xs h.1)

pub all-take : {A : Type 0} (P : A → Type 0) (n : ℕ) (xs : List A) → AllByRecursion P xs → AllByRecursion P (take n xs)
all-take P zero xs h = tt
all-take P (suc n) [] h = tt
all-take P (suc n) (x ∷ xs) h = (h.0, all-take P n xs h.1)

-- each numbered item is that of its number in the whole list, and passes what all pass
pub all-numbered : {A : Type 0} (P : A → Type 0) (whole : List A) (n : ℕ) (xs : List A) → AllByRecursion P xs
    → ((i : ℕ) → slice_get whole (n + i) ≡ slice_get xs i)
    → AllByRecursion (λ (p : ℕ × A). (slice_get whole p.0 ≡ Some p.1) × P p.1) (enumerate_from n xs)
all-numbered P whole n [] all at = tt
all-numbered P whole n (x ∷ xs) all at =
    let here : slice_get whole n ≡ Some x = ap (slice_get whole) (omega arith) ∙ at 0 in
    ((here, all.0), all-numbered P whole (n + 1) xs all.1 (λ i. ap (slice_get whole) (omega arith) ∙ at (suc i)))

pub all-weaker : {A : Type 0} (P Q : A → Type 0) (xs : List A) → ((x : A) → P x → Q x) → AllByRecursion P xs
    → AllByRecursion Q xs
all-weaker P Q [] step h = tt
all-weaker P Q (x ∷ xs) step h = (step x h.0, all-weaker P Q xs step h.1)
