-- Kept tags with one more among them.
use Rattle.std.proofs.Common.{◌≡◌, ◌⊎◌, ◌<◌, ◌≤◌, ℕ, zero, suc, ◌+◌, List, [], ◌∷◌, length, take, Bool, true, false}
use Rattle.std.proofs.Common.{refl, sym, ap, ◌∙◌, inl, inr, arith}
use Rattle.std.specs.Prelude.{nat_lt, unwrap_or, position}
use Rattle.std.specs.List.{insert, position_or_len}
use Rattle.std.proofs.lemmas.Bool.{cases_Bool, cases_lt, lt-ltb, le-ltb}
use Rattle.mf_base.specs.declared.kept.Kept.{Kept}
use Rattle.tag_mapping.specs.Choosing.{with_kept}

one-more : (n : ℕ) → 1 + n ≡ suc n
one-more n = omega arith

-- the place of one more is before the first with a greater id
pub placed : (kept : Kept) (tags : List Kept)
    → insert tags (position_or_len (λ (k : Kept). nat_lt kept.tag k.tag) tags) kept ≡ with_kept kept tags
placed kept [] = refl
placed kept (k ∷ tags) = by_test (cases_Bool (nat_lt kept.tag k.tag)) (placed kept tags)
  where
    by_test : (nat_lt kept.tag k.tag ≡ true) ⊎ (nat_lt kept.tag k.tag ≡ false)
        → insert tags (position_or_len (λ (k : Kept). nat_lt kept.tag k.tag) tags) kept ≡ with_kept kept tags
        → insert (k ∷ tags) (position_or_len (λ (k : Kept). nat_lt kept.tag k.tag) (k ∷ tags)) kept
        ≡ with_kept kept (k ∷ tags)
    by_test (inl less) more = rw less refl
    by_test (inr other) more = rw (other, one-more) (ap (λ (ks : List Kept). k ∷ ks) more)

pub place-within : {A : Type 0} (p : A → Bool) (xs : List A) → position_or_len p xs ≤ length xs
place-within p [] = omega arith
place-within p (x ∷ xs) = by_test (cases_Bool (p x)) (place-within p xs)
  where
    by_test : (p x ≡ true) ⊎ (p x ≡ false) → position_or_len p xs ≤ length xs
        → position_or_len p (x ∷ xs) ≤ length (x ∷ xs)
    by_test (inl here) more = rw here (omega arith)
    by_test (inr later) more = rw later (omega (arith, more))

-- dropping the last before is dropping it after
insert-take : {A : Type 0} (n place : ℕ) (xs : List A) (x : A) → place ≤ n
    → insert (take n xs) place x ≡ take (suc n) (insert xs place x)
insert-take n zero xs x within = refl
insert-take zero (suc place) xs x within = absurd (omega (arith, within))
insert-take (suc n) (suc place) [] x within = refl
insert-take {A} (suc n) (suc place) (y ∷ xs) x within =
    ap (λ (ys : List A). y ∷ ys) (insert-take n place xs x (omega (arith, within)))

take-insert : {A : Type 0} (n : ℕ) (xs : List A) (x : A) → length xs ≡ n → take n (insert xs n x) ≡ xs
take-insert zero [] x all = refl
take-insert zero (y ∷ xs) x all = absurd (omega (arith, all))
take-insert (suc n) [] x all = absurd (omega (arith, all))
take-insert {A} (suc n) (y ∷ xs) x all = ap (λ (ys : List A). y ∷ ys) (take-insert n xs x (omega (arith, all)))

-- one more, where there is room after the last was dropped
pub kept-among : (kept : Kept) (old popped after : List Kept) (place : ℕ)
    → place ≡ position_or_len (λ (k : Kept). nat_lt kept.tag k.tag) old → place < 15
    → popped ≡ take 14 old → after ≡ insert popped place kept → after ≡ take 15 (with_kept kept old)
kept-among kept old popped after place is less cut put =
    let within : place ≤ 14 = omega (arith, less) in
    put ∙ (ap (λ (ks : List Kept). insert ks place kept) cut
    ∙ (insert-take 14 place old kept within
    ∙ ap (take 15) (ap (λ (p : ℕ). insert old p kept) is ∙ placed kept old)))

-- one more behind fifteen
pub kept-behind : (kept : Kept) (old : List Kept) (place : ℕ)
    → place ≡ position_or_len (λ (k : Kept). nat_lt kept.tag k.tag) old → place ≤ length old → length old ≤ 15
    → 15 ≤ place → old ≡ take 15 (with_kept kept old)
kept-behind kept old place is within few more =
    let last : place ≡ 15 = omega (arith, within, few, more) in
    let all : length old ≡ 15 = omega (arith, within, few, more) in
    sym (ap (take 15) (sym (placed kept old) ∙ ap (λ (p : ℕ). insert old p kept) (sym is ∙ last))
    ∙ take-insert 15 old kept all)

-- a place that is found, or the end
pub place-found : {A : Type 0} (p : A → Bool) (xs : List A)
    → unwrap_or (position p xs) (length xs) ≡ position_or_len p xs
place-found p xs = by_test (cases_lt (position_or_len p xs) (length xs))
  where
    by_test : (position_or_len p xs < length xs) ⊎ (length xs ≤ position_or_len p xs)
        → unwrap_or (position p xs) (length xs) ≡ position_or_len p xs
    by_test (inl less) = rw (lt-ltb (position_or_len p xs) (length xs) less) refl
    by_test (inr end) = let last : length xs ≡ position_or_len p xs = omega (arith, end, place-within p xs) in
        rw (le-ltb (position_or_len p xs) (length xs) end) last
