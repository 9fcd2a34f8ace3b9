-- Whether a text stands in another.
use Rattle.std.proofs.Common.{◌≡◌, ◌⊎◌, ℕ, [], ◌∷◌, ◌++◌, length, drop, refl, sym, ap, ◌∙◌, inl, inr, true, false, Bool}
use Rattle.std.proofs.Common.{true≢false, ◌↔◌, append-nil}
use Rattle.std.specs.Str.Iter.{HasSubslice}
use Rattle.std.proofs.lemmas.Bool.{cases_Bool}
use Rattle.std.proofs.lemmas.Bool.Decides.{Decides-eqb}
use Rattle.std.proofs.lemmas.Slice.Eq.{starts_is}
use lib.Pointwise.{bytes_decides}
use Rattle.mf_base.specs.Texts.{Text, begins, has_text}

begins-is : (part text : Text) → begins part text ≡ true → text ≡ part ++ drop (length part) text
begins-is part text h = (starts_is Decides-eqb text part _ refl).0 h

begins-so : (part text rest : Text) → text ≡ part ++ rest → begins part text ≡ true
begins-so part text rest h = (starts_is Decides-eqb text part _ refl).1 rest h

stands-first : (part : Text) (b : ℕ) (text : Text) → begins part (b ∷ text) ≡ true → HasSubslice (b ∷ text) part
stands-first part b text h = ([], drop (length part) (b ∷ text), begins-is part (b ∷ text) h)

pub has-stands : (part text : Text) → has_text part text ≡ true → HasSubslice text part
has-stands part [] h = ([], [], sym (append-nil part ∙ (bytes_decides part []).0 h))
has-stands part (b ∷ text) h = by_front (cases_Bool (begins part (b ∷ text))) (has-stands part text)
  where
    by_front : (begins part (b ∷ text) ≡ true) ⊎ (begins part (b ∷ text) ≡ false)
        → (has_text part text ≡ true → HasSubslice text part) → HasSubslice (b ∷ text) part
    by_front (inl front) later = stands-first part b text front
    by_front (inr other) later = let there = later (rw other at h) in
        (b ∷ there.0, there.1, ap (λ (t : Text). b ∷ t) there.2)

pub stands-has : (part text a c : Text) → text ≡ a ++ (part ++ c) → has_text part text ≡ true
stands-has [] [] a c h = refl
stands-has (p ∷ part) [] [] c h = absurd (cc h)
stands-has (p ∷ part) [] (x ∷ a) c h = absurd (cc h)
stands-has part (b ∷ text) [] c h = rw (begins-so part (b ∷ text) c h) refl
stands-has part (b ∷ text) (x ∷ a) c h =
    by_front (cases_Bool (begins part (b ∷ text))) (stands-has part text a c (ap (λ (t : Text). drop 1 t) h))
  where
    by_front : (begins part (b ∷ text) ≡ true) ⊎ (begins part (b ∷ text) ≡ false) → has_text part text ≡ true
        → has_text part (b ∷ text) ≡ true
    by_front (inl front) later = rw front refl
    by_front (inr other) later = rw other later

-- a test that is true just where the part stands there
pub has-text : (part text : Text) (r : Bool) → (r ≡ true) ↔ HasSubslice text part → r ≡ has_text part text
has-text part text true h = let there = h.0 refl in sym (stands-has part text there.0 there.1 there.2)
has-text part text false h = by_test (cases_Bool (has_text part text))
  where
    by_test : (has_text part text ≡ true) ⊎ (has_text part text ≡ false) → false ≡ has_text part text
    by_test (inl there) = absurd (true≢false (sym (h.1 (has-stands part text there))))
    by_test (inr none) = sym none
