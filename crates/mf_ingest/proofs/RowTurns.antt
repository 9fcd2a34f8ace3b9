-- The rows that items give, one item after another.
use Rattle.std.proofs.Common.{◌≡◌, ℕ, zero, suc, ◌+◌, ◌*◌, ◌≤◌, List, [], ◌∷◌, ◌++◌, length, drop, Option, Some, None}
use Rattle.std.proofs.Common.{refl, sym, ap, ◌∙◌, subst, arith}
use Rattle.std.specs.Prelude.{filter_map, slice_get}
use Rattle.std.specs.List.{enumerate_from, cons_option}
use Rattle.std.proofs.Math.Nat.{mul-add, mul-suc}
use Rattle.std.proofs.lemmas.List.{length-append, drop_all}
use Rattle.std.proofs.lemmas.Option.{same_Some}
use Rattle.spill_parts.specs.Giving.{GivesFirst}

module _ {A B : Type 0} (f : ℕ × A → Option B) where
  -- the rows of items, of which the first has this place
  abbrev pub rows_from : ℕ → List A → List B
  rows_from n items = filter_map f (enumerate_from n items)

  -- no item is left
  pub no-item : (n : ℕ) (items : List A) → None ≡ slice_get items 0 → rows_from n items ≡ []
  no-item n [] none = refl
  no-item n (x ∷ items) none = absurd (cc none)

  -- an item that gives a row
  pub some-row : (n : ℕ) (items rest : List A) (x : A) (row : B) → Some x ≡ slice_get items 0
      → rest ≡ drop 1 items → f (n, x) ≡ Some row → rows_from n items ≡ row ∷ rows_from (n + 1) rest
  some-row n [] rest x row first later gives = absurd (cc first)
  some-row n (y ∷ items) rest x row first later gives =
      let same : f (n, y) ≡ Some row = ap (λ z. f (n, z)) (sym (same_Some x y first)) ∙ gives in
      ap (λ o. cons_option o (rows_from (n + 1) items)) same
      ∙ ap (λ (i : List A). row ∷ rows_from (n + 1) i) (sym later)

  -- an item that gives none
  pub no-row : (n : ℕ) (items rest : List A) (x : A) → Some x ≡ slice_get items 0 → rest ≡ drop 1 items
      → f (n, x) ≡ None → rows_from n items ≡ rows_from (n + 1) rest
  no-row n [] rest x first later gives = absurd (cc first)
  no-row n (y ∷ items) rest x first later gives =
      let same : f (n, y) ≡ None = ap (λ z. f (n, z)) (sym (same_Some x y first)) ∙ gives in
      ap (λ o. cons_option o (rows_from (n + 1) items)) same ∙ ap (rows_from (n + 1)) (sym later)

  -- one item less is left
  pub one-less : (items rest : List A) (x : A) → Some x ≡ slice_get items 0 → rest ≡ drop 1 items
      → length items ≡ length rest + 1
  one-less [] rest x first later = absurd (cc first)
  one-less (y ∷ items) rest x first later = omega (arith, ap length later)

-- ---- a list that is gone over by a place

-- the row at a place is given, or none is left from there
pub row-given : {B : Type 0} (rows : List B) (i : ℕ) (row : B) → Some row ≡ slice_get rows i
    → GivesFirst (drop i rows) (Some row) (drop (i + 1) rows)
row-given [] i row is = absurd (cc is)
row-given (x ∷ rows) zero row is = ap (λ r. r ∷ rows) (sym (same_Some row x is))
row-given (x ∷ rows) (suc i) row is =
    let next : suc (i + 1) ≡ suc i + 1 = omega arith in
    subst (λ n. GivesFirst (drop i rows) (Some row) (drop n (x ∷ rows))) next (row-given rows i row is)

pub none-given : {B : Type 0} (rows : List B) (i : ℕ) → length rows ≤ i → GivesFirst (drop i rows) None (drop i rows)
none-given rows i past = (drop_all i rows past, drop_all i rows past)
