-- How a record is loaded from its rows, row after row.
use Rattle.std.proofs.Common.{◌≡◌, ℕ, zero, suc, ◌+◌, ◌≤◌, Bool, true, false, List, [], ◌∷◌, ◌++◌, length, Option}
use Rattle.std.proofs.Common.{Some, None, refl, sym, ap, ◌∙◌, arith, append_assoc}
use Rattle.std.specs.Prelude.{map, take, not, ◌==◌}
use Rattle.std.proofs.lemmas.List.{length-append, map-append}
use Rattle.mf_edge.specs.Spill.{SpillState, SameParts}
use Rattle.mf_rows.specs.Units.{Unit16}
use Rattle.spill_parts.specs.Parts.{GivesNext}
use Rattle.spill_parts.specs.Join.{rest_of}
use Rattle.unit_rows.specs.Runs.{going_on, next_on, goes_on, held_units}

-- what a row that was given, or none, and the rows behind it are
pub rest-told : {K : Type 0} (tells : Bool) (left : List K) (found : Option K) (left_now : List K)
    → GivesNext tells left found left_now → tells ≡ true → rest_of found left_now ≡ left
rest-told tells left None left_now given told = sym given.0
rest-told tells left (Some row) left_now given told =
    ap (λ r. r ∷ left_now) (given.2 told) ∙ sym given.1

-- and as many
pub rest-counted : {K : Type 0} (tells : Bool) (left : List K) (found : Option K) (left_now : List K)
    → GivesNext tells left found left_now → length (rest_of found left_now) ≡ length left
rest-counted tells left None left_now given = ap length (sym given.0)
rest-counted tells left (Some row) left_now given = ap length (sym given.1)

-- a store that was read twice
pub read-then : (a b c : SpillState) → SameParts a b → SameParts b c → SameParts a c
read-then a b c first then = then ∙ ap (λ (s : SpillState). record s { faults = c.faults }) first

-- a row that goes on is one of those that are left
pub one-held : {K : Type 0} (place : K → ℕ) (held : Option K) (left : List K) → goes_on place held ≡ true
    → length (rest_of held left) ≡ 1 + length left
one-held place None left on = absurd (cc on)
one-held place (Some row) left on = omega arith

-- the first so many items of a list that goes on from its first so many
pub take-again : {A : Type 0} (n : ℕ) (xs ys : List A) → take n (take n xs ++ ys) ≡ take n (xs ++ ys)
take-again zero xs ys = refl
take-again (suc n) [] ys = refl
take-again (suc n) (x ∷ xs) ys = ap (λ more. x ∷ more) (take-again n xs ys)

-- all items, where there are no more
pub take-all : {A : Type 0} (n : ℕ) (xs : List A) → length xs ≤ n → take n xs ≡ xs
take-all zero [] le = refl
take-all zero (x ∷ xs) le = absurd (omega (arith, le))
take-all (suc n) [] le = refl
take-all (suc n) (x ∷ xs) le = ap (λ more. x ∷ more) (take-all n xs (omega (arith, le)))

-- no more items are taken of a list that goes on
pub take-full : {A : Type 0} (n : ℕ) (xs ys : List A) → length xs ≡ n → take n (xs ++ ys) ≡ xs
take-full zero [] ys is = refl
take-full zero (x ∷ xs) ys is = absurd (omega (arith, is))
take-full (suc n) [] ys is = absurd (omega (arith, is))
take-full (suc n) (x ∷ xs) ys is = ap (λ more. x ∷ more) (take-full n xs ys (omega (arith, is)))

module _ {K : Type 0} (unit : K → Unit16) (place : K → ℕ) where
  -- Rows of a record were read: with those that go on they are all of it, and their units are loose as far as there is
  -- room.
  pub record IsLoading (room : ℕ) (all behind rest : List K) (units : ℕ) (loose : List Unit16) : Type 0 where
    pub done : List K
    pub whole : done ++ going_on place rest ≡ all
    pub behind_is : next_on place rest ≡ behind
    pub counted : units ≡ length done
    pub loose_is : loose ≡ take room (map unit done)

  -- the first row was read
  pub loading-first : (room : ℕ) (first : K) (left : List K) (loose : List Unit16)
      → loose ≡ take room ([] ++ unit first ∷ [])
      → IsLoading room (first ∷ going_on place left) (next_on place left) left 1 loose
  loading-first room first left loose is = record {
    done = first ∷ [];
    whole = refl;
    behind_is = refl;
    counted = refl;
    loose_is = is;
  }

  -- a row that goes on
  pub loading-next : (room : ℕ) (all behind : List K) (held : Option K) (left : List K) (units : ℕ)
      (loose loose_now : List Unit16) → goes_on place held ≡ true
      → loose_now ≡ take room (loose ++ held_units unit held)
      → IsLoading room all behind (rest_of held left) units loose
      → IsLoading room all behind left (units + 1) loose_now
  loading-next room all behind None left units loose loose_now on put was = absurd (cc on)
  loading-next room all behind (Some row) left units loose loose_now on put was =
      let off : (place row == 0) ≡ false = is-off (place row == 0) on in
      let more : going_on place (row ∷ left) ≡ row ∷ going_on place left = rw off refl in
      let later : next_on place (row ∷ left) ≡ next_on place left = rw off refl in
      record {
        done = was.done ++ row ∷ [];
        whole = append_assoc was.done (row ∷ []) (going_on place left)
            ∙ ap (λ rows. was.done ++ rows) (sym more) ∙ was.whole;
        behind_is = sym later ∙ was.behind_is;
        counted = omega (arith, was.counted, length-append was.done (row ∷ []));
        loose_is = put ∙ ap (λ us. take room (us ++ unit row ∷ [])) was.loose_is
            ∙ take-again room (map unit was.done) (unit row ∷ [])
            ∙ ap (take room) (sym (map-append unit was.done (row ∷ [])));
      }
    where
      is-off : (b : Bool) → not b ≡ true → b ≡ false
      is-off false is = refl
      is-off true is = absurd (cc is)

  -- no row goes on
  pub loading-ends : (room : ℕ) (all behind : List K) (held : Option K) (left : List K) (units : ℕ)
      (loose : List Unit16) → goes_on place held ≡ false
      → IsLoading room all behind (rest_of held left) units loose
      → (loose ≡ take room (map unit all)) × (units ≡ length all) × (rest_of held left ≡ behind)
  loading-ends room all behind held left units loose off was =
      let last : (going_on place (rest_of held left) ≡ []) × (next_on place (rest_of held left) ≡ rest_of held left) =
      ends held off in
      let whole : was.done ≡ all =
      sym (append-none was.done) ∙ ap (λ rows. was.done ++ rows) (sym last.0) ∙ was.whole in (
        was.loose_is ∙ ap (λ rows. take room (map unit rows)) whole,
        was.counted ∙ ap length whole,
        sym last.1 ∙ was.behind_is,
      )
    where
      append-none : (rows : List K) → rows ++ [] ≡ rows
      append-none [] = refl
      append-none (row ∷ rows) = ap (λ more. row ∷ more) (append-none rows)

      is-on : (b : Bool) → not b ≡ false → b ≡ true
      is-on true is = refl
      is-on false is = absurd (cc is)

      ends : (h : Option K) → goes_on place h ≡ false
          → (going_on place (rest_of h left) ≡ []) × (next_on place (rest_of h left) ≡ rest_of h left)
      ends None is = (refl, refl)
      ends (Some row) is = rw (is-on (place row == 0) is) (refl, refl)
