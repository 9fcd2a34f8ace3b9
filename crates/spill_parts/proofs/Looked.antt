-- What a look-up passes over, and what it finds.
use Rattle.std.proofs.Common.{◌≡◌, ◌≢◌, inl, inr, ℕ, suc, ◌<◌, ◌≤◌, true, false, List, [], ◌∷◌, Option, Some, None}
use Rattle.std.proofs.Common.{refl, sym, ap, subst, ◌∙◌, arith, rules, ◌++◌, append_assoc}
use Rattle.std.specs.Prelude.{◌==◌, Bool, find, filter_map, option_map}
use Rattle.std.specs.List.{AllByRecursion}
use Rattle.std.proofs.lemmas.Bool.{ne_eqb}
use Rattle.std.proofs.lemmas.Bool.Decides.{leb_tells, eqb_tells}
use Rattle.mf_edge.specs.Spill.{SpillState, SameParts, KeepsOthers}
use Rattle.mf_rows.specs.RowKinds.{Kind}
use Rattle.spill_parts.specs.Parts.{Part, PageBytes, IsReading, GivesNext}
use Rattle.spill_parts.specs.Join.{Rises, rest_of, from_key, is_below, if_its_key, Looking, IsLooking}
use Rattle.spill_parts.specs.Join.{joined_rows, one_joined}
use Rattle.spill_parts.proofs.Kept.{reading_kept, reading_same}

module _ {N : Type 0} (key : N → ℕ) where
  -- a look-up passes over the rows below
  find_from : (k w : ℕ) → w ≤ k → (ns : List N)
      → find (λ (n : N). key n == k) (from_key key w ns) ≡ find (λ (n : N). key n == k) ns
  find_from k w le [] = refl
  find_from k w le (n ∷ ns) = elim (leb_tells (suc (key n)) w) [
    | inl low ↦ rw (low.0, ne_eqb (key n) k (omega (arith, low.1, le))) (find_from k w le ns)
    | inr high ↦ rw high.0 refl
  ]

  -- no row above a key has it
  find_above : (k : ℕ) (ns : List N) → AllByRecursion (λ (n : N). k < key n) ns
      → find (λ (n : N). key n == k) ns ≡ None
  find_above k [] above = refl
  find_above k (n ∷ ns) above = rw (ne_eqb (key n) k (omega (arith, above.0))) (find_above k ns above.1)

  above_all : (a b : ℕ) → a < b → (ns : List N) → AllByRecursion (λ (n : N). b < key n) ns
      → AllByRecursion (λ (n : N). a < key n) ns
  above_all a b lt [] all = tt
  above_all a b lt (n ∷ ns) all = (omega (arith, lt, all.0), above_all a b lt ns all.1)

  -- the row that is held has the key, or no row has it
  pub found_held : (k : ℕ) (held : Option N) (left : List N) → Rises key (rest_of held left)
      → is_below key k held ≡ false → if_its_key key k held ≡ find (λ (n : N). key n == k) (rest_of held left)
  found_held k None left rises stops = refl
  found_held k (Some n) left rises stops = elim (eqb_tells (key n) k) [
    | inl same ↦ rw same.0 refl
    | inr other ↦ elim (leb_tells (suc (key n)) k) [
      | inl low ↦ search (low.0, stops, rules)
      | inr high ↦ rw (
        other.0,
        find_above k left (above_all k (key n) (omega (arith, other.1, high.1)) left rises.0),
      ) refl
    ]
  ]

  rises_from : (w : ℕ) (ns : List N) → Rises key ns → Rises key (from_key key w ns)
  rises_from w [] rises = tt
  rises_from w (n ∷ ns) rises = elim (leb_tells (suc (key n)) w) [
    | inl low ↦ rw low.0 (rises_from w ns rises.1)
    | inr high ↦ rw high.0 rises
  ]

  -- The rows below a key were passed.
  pub looking_now : {kind : Kind N} (l l_now : Looking N) (page page_now : PageBytes) (s s_now : SpillState) (k : ℕ)
      → IsLooking kind key l page s → (s.tells ≡ true → l.asked ≤ k)
      → IsReading kind l_now.reading page_now s_now → s_now.tells ≡ s.tells
      → l_now.asked ≡ k → l_now.reading.source ≡ l.reading.source
      → (s.tells ≡ true
      → rest_of l_now.held l_now.reading.left ≡ from_key key k (rest_of l.held l.reading.left))
      → IsLooking kind key l_now page_now s_now
  looking_now l l_now page page_now s s_now k is climbs reading tells asked source rest = record {
    reading = reading;
    rises = λ told. subst (Rises key) (sym (rest (sym tells ∙ told)))
        (rises_from k (rest_of l.held l.reading.left) (is.rises (sym tells ∙ told)));
    finds = λ told m le. (
        let before : s.tells ≡ true = sym tells ∙ told in
        let here : k ≤ m = omega (arith, asked, le) in
        ap (find (λ (n : N). key n == m)) (rest before)
        ∙ find_from m k here (rest_of l.held l.reading.left)
        ∙ is.finds before m (omega (arith, here, climbs before))
        ∙ ap (λ (p : Part N). find (λ (n : N). key n == m) p.rows) (sym source));
  }

  -- No row was passed yet.
  pub looking_first : {kind : Kind N} (part : Part N) (l : Looking N) (page : PageBytes) (s : SpillState)
      → IsReading kind l.reading page s → (s.tells ≡ true → Rises key part.rows)
      → l.reading.source ≡ part → (s.tells ≡ true → rest_of l.held l.reading.left ≡ part.rows)
      → IsLooking kind key l page s
  looking_first part l page s reading rises source rest = record {
    reading = reading;
    rises = λ told. subst (Rises key) (sym (rest told)) (rises told);
    finds = λ told m le. ap (find (λ (n : N). key n == m)) (rest told ∙ sym (ap (λ (p : Part N). p.rows) source));
  }

-- what is held and what is left is what was left
pub given_rest : {N : Type 0} {tells : Bool} {left : List N} (found : Option N) (left_now : List N)
    → GivesNext tells left found left_now → tells ≡ true → rest_of found left_now ≡ left
given_rest None left_now given told = sym given.0
given_rest (Some row) left_now given told = ap (λ r. r ∷ left_now) (given.2 told) ∙ sym given.1

-- where only faults were counted, or another part was touched, a look-up stands as it did
pub looking_kept : {N : Type 0} {kind : Kind N} {key : N → ℕ} {l : Looking N} {page : PageBytes} {s s_now : SpillState}
    (q : ℕ) → l.reading.source.part ≢ q → KeepsOthers q s s_now → s_now.tells ≡ s.tells → IsLooking kind key l page s
    → IsLooking kind key l page s_now
looking_kept q apart keeps tells is = record {
  reading = reading_kept q apart keeps tells is.reading;
  rises = λ told. is.rises (sym tells ∙ told);
  finds = λ told. is.finds (sym tells ∙ told);
}

pub looking_same : {N : Type 0} {kind : Kind N} {key : N → ℕ} {l : Looking N} {page : PageBytes} {s s_now : SpillState}
    → SameParts s s_now → IsLooking kind key l page s → IsLooking kind key l page s_now
looking_same same is =
    let tells = ap (λ (s : SpillState). s.tells) same in
    record {
      reading = reading_same same is.reading;
      rises = λ told. is.rises (sym tells ∙ told);
      finds = λ told. is.finds (sym tells ∙ told);
    }

-- no key is below 0
pub from_zero : {R : Type 0} (key : R → ℕ) (asked : ℕ) → asked ≡ 0 → (rs : List R)
    → AllByRecursion (λ (r : R). asked ≤ key r) rs
from_zero key asked none [] = tt
from_zero key asked none (r ∷ rs) = (omega (arith, none), from_zero key asked none rs)

-- keys that do not fall are not below the first
pub not_below : {R : Type 0} (key : R → ℕ) (first asked : ℕ) → asked ≡ first → (rs : List R)
    → AllByRecursion (λ (r : R). first ≤ key r) rs → AllByRecursion (λ (r : R). asked ≤ key r) rs
not_below {R} key first asked same rs all = subst (λ (k : ℕ). AllByRecursion (λ (r : R). k ≤ key r) rs) (sym same) all

-- ---- the rows of a join

-- an item for which there may be one
one_kept : {R N O : Type 0} (h : R → Option O) (join : R → N → O) (r : R) (rs : List R) (found : Option N)
    → h r ≡ option_map (join r) found → filter_map h (r ∷ rs) ≡ one_joined join r found ++ filter_map h rs
one_kept h join r rs None e = rw e refl
one_kept h join r rs (Some n) e = rw e refl

-- a row more
pub joined_first : {R N O : Type 0} (ref_key : R → ℕ) (node_key : N → ℕ) (join : R → N → O) (nodes : List N) (r : R)
    (rs : List R) → joined_rows ref_key node_key join nodes (r ∷ rs)
    ≡ one_joined join r (find (λ (n : N). node_key n == ref_key r) nodes) ++ joined_rows ref_key node_key join nodes rs
unfolding joined_rows
joined_first {R} {N} ref_key node_key join nodes r rs =
    one_kept (λ (r : R). option_map (join r) (find (λ (n : N). node_key n == ref_key r) nodes)) join r rs
    (find (λ (n : N). node_key n == ref_key r) nodes) refl

-- no row
pub joined_none : {R N O : Type 0} (ref_key : R → ℕ) (node_key : N → ℕ) (join : R → N → O) (nodes : List N)
    → joined_rows ref_key node_key join nodes [] ≡ []
unfolding joined_rows
joined_none ref_key node_key join nodes = refl

pub ruleset joined_steps = (joined_first, joined_none, append_assoc)

-- ---- what a reader gives

-- where it gives a row, that is the first of those that were left
pub told_row : {R : Type 0} (tells : Bool) (left : List R) (row : R) (left_now : List R)
    → GivesNext tells left (Some row) left_now → tells ≡ true → left ≡ row ∷ left_now
told_row tells left row left_now given told = given.1 ∙ ap (λ r. r ∷ left_now) (sym (given.2 told))

-- where it gives none, none was left
pub nothing_left : {R : Type 0} (tells : Bool) (left : List R) (found : Option R) (left_now : List R)
    → GivesNext tells left found left_now → found ≡ None → left ≡ []
nothing_left tells left None left_now given none = given.0
nothing_left tells left (Some row) left_now given none = search (none, rules)
