-- Runs of rows of one key.
use Rattle.std.proofs.Common.{◌≡◌, ℕ, suc, ◌+◌, ◌<◌, ◌≤◌, List, [], ◌∷◌, ◌++◌, Bool, true, false}
use Rattle.std.proofs.Common.{refl, sym, ap, subst, ◌∙◌, inl, inr, arith, rules, eq-eqb, ne_eqb, lt-ltb, le-ltb}
use Rattle.std.proofs.Common.{if◌then◌else◌, flat_map}
use Rattle.std.specs.List.{AllByRecursion}
use Rattle.std.proofs.lemmas.Bool.Decides.{leb_tells, eqb_tells}
use Rattle.spill_parts.specs.Join.{Climbs, Rises, from_key}
use Rattle.row_runs.specs.Runs.{rows_with, begins_with, run_of, after_run, run_keys, HasAllFrom}

module _ {R : Type 0} (key : R → ℕ) where
  -- ---- what is above

  at_least : (k j : ℕ) (rs : List R) → k ≤ j → AllByRecursion (λ (r : R). j ≤ key r) rs
      → AllByRecursion (λ (r : R). k ≤ key r) rs
  at_least k j [] le all = tt
  at_least k j (r ∷ rs) le all = (omega (arith, le, all.0), at_least k j rs le all.1)

  above : (k j : ℕ) (rs : List R) → k < j → AllByRecursion (λ (r : R). j ≤ key r) rs
      → AllByRecursion (λ (r : R). k < key r) rs
  above k j [] less all = tt
  above k j (r ∷ rs) less all = (omega (arith, less, all.0), above k j rs less all.1)

  pub none_above : (k : ℕ) (rs : List R) → AllByRecursion (λ (r : R). k < key r) rs → rows_with key k rs ≡ []
  none_above k [] all = refl
  none_above k (r ∷ rs) all = rw (ne_eqb (key r) k (λ e. omega (arith, e, all.0))) (none_above k rs all.1)

  -- the keys of what is left climb
  pub climbs_behind : (passed rs : List R) → Climbs key (passed ++ rs) → Climbs key rs
  climbs_behind [] rs climbs = climbs
  climbs_behind (p ∷ passed) rs climbs = climbs_behind passed rs climbs.1

  pub climbs_from : (k : ℕ) (rs : List R) → Climbs key rs → Climbs key (from_key key k rs)
  climbs_from k [] climbs = tt
  climbs_from k (r ∷ rs) climbs = elim (leb_tells (suc (key r)) k) [
    | inl low ↦ rw low.0 (climbs_from k rs climbs.1)
    | inr high ↦ rw high.0 climbs
  ]

  pub from_is_above : (k : ℕ) (rs : List R) → Climbs key rs → AllByRecursion (λ (r : R). k ≤ key r) (from_key key k rs)
  from_is_above k [] climbs = tt
  from_is_above k (r ∷ rs) climbs = elim (leb_tells (suc (key r)) k) [
    | inl low ↦ rw low.0 (from_is_above k rs climbs.1)
    | inr high ↦ rw high.0 (
        let le : k ≤ key r = omega (arith, high.1) in
        (le, at_least k (key r) rs le climbs.0)
        )
  ]

  pub from_none : (rs : List R) → from_key key 0 rs ≡ rs
  from_none [] = refl
  from_none (r ∷ rs) = rw (le-ltb (key r) 0 (omega arith)) refl

  -- ---- the rows of a key are a run

  pub front_run : (k : ℕ) (rs : List R) → AllByRecursion (λ (r : R). k ≤ key r) rs → Climbs key rs
      → rows_with key k rs ≡ run_of key k rs
  front_run k [] all climbs = refl
  front_run k (r ∷ rs) all climbs = elim (eqb_tells (key r) k) [
    | inl same ↦ rw same.0 (ap (λ l. r ∷ l) (front_run k rs all.1 climbs.1))
    | inr other ↦ rw other.0 (
        let less : k < key r = omega (arith, all.0, other.1) in
        none_above k rs (above k (key r) rs less climbs.0)
        )
  ]

  -- In rows whose keys climb, those of a key are the run in front, once the lower ones are passed over.
  pub rows_are_a_run : (k : ℕ) (rs : List R) → Climbs key rs → rows_with key k rs ≡ run_of key k (from_key key k rs)
  rows_are_a_run k [] climbs = refl
  rows_are_a_run k (r ∷ rs) climbs = elim (leb_tells (suc (key r)) k) [
    | inl low ↦ rw (low.0, ne_eqb (key r) k (λ e. omega (arith, e, low.1))) (rows_are_a_run k rs climbs.1)
    | inr high ↦ rw high.0 (
        let le : k ≤ key r = omega (arith, high.1) in
        front_run k (r ∷ rs) (le, at_least k (key r) rs le climbs.0) climbs
        )
  ]

  -- ---- going on to later keys

  pub from_later : (k later : ℕ) → k ≤ later → (rs : List R)
      → from_key key later (from_key key k rs) ≡ from_key key later rs
  from_later k later le [] = refl
  from_later k later le (r ∷ rs) = elim (leb_tells (suc (key r)) k) [
    | inl low ↦ rw (low.0, lt-ltb (key r) later (omega (arith, low.1, le))) (from_later k later le rs)
    | inr high ↦ rw high.0 refl
  ]

  pub after_later : (k later : ℕ) → k < later → (rs : List R)
      → from_key key later (after_run key k rs) ≡ from_key key later rs
  after_later k later less [] = refl
  after_later k later less (r ∷ rs) = elim (eqb_tells (key r) k) [
    | inl same ↦ rw (same.0, lt-ltb (key r) later (omega (arith, same.1, less))) (after_later k later less rs)
    | inr other ↦ rw other.0 refl
  ]

  -- the rows behind the run in front
  front_after : (k : ℕ) (rs : List R) → AllByRecursion (λ (r : R). k ≤ key r) rs
      → after_run key k rs ≡ from_key key (k + 1) rs
  front_after k [] all = refl
  front_after k (r ∷ rs) all = elim (eqb_tells (key r) k) [
    | inl same ↦ rw (same.0, lt-ltb (key r) (k + 1) (omega (arith, same.1))) (front_after k rs all.1)
    | inr other ↦ rw (other.0, le-ltb (key r) (k + 1) (omega (arith, all.0, other.1))) refl
  ]

  pub after_is_from : (k : ℕ) (rs : List R) → Climbs key rs
      → after_run key k (from_key key k rs) ≡ from_key key (k + 1) rs
  after_is_from k rs climbs =
      front_after k (from_key key k rs) (from_is_above k rs climbs) ∙ from_later k (k + 1) (omega arith) rs

  -- of a lower key no row is left
  pub none_lower : (k later : ℕ) → k < later → (rs : List R) → Climbs key rs → rows_with key k (from_key key later rs) ≡ []
  none_lower k later less rs climbs =
      none_above k (from_key key later rs) (above k later (from_key key later rs) less (from_is_above later rs climbs))

  -- ---- what is left when the next key is asked for

  pub all_at_first : (k : ℕ) (left rows : List R) → left ≡ rows → HasAllFrom key k left rows
  all_at_first k left rows same later le = ap (from_key key later) same

  pub all_sought : (k next : ℕ) → k ≤ next → (left rows : List R) → HasAllFrom key k left rows
      → HasAllFrom key next (from_key key next left) rows
  all_sought k next le left rows all later more =
      from_later next later more left ∙ all later (omega (arith, le, more))

  pub all_after : (k : ℕ) (left rows : List R) → HasAllFrom key k left rows
      → HasAllFrom key (k + 1) (after_run key k left) rows
  all_after k left rows all later more =
      after_later k later (omega (arith, more)) left ∙ all later (omega (arith, more))

  -- the run in front has all rows of its key
  pub run_is_all : (k : ℕ) (left rows : List R) → Climbs key rows → HasAllFrom key k left rows
      → run_of key k (from_key key k left) ≡ rows_with key k rows
  run_is_all k left rows climbs all =
      ap (run_of key k) (all k (omega arith)) ∙ sym (rows_are_a_run k rows climbs)

  -- ---- the keys of runs

  pub run_keys-cons : (r : R) (rs : List R) → run_keys key (r ∷ rs) ≡ key r ∷ run_keys key (after_run key (key r) rs)
  unfolding run_keys
  run_keys-cons r [] = refl
  run_keys-cons r (s ∷ ss) = elim (eqb_tells (key s) (key r)) [
    | inl same ↦ rw same.0 (run_keys-cons s ss ∙ ap (λ k. k ∷ run_keys key (after_run key k ss)) same.1)
    | inr other ↦ rw other.0 refl
  ]

  -- ---- the runs of all keys

  keys_above : (k : ℕ) (rs : List R) → AllByRecursion (λ (r : R). k < key r) rs
      → AllByRecursion (λ (j : ℕ). k < j) (run_keys key rs)
  unfolding run_keys
  keys_above k [] all = tt
  keys_above k (r ∷ rs) all = by_test (begins_with key (key r) rs) (keys_above k rs all.1)
    where
      by_test : (b : Bool) → AllByRecursion (λ (j : ℕ). k < j) (run_keys key rs)
          → AllByRecursion (λ (j : ℕ). k < j) (if b then run_keys key rs else key r ∷ run_keys key rs)
      by_test true more = more
      by_test false more = (all.0, more)

  -- rows that do not begin with the key of the row before them are all above it
  all_above : (r : R) (rs : List R) → Climbs key (r ∷ rs) → begins_with key (key r) rs ≡ false
      → AllByRecursion (λ (s : R). key r < key s) rs
  all_above r [] climbs other = tt
  all_above r (s ∷ ss) climbs other = elim (eqb_tells (key s) (key r)) [
    | inl same ↦ search (same.0, other, rules)
    | inr differs ↦ (
        let less : key r < key s = omega (arith, climbs.0.0, differs.1) in
        (less, above (key r) (key s) ss less climbs.1.0)
        )
  ]

  pub keys_rise : (rs : List R) → Climbs key rs → Rises (λ (k : ℕ). k) (run_keys key rs)
  unfolding run_keys
  keys_rise [] climbs = tt
  keys_rise (r ∷ rs) climbs = by_test (begins_with key (key r) rs) refl (keys_rise rs climbs.1)
    where
      by_test : (b : Bool) → begins_with key (key r) rs ≡ b → Rises (λ (k : ℕ). k) (run_keys key rs)
          → Rises (λ (k : ℕ). k) (if b then run_keys key rs else key r ∷ run_keys key rs)
      by_test true is more = more
      by_test false is more = (keys_above (key r) rs (all_above r rs climbs is), more)

  -- to later keys a row in front makes no difference
  others_alike : (r : R) (rs : List R) (ks : List ℕ) → AllByRecursion (λ (k : ℕ). key r < k) ks
      → flat_map (λ (k : ℕ). rows_with key k (r ∷ rs)) ks ≡ flat_map (λ (k : ℕ). rows_with key k rs) ks
  others_alike r rs [] above = refl
  others_alike r rs (k ∷ ks) above =
      rw (ne_eqb (key r) k (λ e. omega (arith, e, above.0)))
      (ap (λ l. rows_with key k rs ++ l) (others_alike r rs ks above.1))

  -- it is the first row of its key
  with_first : (k : ℕ) (later : List ℕ) (r : R) (rs : List R) → key r ≡ k → AllByRecursion (λ (j : ℕ). k < j) later
      → flat_map (λ (j : ℕ). rows_with key j (r ∷ rs)) (k ∷ later)
      ≡ r ∷ (rows_with key k rs ++ flat_map (λ (j : ℕ). rows_with key j rs) later)
  with_first k later r rs same above =
      rw (eq-eqb (key r) k same) (ap (λ l. r ∷ (rows_with key k rs ++ l))
      (others_alike r rs later (subst (λ (k : ℕ). AllByRecursion (λ (j : ℕ). k < j) later) (sym same) above)))

  keys_later : (k : ℕ) (rs : List R) → AllByRecursion (λ (r : R). k ≤ key r) rs → Climbs key rs
      → AllByRecursion (λ (j : ℕ). k < j) (run_keys key (after_run key k rs))
  keys_later k rs all climbs = keys_above k (after_run key k rs) (subst (AllByRecursion (λ (r : R). k < key r))
      (sym (front_after k rs all))
      (above k (k + 1) (from_key key (k + 1) rs) (omega arith) (from_is_above (k + 1) rs climbs)))

  -- the runs of all keys, one behind another, are the rows
  pub runs_are_all : (rs : List R) → Climbs key rs → flat_map (λ (k : ℕ). rows_with key k rs) (run_keys key rs) ≡ rs
  unfolding run_keys
  runs_are_all [] climbs = refl
  runs_are_all (r ∷ rs) climbs = one_more rs climbs (begins_with key (key r) rs) refl (runs_are_all rs climbs.1)
    where
      one_more : (rs : List R) → Climbs key (r ∷ rs) → (b : Bool) → begins_with key (key r) rs ≡ b
          → flat_map (λ (k : ℕ). rows_with key k rs) (run_keys key rs) ≡ rs
          → flat_map (λ (k : ℕ). rows_with key k (r ∷ rs)) (if b then run_keys key rs else key r ∷ run_keys key rs)
          ≡ r ∷ rs
      one_more rs climbs false is all =
          let higher : AllByRecursion (λ (s : R). key r < key s) rs = all_above r rs climbs is in
          with_first (key r) (run_keys key rs) r rs refl (keys_above (key r) rs higher)
          ∙ ap (λ l. r ∷ (l ++ flat_map (λ (k : ℕ). rows_with key k rs) (run_keys key rs))) (none_above (key r) rs higher)
          ∙ ap (λ l. r ∷ l) all
      one_more [] climbs true is all = search (is, rules)
      one_more (s ∷ ss) climbs true is all = elim (eqb_tells (key s) (key r)) [
        | inl same ↦ (
            let cons = run_keys-cons s ss in
            ap (flat_map (λ (k : ℕ). rows_with key k (r ∷ s ∷ ss))) cons
            ∙ with_first (key s) (run_keys key (after_run key (key s) ss)) r (s ∷ ss) (sym same.1)
            (keys_later (key s) ss climbs.1.0 climbs.1.1)
            ∙ ap (λ ks. r ∷ flat_map (λ (k : ℕ). rows_with key k (s ∷ ss)) ks) (sym cons)
            ∙ ap (λ l. r ∷ l) all
            )
        | inr differs ↦ search (differs.0, is, rules)
      ]
