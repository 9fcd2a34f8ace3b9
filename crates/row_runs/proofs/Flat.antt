-- Items, of which each has rows of its own.
use Rattle.std.proofs.Common.{◌≡◌, ◌≢◌, ℕ, suc, ◌<◌, ◌≤◌, List, [], ◌∷◌, ◌++◌, map, flat_map, length}
use Rattle.std.proofs.Common.{refl, sym, ap, subst, ◌∙◌, arith, eq-eqb, ne_eqb, lt-ltb, append-nil}
use Rattle.std.specs.Prelude.{◌==◌}
use Rattle.std.specs.List.{AllByRecursion, filter}
use Rattle.std.proofs.lemmas.List.Elements.{filter-append}
use Rattle.spill_parts.specs.Join.{Climbs, Rises}
use Rattle.row_runs.specs.Runs.{rows_with, after_run, run_keys, HasItsKey, has_rows}
use Rattle.row_runs.proofs.KeyRuns.{run_keys-cons}

-- ---- lists

all_both : {R : Type 0} (P : R → Type 0) (rs more : List R) → AllByRecursion P rs → AllByRecursion P more
    → AllByRecursion P (rs ++ more)
all_both P [] more all_rs all_more = all_more
all_both P (r ∷ rs) more all_rs all_more = (all_rs.0, all_both P rs more all_rs.1 all_more)

weaker : {R : Type 0} (P Q : R → Type 0) (rs : List R) → ((r : R) → P r → Q r) → AllByRecursion P rs
    → AllByRecursion Q rs
weaker P Q [] then all = tt
weaker P Q (r ∷ rs) then all = (then r all.0, weaker P Q rs then all.1)

-- ---- the rows of a key

module _ {R : Type 0} (key : R → ℕ) where
  all_with : (k : ℕ) (rs : List R) → AllByRecursion (λ (r : R). key r ≡ k) rs → rows_with key k rs ≡ rs
  all_with k [] own = refl
  all_with k (r ∷ rs) own = rw (eq-eqb (key r) k own.0) (ap (λ l. r ∷ l) (all_with k rs own.1))

  none_with : (k j : ℕ) → j ≢ k → (rs : List R) → AllByRecursion (λ (r : R). key r ≡ j) rs → rows_with key k rs ≡ []
  none_with k j other [] own = refl
  none_with k j other (r ∷ rs) own =
      rw (ne_eqb (key r) k (λ e. other (sym own.0 ∙ e))) (none_with k j other rs own.1)

  -- rows of one key in front of greater ones
  climbs_in_front : (k : ℕ) (rs more : List R) → AllByRecursion (λ (r : R). key r ≡ k) rs
      → AllByRecursion (λ (r : R). k < key r) more → Climbs key more → Climbs key (rs ++ more)
  climbs_in_front k [] more own above climbs = climbs
  climbs_in_front k (r ∷ rs) more own above climbs = (
    all_both (λ (s : R). key r ≤ key s) rs more
        (weaker (λ (s : R). key s ≡ k) (λ (s : R). key r ≤ key s) rs (λ s e. omega (arith, e, own.0)) own.1)
        (weaker (λ (s : R). k < key s) (λ (s : R). key r ≤ key s) more (λ s less. omega (arith, less, own.0)) above),
    climbs_in_front k rs more own.1 above climbs,
  )

  passes_run : (k : ℕ) (rs more : List R) → AllByRecursion (λ (r : R). key r ≡ k) rs
      → AllByRecursion (λ (r : R). k < key r) more → after_run key k (rs ++ more) ≡ more
  passes_run k [] [] own above = refl
  passes_run k [] (r ∷ more) own above = rw (ne_eqb (key r) k (λ e. omega (arith, e, above.0))) refl
  passes_run k (r ∷ rs) more own above = rw (eq-eqb (key r) k own.0) (passes_run k rs more own.1 above)

-- ---- items with rising ids

module _ {W R : Type 0} (id : W → ℕ) (key : R → ℕ) (rows_of : W → List R) where
  above_flat : (k : ℕ) (ws : List W) → AllByRecursion (HasItsKey id key rows_of) ws
      → AllByRecursion (λ (w : W). k < id w) ws → AllByRecursion (λ (r : R). k < key r) (flat_map rows_of ws)
  above_flat k [] own above = tt
  above_flat k (w ∷ ws) own above =
      all_both (λ (r : R). k < key r) (rows_of w) (flat_map rows_of ws)
      (weaker (λ (r : R). key r ≡ id w) (λ (r : R). k < key r) (rows_of w) (λ r e. omega (arith, e, above.0)) own.0)
      (above_flat k ws own.1 above.1)

  -- the rows of all items climb
  pub climbs_flat : (ws : List W) → AllByRecursion (HasItsKey id key rows_of) ws → Rises id ws
      → Climbs key (flat_map rows_of ws)
  climbs_flat [] own rises = tt
  climbs_flat (w ∷ ws) own rises =
      climbs_in_front key (id w) (rows_of w) (flat_map rows_of ws) own.0 (above_flat (id w) ws own.1 rises.0)
      (climbs_flat ws own.1 rises.1)

  -- a key that no item has for its id has no rows
  pub none_flat : (k : ℕ) (ws : List W) → AllByRecursion (HasItsKey id key rows_of) ws
      → AllByRecursion (λ (w : W). id w ≢ k) ws → rows_with key k (flat_map rows_of ws) ≡ []
  none_flat k [] own others = refl
  none_flat k (w ∷ ws) own others =
      filter-append (λ (r : R). key r == k) (rows_of w) (flat_map rows_of ws)
      ∙ ap (λ l. l ++ rows_with key k (flat_map rows_of ws)) (none_with key k (id w) others.0 (rows_of w) own.0)
      ∙ none_flat k ws own.1 others.1

  first_of_all : (w : W) (ws : List W) → AllByRecursion (HasItsKey id key rows_of) (w ∷ ws)
      → AllByRecursion (λ (x : W). id w < id x) ws
      → rows_with key (id w) (rows_of w ++ flat_map rows_of ws) ≡ rows_of w
  first_of_all w ws own above =
      filter-append (λ (r : R). key r == id w) (rows_of w) (flat_map rows_of ws)
      ∙ ap (λ l. l ++ rows_with key (id w) (flat_map rows_of ws)) (all_with key (id w) (rows_of w) own.0)
      ∙ ap (λ l. rows_of w ++ l) (none_flat (id w) ws own.1
      (weaker (λ (x : W). id w < id x) (λ (x : W). id x ≢ id w) ws (λ x less e. omega (arith, less, e)) above))
      ∙ append-nil (rows_of w)

  later_ones : (w : W) (rows : List R) → HasItsKey id key rows_of w → (xs : List W)
      → AllByRecursion (λ (x : W). id w < id x) xs
      → AllByRecursion (λ (x : W). rows_with key (id x) rows ≡ rows_of x) xs
      → AllByRecursion (λ (x : W). rows_with key (id x) (rows_of w ++ rows) ≡ rows_of x) xs
  later_ones w rows own [] above all = tt
  later_ones w rows own (x ∷ xs) above all = (
    filter-append (λ (r : R). key r == id x) (rows_of w) rows
        ∙ ap (λ l. l ++ rows_with key (id x) rows)
        (none_with key (id x) (id w) (λ e. omega (arith, e, above.0)) (rows_of w) own)
        ∙ all.0,
    later_ones w rows own xs above.1 all.1,
  )

  -- the rows of an item's id are its own
  pub rows_of_each : (ws : List W) → AllByRecursion (HasItsKey id key rows_of) ws → Rises id ws
      → AllByRecursion (λ (w : W). rows_with key (id w) (flat_map rows_of ws) ≡ rows_of w) ws
  rows_of_each [] own rises = tt
  rows_of_each (w ∷ ws) own rises = (
    first_of_all w ws own rises.0,
    later_ones w (flat_map rows_of ws) own.0 ws rises.0 (rows_of_each ws own.1 rises.1),
  )

  -- the keys of the runs are the ids of the items that have rows
  pub run_keys-flat : (ws : List W) → AllByRecursion (HasItsKey id key rows_of) ws → Rises id ws
      → run_keys key (flat_map rows_of ws) ≡ map id (filter (has_rows rows_of) ws)
  unfolding run_keys
  run_keys-flat [] own rises = refl
  run_keys-flat (w ∷ ws) own rises = go (rows_of w) refl (run_keys-flat ws own.1 rises.1)
    where
      go : (rows : List R) → rows_of w ≡ rows
          → run_keys key (flat_map rows_of ws) ≡ map id (filter (has_rows rows_of) ws)
          → run_keys key (rows_of w ++ flat_map rows_of ws) ≡ map id (filter (has_rows rows_of) (w ∷ ws))
      go [] is more = rw is more
      go (first ∷ rest) is more =
          let mine : AllByRecursion (λ (r : R). key r ≡ id w) (first ∷ rest) =
          subst (AllByRecursion (λ (r : R). key r ≡ id w)) is own.0 in
          ap (λ l. run_keys key (l ++ flat_map rows_of ws)) is
          ∙ run_keys-cons key first (rest ++ flat_map rows_of ws)
          ∙ ap (λ k. k ∷ run_keys key (after_run key k (rest ++ flat_map rows_of ws))) mine.0
          ∙ ap (λ l. id w ∷ run_keys key l)
          (passes_run key (id w) rest (flat_map rows_of ws) mine.1 (above_flat (id w) ws own.1 rises.0))
          ∙ ap (λ l. id w ∷ l) more
          ∙ rw (is, lt-ltb 0 (suc (length rest)) (omega arith)) refl
