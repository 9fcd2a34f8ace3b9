-- Rows in the order of their bytes.
use Rattle.std.proofs.Common.{suc, ◌≡◌, List, [], ◌∷◌, ◌++◌, length, map, refl, sym, ap, ◌∙◌, true, false, ◌⊎◌, inl}
use Rattle.std.proofs.Common.{inr}
use Rattle.std.specs.List.{AllByRecursion}
use Rattle.std.proofs.lemmas.Bool.{cases_Bool}
use Rattle.mf_base.specs.Ascending.{Bytes, joined, ascending, is_below, put_in}
use Rattle.mf_rows.specs.RowKinds.{Kind, bytes_of, rows_bytes}
use Rattle.spill_parts.specs.Parts.{put_row_in, ordered_rows}

-- the bytes of rows are their bytes joined
pub rows_bytes-joined : {K : Type 0} (kind : Kind K) (rows : List K)
    → rows_bytes kind rows ≡ joined (map (bytes_of kind) rows)
rows_bytes-joined kind [] = refl
rows_bytes-joined kind (r ∷ rows) = ap (λ more. bytes_of kind r ++ more) (rows_bytes-joined kind rows)

module _ {K : Type 0} (kind : Kind K) where
  put-below : (row first : K) (rows : List K) → is_below (bytes_of kind first) (bytes_of kind row) ≡ true
      → put_row_in kind row (first ∷ rows) ≡ first ∷ put_row_in kind row rows
  put-below row first rows e = rw e refl

  put-here : (row first : K) (rows : List K) → is_below (bytes_of kind first) (bytes_of kind row) ≡ false
      → put_row_in kind row (first ∷ rows) ≡ row ∷ first ∷ rows
  put-here row first rows e = rw e refl

  put_in-below : (row first : Bytes) (rows : List Bytes) → is_below first row ≡ true
      → put_in row (first ∷ rows) ≡ first ∷ put_in row rows
  put_in-below row first rows e = rw e refl

  put_in-here : (row first : Bytes) (rows : List Bytes) → is_below first row ≡ false
      → put_in row (first ∷ rows) ≡ row ∷ first ∷ rows
  put_in-here row first rows e = rw e refl

  bytes_put : (row : K) (rows : List K)
      → map (bytes_of kind) (put_row_in kind row rows) ≡ put_in (bytes_of kind row) (map (bytes_of kind) rows)
  bytes_put row [] = refl
  bytes_put row (b ∷ rows) = by_order (cases_Bool (is_below (bytes_of kind b) (bytes_of kind row))) (bytes_put row rows)
    where
      by_order : (is_below (bytes_of kind b) (bytes_of kind row) ≡ true)
          ⊎ (is_below (bytes_of kind b) (bytes_of kind row) ≡ false)
          → map (bytes_of kind) (put_row_in kind row rows) ≡ put_in (bytes_of kind row) (map (bytes_of kind) rows)
          → map (bytes_of kind) (put_row_in kind row (b ∷ rows))
          ≡ put_in (bytes_of kind row) (map (bytes_of kind) (b ∷ rows))
      by_order (inl e) later = ap (map (bytes_of kind)) (put-below row b rows e)
          ∙ ap (λ (more : List Bytes). bytes_of kind b ∷ more) later
          ∙ sym (put_in-below (bytes_of kind row) (bytes_of kind b) (map (bytes_of kind) rows) e)
      by_order (inr e) later = ap (map (bytes_of kind)) (put-here row b rows e)
          ∙ sym (put_in-here (bytes_of kind row) (bytes_of kind b) (map (bytes_of kind) rows) e)

  pub bytes_ordered : (rows : List K)
      → map (bytes_of kind) (ordered_rows kind rows) ≡ ascending (map (bytes_of kind) rows)
  unfolding ordered_rows ascending
  bytes_ordered [] = refl
  bytes_ordered (row ∷ rows) = bytes_put row (ordered_rows kind rows)
      ∙ ap (put_in (bytes_of kind row)) (bytes_ordered rows)

  length_put : (row : K) (rows : List K) → length (put_row_in kind row rows) ≡ suc (length rows)
  length_put row [] = refl
  length_put row (b ∷ rows) =
      by_order (cases_Bool (is_below (bytes_of kind b) (bytes_of kind row))) (length_put row rows)
    where
      by_order : (is_below (bytes_of kind b) (bytes_of kind row) ≡ true)
          ⊎ (is_below (bytes_of kind b) (bytes_of kind row) ≡ false)
          → length (put_row_in kind row rows) ≡ suc (length rows)
          → length (put_row_in kind row (b ∷ rows)) ≡ suc (suc (length rows))
      by_order (inl e) later = ap length (put-below row b rows e) ∙ ap suc later
      by_order (inr e) later = ap length (put-here row b rows e)

  pub length-ordered : (rows : List K) → length (ordered_rows kind rows) ≡ length rows
  unfolding ordered_rows
  length-ordered [] = refl
  length-ordered (row ∷ rows) = length_put row (ordered_rows kind rows) ∙ ap suc (length-ordered rows)

  module _ (is_row : K → Type 0) where
    all_put : (row : K) (rows : List K) → is_row row → AllByRecursion is_row rows
        → AllByRecursion is_row (put_row_in kind row rows)
    all_put row [] one all = (one, tt)
    all_put row (b ∷ rows) one all =
        by_order (cases_Bool (is_below (bytes_of kind b) (bytes_of kind row))) (all_put row rows one all.1)
      where
        by_order : (is_below (bytes_of kind b) (bytes_of kind row) ≡ true)
            ⊎ (is_below (bytes_of kind b) (bytes_of kind row) ≡ false)
            → AllByRecursion is_row (put_row_in kind row rows) → AllByRecursion is_row (put_row_in kind row (b ∷ rows))
        by_order (inl e) later = rw (put-below row b rows e) (all.0, later)
        by_order (inr e) later = rw (put-here row b rows e) (one, all)

    pub all-ordered : (rows : List K) → AllByRecursion is_row rows → AllByRecursion is_row (ordered_rows kind rows)
    unfolding ordered_rows
    all-ordered [] all = tt
    all-ordered (row ∷ rows) all = all_put row (ordered_rows kind rows) all.0 (all-ordered rows all.1)
