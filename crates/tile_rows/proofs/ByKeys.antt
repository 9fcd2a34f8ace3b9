-- Rows of any kind whose keys rise are the order of all lists that have the same rows.
use Rattle.std.proofs.Common.{◌≡◌, ℕ, List, [], ◌∷◌, ◌++◌, map, length, take, drop, refl, sym, ap, ◌∙◌}
use Rattle.std.proofs.Common.{not, cond, Ordering, Less, is_lt, IsTrue, inl, inr, arith}
use Rattle.std.specs.Prelude.{bytes_eq}
use Rattle.std.specs.Cmp.{nat_cmp_is}
use Rattle.std.specs.Ordering.{nat_cmp, ordering_reverse, ordering_then}
use Rattle.std.specs.Cmp.Lexicographic.{slice_cmp, nat_list_cmp_total}
use Rattle.std.specs.List.{AllByRecursion}
use Rattle.std.proofs.lemmas.List.{take-append-drop, length-take-le}
use Rattle.mf_base.specs.Ascending.{Bytes, byte_order, is_below, times, Ascends}
use Rattle.mf_base.proofs.Ordered.{ascending-only}
use Rattle.mf_base.proofs.Pairs.{EachPair}
use Rattle.feature_model.proofs.Totals.{total, total-map, count-total}
use Rattle.map_model.specs.NumberedMembers.{KeyBelow}
use Rattle.mf_rows.specs.RowKinds.{Kind, HasLaws, bytes_of, IsOf, key_order}
use Rattle.mf_rows.specs.NumberOrder.{slice_cmp-append}
use Rattle.spill_parts.specs.Parts.{ordered_rows}
use Rattle.spill_parts.proofs.Ordered.{bytes_ordered, all-ordered}

-- numbers of which the first that differs is smaller are below in the order of numbers
pub below-less : (a b : List ℕ) → KeyBelow a b → slice_cmp nat_cmp a b ≡ Less
below-less [] b h = absurd h
below-less (m ∷ a) [] h = absurd h
below-less (m ∷ a) (n ∷ b) (inl lt) =
    ap (λ (o : Ordering). ordering_then o (slice_cmp nat_cmp a b)) (sym (nat_cmp_is m n Less lt))
below-less (m ∷ a) (n ∷ b) (inr h) =
    ap (λ (o : Ordering). ordering_then o (slice_cmp nat_cmp a b)) (sym (nat_cmp_is m n Ordering.Equal h.0))
    ∙ below-less a b h.1

not-below : (a b : Bytes) → byte_order a b ≡ Less → IsTrue (not (is_below b a))
not-below a b e = ap (λ (r : Ordering). not (is_lt r)) (nat_list_cmp_total.antisymm b a ∙ ap ordering_reverse e)

-- the key of a row is smaller
abbrev pub RowBefore : {K : Type 0} → Kind K → K → K → Type 0
RowBefore kind a b = key_order kind a b ≡ Less

module _ {K : Type 0} (kind : Kind K) (laws : HasLaws kind) where
  abbrev key_bytes : K → Bytes
  key_bytes r = take kind.key (bytes_of kind r)

  abbrev other_bytes : K → Bytes
  other_bytes r = drop kind.key (bytes_of kind r)

  in_two : (r : K) → bytes_of kind r ≡ key_bytes r ++ other_bytes r
  in_two r = sym (take-append-drop kind.key (bytes_of kind r))

  key-length : (r : K) → length (key_bytes r) ≡ kind.key
  key-length r = let long = laws.long r in let within =
      laws.within in length-take-le kind.key (bytes_of kind r) (omega (arith, long, within))

  bytes-before : (a b : K) → IsOf kind a → IsOf kind b → RowBefore kind a b
      → byte_order (bytes_of kind a) (bytes_of kind b) ≡ Less
  bytes-before a b is_a is_b before =
      (λ i. byte_order (in_two a i) (in_two b i))
      ∙ slice_cmp-append (key_bytes a) (key_bytes b) (other_bytes a) (other_bytes b) (key-length a ∙ sym (key-length b))
      ∙ ap (λ (o : Ordering). ordering_then o (byte_order (other_bytes a) (other_bytes b)))
      (laws.orders a b is_a is_b ∙ before)

  ascends : (rows : List K) → AllByRecursion (IsOf kind) rows → EachPair (RowBefore kind) rows
      → Ascends (map (bytes_of kind) rows)
  ascends [] all up = tt
  ascends (a ∷ []) all up = tt
  ascends (a ∷ b ∷ rows) all up = (
    not-below (bytes_of kind a) (bytes_of kind b) (bytes-before a b all.0 all.1.0 up.0.0),
    ascends (b ∷ rows) all.1 up.1,
  )

  -- rows of the kind are known by their bytes
  read-back : (rows : List K) → AllByRecursion (IsOf kind) rows → map kind.row_of (map (bytes_of kind) rows) ≡ rows
  read-back [] all = refl
  read-back (row ∷ rows) all = λ i. laws.reads_back row all.0 i ∷ read-back rows all.1 i

  -- how often bytes stand among those of rows
  times-total : (bytes : Bytes) (rows : List K)
      → times bytes (map (bytes_of kind) rows) ≡ total (λ r. cond (bytes_eq bytes (bytes_of kind r)) 1 0) rows
  times-total bytes rows = count-total (bytes_eq bytes) (map (bytes_of kind) rows)
      ∙ total-map (λ other. cond (bytes_eq bytes other) 1 0) (bytes_of kind) rows

  bytes-are : (rows others : List K) → AllByRecursion (IsOf kind) others → EachPair (RowBefore kind) others
      → ((f : K → ℕ) → total f rows ≡ total f others)
      → map (bytes_of kind) (ordered_rows kind rows) ≡ map (bytes_of kind) others
  bytes-are rows others all up same =
      bytes_ordered kind rows
      ∙ sym (ascending-only (map (bytes_of kind) rows) (map (bytes_of kind) others) (record {
        same = λ bytes. times-total bytes others ∙ sym (same (λ r. cond (bytes_eq bytes (bytes_of kind r)) 1 0))
            ∙ sym (times-total bytes rows);
        ascends = ascends others all up;
      }))

  -- Rows with rising keys, each as often as among others, are the order of these.
  pub ordered-by_keys : (rows others : List K) → AllByRecursion (IsOf kind) rows → AllByRecursion (IsOf kind) others
      → EachPair (RowBefore kind) others → ((f : K → ℕ) → total f rows ≡ total f others)
      → ordered_rows kind rows ≡ others
  ordered-by_keys rows others all also up same =
      sym (read-back (ordered_rows kind rows) (all-ordered kind (IsOf kind) rows all))
      ∙ ap (map kind.row_of) (bytes-are rows others also up same) ∙ read-back others also
