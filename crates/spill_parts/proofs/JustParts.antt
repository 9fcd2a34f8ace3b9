-- The store has just the parts that it had, where one of them was written, one more, where one was made, and one less,
-- where one was forgotten.
use Rattle.std.proofs.Common.{◌≡◌, ◌≢◌, ℕ, ◌+◌, List, [], ◌∷◌, ◌++◌, length, refl, sym, ap, ◌∙◌, subst, arith}
use Rattle.std.specs.List.{AllByRecursion}
use Rattle.std.proofs.lemmas.List.{length-append}
use Rattle.mf_edge.specs.Spill.{SpillState, SameStore, TouchesOnly, IsForgotten}
use Rattle.mf_rows.specs.RowKinds.{Kind}
use Rattle.spill_parts.specs.Parts.{Part, Piece, piece_of, IsThere, IsBegun, AllDiffer, HasJust}
use Rattle.spill_parts.proofs.Kept.{there_kept}

abbrev DifferFrom : ℕ → List Piece → Type 0
DifferFrom n pieces = AllByRecursion (λ (q : Piece). q.part ≢ n) pieces

module _ (after : List Piece) (p p' : Piece) (same : p'.part ≡ p.part) where
  -- a piece in the midst of others
  differ-here : (n : ℕ) (before : List Piece) → DifferFrom n (before ++ p ∷ after) → p.part ≢ n
  differ-here n [] all = all.0
  differ-here n (b ∷ before) all = differ-here n before all.1

  differ-still : (n : ℕ) (before : List Piece) → DifferFrom n (before ++ p ∷ after) → DifferFrom n (before ++ p' ∷ after)
  differ-still n [] all = ((λ e. all.0 (sym same ∙ e)), all.1)
  differ-still n (b ∷ before) all = (all.0, differ-still n before all.1)

  all-differ : (before : List Piece) → AllDiffer (before ++ p ∷ after) → AllDiffer (before ++ p' ∷ after)
  all-differ [] all = (subst (λ n. DifferFrom n after) (sym same) all.0, all.1)
  all-differ (b ∷ before) all = (differ-still b.part before all.0, all-differ before all.1)

  as-many : (before : List Piece) → length (before ++ p' ∷ after) ≡ length (before ++ p ∷ after)
  as-many [] = refl
  as-many (b ∷ before) = let more = as-many before in omega (arith, more)

  module _ {s t : SpillState} (only : TouchesOnly p.part s t) (there : IsThere p' t) where
    others-there : (pieces : List Piece) → DifferFrom p.part pieces → AllByRecursion (λ q. IsThere q s) pieces
        → AllByRecursion (λ q. IsThere q t) pieces
    others-there [] apart all = tt
    others-there (q ∷ pieces) apart all = (
      there_kept p.part apart.0 only.others only.same.tells all.0,
      others-there pieces apart.1 all.1,
    )

    all-there : (before : List Piece) → AllDiffer (before ++ p ∷ after)
        → AllByRecursion (λ q. IsThere q s) (before ++ p ∷ after)
        → AllByRecursion (λ q. IsThere q t) (before ++ p' ∷ after)
    all-there [] differ all = (there, others-there after differ.0 all.1)
    all-there (b ∷ before) differ all = (
      there_kept p.part (λ e. differ-here b.part before differ.0 (sym e)) only.others only.same.tells all.0,
      all-there before differ.1 all.1,
    )

    pub just-still : (before : List Piece) → HasJust (before ++ p ∷ after) s → HasJust (before ++ p' ∷ after) t
    just-still before just = record {
      started = only.same.started ∙ just.started;
      count = only.count ∙ just.count ∙ sym (as-many before);
      differ = all-differ before just.differ;
      there = all-there before just.differ just.there;
    }

-- ---- a part more

module _ {K : Type 0} (kind : Kind K) (w : Part K) {s t : SpillState} (begun : IsBegun kind w s t)
    (same : SameStore s t) (kept : (p : Piece) → IsThere p s → IsThere p t)
    (apart : (p : Piece) → IsThere p s → p.part ≢ w.part) where
  none-has-it : (n : ℕ) (pieces : List Piece) → w.part ≢ n → DifferFrom n pieces
      → DifferFrom n (pieces ++ piece_of kind w ∷ [])
  none-has-it n [] other all = (other, tt)
  none-has-it n (b ∷ pieces) other all = (all.0, none-has-it n pieces other all.1)

  differ-more : (pieces : List Piece) → AllByRecursion (λ q. IsThere q s) pieces → AllDiffer pieces
      → AllDiffer (pieces ++ piece_of kind w ∷ [])
  differ-more [] there all = (tt, tt)
  differ-more (b ∷ pieces) there all =
      (none-has-it b.part pieces (λ e. apart b there.0 (sym e)) all.0, differ-more pieces there.1 all.1)

  there-more : (pieces : List Piece) → AllByRecursion (λ q. IsThere q s) pieces
      → AllByRecursion (λ q. IsThere q t) (pieces ++ piece_of kind w ∷ [])
  there-more [] there = (begun.held, tt)
  there-more (b ∷ pieces) there = (kept b there.0, there-more pieces there.1)

  pub just-more : (pieces : List Piece) → HasJust pieces s → HasJust (pieces ++ piece_of kind w ∷ []) t
  just-more pieces just =
      let long : length (pieces ++ piece_of kind w ∷ []) ≡ length pieces + 1 =
      length-append pieces (piece_of kind w ∷ []) in
      let one : s.count + 1 ≡ length pieces + 1 = ap (λ n. n + 1) just.count in
      record {
        started = same.started ∙ just.started;
        count = begun.count ∙ one ∙ sym long;
        differ = differ-more pieces just.there just.differ;
        there = there-more pieces just.there;
      }

-- ---- a part less

module _ (after : List Piece) (p : Piece) {s t : SpillState} (gone : IsForgotten p.part s t) (same : SameStore s t) where
  differ-less : (n : ℕ) (before : List Piece) → DifferFrom n (before ++ p ∷ after) → DifferFrom n (before ++ after)
  differ-less n [] all = all.1
  differ-less n (b ∷ before) all = (all.0, differ-less n before all.1)

  all-less : (before : List Piece) → AllDiffer (before ++ p ∷ after) → AllDiffer (before ++ after)
  all-less [] all = all.1
  all-less (b ∷ before) all = (differ-less b.part before all.0, all-less before all.1)

  differs : (n : ℕ) (before : List Piece) → DifferFrom n (before ++ p ∷ after) → p.part ≢ n
  differs n [] all = all.0
  differs n (b ∷ before) all = differs n before all.1

  there-behind : (pieces : List Piece) → DifferFrom p.part pieces → AllByRecursion (λ q. IsThere q s) pieces
      → AllByRecursion (λ q. IsThere q t) pieces
  there-behind [] apart all = tt
  there-behind (q ∷ pieces) apart all =
      (there_kept p.part apart.0 gone.others same.tells all.0, there-behind pieces apart.1 all.1)

  there-less : (before : List Piece) → AllDiffer (before ++ p ∷ after)
      → AllByRecursion (λ q. IsThere q s) (before ++ p ∷ after) → AllByRecursion (λ q. IsThere q t) (before ++ after)
  there-less [] differ all = there-behind after differ.0 all.1
  there-less (b ∷ before) differ all = (
    there_kept p.part (λ e. differs b.part before differ.0 (sym e)) gone.others same.tells all.0,
    there-less before differ.1 all.1,
  )

  one-less : (before : List Piece) → length (before ++ p ∷ after) ≡ length (before ++ after) + 1
  one-less [] = omega arith
  one-less (b ∷ before) = let more = one-less before in omega (arith, more)

  pub just-less : (before : List Piece) → HasJust (before ++ p ∷ after) s → HasJust (before ++ after) t
  just-less before just = record {
    started = same.started ∙ just.started;
    count = omega (arith, gone.count, just.count, one-less before);
    differ = all-less before just.differ;
    there = there-less before just.differ just.there;
  }
