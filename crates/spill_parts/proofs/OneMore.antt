-- The store has just the parts that it had, and one more.
use Rattle.std.proofs.Common.{◌≡◌, ◌≢◌, ℕ, ◌+◌, List, [], ◌∷◌, ◌++◌, Some, None, sym, ap, ◌∙◌}
use Rattle.std.specs.List.{AllByRecursion}
use Rattle.std.proofs.lemmas.List.{length-append}
use Rattle.mf_edge.specs.Spill.{SpillState, SameStore}
use Rattle.spill_parts.specs.Parts.{Piece, IsThere, AllDiffer, HasJust}
use Rattle.spill_parts.specs.Join.{IsAdded}
use Rattle.spill_parts.proofs.Kept.{there_kept}

module _ (p : Piece) {s t : SpillState} (added : IsAdded p.part s t) (same : SameStore s t) (there : IsThere p t) where
  apart : (q : Piece) → IsThere q s → q.part ≢ p.part
  apart q is e = let none : Some q.size ≡ None = sym is.size ∙ ap s.size e ∙ added.fresh in absurd (cc none)

  still-there : (q : Piece) → IsThere q s → IsThere q t
  still-there q is = there_kept p.part (apart q is) added.others same.tells is

  differ-from : (n : ℕ) (pieces : List Piece) → p.part ≢ n → AllByRecursion (λ (q : Piece). q.part ≢ n) pieces
      → AllByRecursion (λ (q : Piece). q.part ≢ n) (pieces ++ p ∷ [])
  differ-from n [] other all = (other, tt)
  differ-from n (b ∷ pieces) other all = (all.0, differ-from n pieces other all.1)

  all-differ : (pieces : List Piece) → AllByRecursion (λ q. IsThere q s) pieces → AllDiffer pieces
      → AllDiffer (pieces ++ p ∷ [])
  all-differ [] are differ = (tt, tt)
  all-differ (b ∷ pieces) are differ =
      (differ-from b.part pieces (λ e. apart b are.0 (sym e)) differ.0, all-differ pieces are.1 differ.1)

  all-there : (pieces : List Piece) → AllByRecursion (λ q. IsThere q s) pieces
      → AllByRecursion (λ q. IsThere q t) (pieces ++ p ∷ [])
  all-there [] are = (there, tt)
  all-there (b ∷ pieces) are = (still-there b are.0, all-there pieces are.1)

  pub just-added : (pieces : List Piece) → HasJust pieces s → HasJust (pieces ++ p ∷ []) t
  just-added pieces just = record {
    started = same.started ∙ just.started;
    count = added.count ∙ ap (λ n. n + 1) just.count ∙ sym (length-append pieces (p ∷ []));
    differ = all-differ pieces just.there just.differ;
    there = all-there pieces just.there;
  }
