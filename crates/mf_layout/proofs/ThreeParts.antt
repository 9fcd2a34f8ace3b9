-- The store has the rows of members and the two parts that tiles are put to, and in the end these two alone.
use Rattle.std.proofs.Common.{◌≡◌, ◌≢◌, ℕ, ◌+◌, List, [], ◌∷◌, ◌++◌, length, Some, refl, sym, ap, ◌∙◌, subst}
use Rattle.std.specs.List.{AllByRecursion}
use Rattle.std.proofs.lemmas.List.{length-append}
use Rattle.mf_edge.specs.Spill.{SpillState, SameStore, IsMade, IsForgotten}
use Rattle.mf_rows.specs.Kinds.{index_kind}
use Rattle.mf_rows.specs.declared.kinds.IndexRow.{IndexRow}
use Rattle.spill_parts.specs.Parts.{Part, BytePart, Piece, piece_of, IsThere, AllDiffer, HasJust}
use Rattle.spill_parts.proofs.JustParts.{just-less}
use Rattle.spill_parts.proofs.Kept.{there_kept, apart_from_made}
use Rattle.mf_layout.specs.Laid.{AreThere, TouchesTwo}
use Rattle.mf_layout.specs.Layouts.{piece_in}

-- ---- a part of bytes more

module _ (p : BytePart) {s t : SpillState} (made : IsMade p.part s t) (empty : p.size ≡ 0) (same : SameStore s t) where
  bytes_there : IsThere (piece_in t p) t
  bytes_there = record { size = made.size ∙ ap Some (sym empty); bytes = λ _. refl }

  differ-more : (pieces : List Piece) → AllByRecursion (λ q. IsThere q s) pieces → AllDiffer pieces
      → AllDiffer (pieces ++ piece_in t p ∷ [])
  differ-more [] all differ = (tt, tt)
  differ-more (b ∷ pieces) all differ = (others pieces differ.0, differ-more pieces all.1 differ.1)
    where
      others : (qs : List Piece) → AllByRecursion (λ (q : Piece). q.part ≢ b.part) qs
          → AllByRecursion (λ (q : Piece). q.part ≢ b.part) (qs ++ piece_in t p ∷ [])
      others [] each = ((λ e. apart_from_made {p = b} made all.0 (sym e)), tt)
      others (q ∷ qs) each = (each.0, others qs each.1)

  there-more : (pieces : List Piece) → AllByRecursion (λ q. IsThere q s) pieces
      → AllByRecursion (λ q. IsThere q t) (pieces ++ piece_in t p ∷ [])
  there-more [] all = (bytes_there, tt)
  there-more (b ∷ pieces) all =
      (there_kept p.part (apart_from_made {p = b} made all.0) made.others same.tells all.0, there-more pieces all.1)

  pub just-bytes : (pieces : List Piece) → HasJust pieces s → HasJust (pieces ++ piece_in t p ∷ []) t
  just-bytes pieces just =
      let long : length (pieces ++ piece_in t p ∷ []) ≡ length pieces + 1 = length-append pieces (piece_in t p ∷ []) in
      let one : s.count + 1 ≡ length pieces + 1 = ap (λ n. n + 1) just.count in
      record {
        started = same.started ∙ just.started;
        count = made.count ∙ one ∙ sym long;
        differ = differ-more pieces just.there just.differ;
        there = there-more pieces just.there;
      }

-- ---- the two parts were put to

-- the two parts, as a store has them
abbrev pub two_pieces : SpillState → Part IndexRow → BytePart → List Piece
two_pieces s index tiles = piece_of index_kind index ∷ piece_in s tiles ∷ []

pub just-touched : (first : Piece) (index index_now : Part IndexRow) (tiles tiles_now : BytePart) (s t : SpillState)
    → index_now.part ≡ index.part → tiles_now.part ≡ tiles.part → TouchesTwo index.part tiles.part s t
    → AreThere index_now tiles_now t → HasJust (first ∷ two_pieces s index tiles) s
    → HasJust (first ∷ two_pieces t index_now tiles_now) t
just-touched first index index_now tiles tiles_now s t e f only there_now just = record {
  started = only.same.started ∙ just.started;
  count = only.count ∙ just.count;
  differ = (
    ((λ same. just.differ.0.0 (sym e ∙ same)), ((λ same. just.differ.0.1.0 (sym f ∙ same)), tt)),
    (((λ same. just.differ.1.0.0 (sym f ∙ same ∙ e)), tt), (tt, tt)),
  );
  there = (
    record {
      size = only.sizes first.part (λ same. just.differ.0.0 (sym same)) (λ same. just.differ.0.1.0 (sym same))
          ∙ just.there.0.size;
      bytes = λ told. only.bytes first.part (λ same. just.differ.0.0 (sym same)) (λ same. just.differ.0.1.0 (sym same))
          ∙ just.there.0.bytes (sym only.same.tells ∙ told);
    },
    (there_now.rows, (record { size = there_now.bytes; bytes = λ _. refl }, tt)),
  );
}

-- ---- the rows of members are gone

pub just-last : (first : Piece) (index : Part IndexRow) (tiles : BytePart) (s t : SpillState)
    → IsForgotten first.part s t → SameStore s t → HasJust (first ∷ two_pieces s index tiles) s
    → HasJust (two_pieces t index tiles) t
just-last first index tiles s t gone same just =
    let less = just-less (two_pieces s index tiles) first gone same [] just in
    subst (λ (bytes : List ℕ). HasJust (piece_of index_kind index ∷ record {
      part = tiles.part;
      size = tiles.size;
      bytes = bytes;
    } ∷ []) t) (sym (gone.others.bytes tiles.part just.differ.0.1.0)) less
