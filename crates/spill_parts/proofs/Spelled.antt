-- Rows that were spelled and put to the end of a part.
use Rattle.std.proofs.Common.{Some, ◌≡◌, ℕ, ◌+◌, ◌*◌, List, ◌++◌, length, sym, ap, ◌∙◌, arith, mul-add, length-append}
use Rattle.std.proofs.lemmas.Grind.{flat_map-append}
use Rattle.mf_edge.specs.Spill.{SpillState, IsAppended}
use Rattle.mf_rows.specs.RowKinds.{Kind, bytes_of, rows_bytes}
use Rattle.spill_parts.specs.Parts.{Part, IsHeld, ArePut}
use Rattle.spill_parts.proofs.Paged.{length-rows_bytes}

pub rows_put : {K : Type 0} (kind : Kind K) → ((r : K) → length (bytes_of kind r) ≡ kind.width)
    → (rows : List K) (w w_now : Part K) (number : ℕ) (more : List ℕ) (s s_now : SpillState)
    → number ≡ w.part → w_now.part ≡ w.part → w_now.rows ≡ w.rows ++ rows → IsHeld kind w s
    → more ≡ rows_bytes kind rows → IsAppended number more s s_now → s_now.tells ≡ s.tells
    → ArePut kind rows w w_now s_now
rows_put kind long rows w w_now number more s s_now same part is held spelled appended tells =
    let place : w_now.part ≡ number = part ∙ sym same in
    let bytes : length more ≡ kind.width * length rows = ap length spelled ∙ length-rows_bytes kind long rows in
    let len : length w_now.rows ≡ length w.rows + length rows = ap length is ∙ length-append w.rows rows in
    let scaled : kind.width * length w_now.rows ≡ kind.width * (length w.rows + length rows) =
    ap (λ (n : ℕ). kind.width * n) len in
    let total : kind.width * length w.rows + length more ≡ kind.width * length w_now.rows =
    omega (arith, scaled, mul-add kind.width (length w.rows) (length rows), bytes) in
    let size : s_now.size number ≡ Some (kind.width * length w.rows + length more) =
    appended.size (kind.width * length w.rows) (ap s.size same ∙ held.size) in
    record {
      part = part;
      rows_now = is;
      held = record {
        size = ap s_now.size place ∙ size ∙ ap (λ (n : ℕ). Some n) total;
        bytes = λ told. ap s_now.bytes place ∙ appended.bytes told
            ∙ ap (λ (b : List ℕ). b ++ more) (ap s.bytes same ∙ held.bytes (sym tells ∙ told))
            ∙ ap (λ (b : List ℕ). rows_bytes kind w.rows ++ b) spelled
            ∙ sym (flat_map-append (bytes_of kind) w.rows rows)
            ∙ sym (ap (rows_bytes kind) is);
      };
    }
