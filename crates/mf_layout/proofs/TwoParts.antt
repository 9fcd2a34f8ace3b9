-- What calls leave of a store in which two parts are written.
use Rattle.std.proofs.Common.{◌≡◌, ◌≢◌, ℕ, refl, sym, subst, ◌∙◌}
use Rattle.mf_edge.specs.Spill.{SpillState}
use Rattle.mf_rows.specs.RowKinds.{Kind}
use Rattle.spill_parts.specs.Parts.{Piece, IsThere, Reading, PageBytes, IsReading}
use Rattle.mf_layout.specs.Laid.{TouchesTwo}

-- nothing was called
pub two-none : (p q : ℕ) (a : SpillState) → TouchesTwo p q a a
two-none p q a = record {
  same = record { name = refl; started = refl; tells = refl };
  count = refl;
  overrun = refl;
  sizes = λ n _ _. refl;
  bytes = λ n _ _. refl;
}

-- one call after another, under the numbers that the parts have now
pub two-then : (p q p_now q_now : ℕ) (a b c : SpillState) → TouchesTwo p q a b → p_now ≡ p → q_now ≡ q
    → TouchesTwo p_now q_now b c → TouchesTwo p q a c
two-then p q p_now q_now a b c first same_p same_q then =
    let next : TouchesTwo p q b c =
    subst (λ n. TouchesTwo p n b c) same_q (subst (λ n. TouchesTwo n q_now b c) same_p then) in
    record {
      same = record {
        name = next.same.name ∙ first.same.name;
        started = next.same.started ∙ first.same.started;
        tells = next.same.tells ∙ first.same.tells;
      };
      count = next.count ∙ first.count;
      overrun = next.overrun ∙ first.overrun;
      sizes = λ n no_p no_q. next.sizes n no_p no_q ∙ first.sizes n no_p no_q;
      bytes = λ n no_p no_q. next.bytes n no_p no_q ∙ first.bytes n no_p no_q;
    }

-- another part is as it was
pub two-kept : (p q : ℕ) (piece : Piece) (a b : SpillState) → piece.part ≢ p → piece.part ≢ q → TouchesTwo p q a b
    → IsThere piece a → IsThere piece b
two-kept p q piece a b no_p no_q only is = record {
  size = only.sizes piece.part no_p no_q ∙ is.size;
  bytes = λ told. only.bytes piece.part no_p no_q ∙ is.bytes (sym only.same.tells ∙ told);
}

pub two-reading : {K : Type 0} (kind : Kind K) (p q : ℕ) (r : Reading K) (page : PageBytes) (a b : SpillState)
    → r.source.part ≢ p → r.source.part ≢ q → TouchesTwo p q a b → IsReading kind r page a → IsReading kind r page b
two-reading kind p q r page a b no_p no_q only is = record {
  held = two-kept p q _ a b no_p no_q only is.held;
  given = is.given;
  some = is.some;
  within = is.within;
  on_page = λ told. is.on_page (sym only.same.tells ∙ told);
}
