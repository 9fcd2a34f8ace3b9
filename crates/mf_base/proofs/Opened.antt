-- Rooms of bytes that are opened as far as they are used.
use Rattle.std.proofs.Common.{◌≡◌, ◌∙◌, ℕ, ◌+◌, ◌-◌, ◌≤◌, List, [], ◌∷◌, ◌++◌, length, sym, ap, arith, append_assoc}
use Rattle.std.proofs.Common.{append-nil, length-append, max}
use Rattle.std.specs.Prelude.{replicate}
use Rattle.std.proofs.lemmas.List.{replicate-append-replicate}

-- Zeros were put to the end of bytes.
pub record IsOpened (old new : List ℕ) : Type 0 where
  pub items : new ≡ old ++ replicate (length new - length old) 0
  pub longer : length old ≤ length new

pub opened-none : (old : List ℕ) → IsOpened old old
opened-none old = let none : length old - length old ≡ 0 =
    omega arith in record { items = rw none (sym (append-nil old)); longer = omega arith }

pub opened-more : (old new next : List ℕ) → IsOpened old new → next ≡ new ++ 0 ∷ [] → IsOpened old next
opened-more old new next h more =
    let long : length next ≡ length new + 1 = ap length more ∙ length-append new (0 ∷ []) in
    let count : length next - length old ≡ length new - length old + 1 = omega (arith, long, h.longer) in
    record {
      items = more ∙ ap (λ b. b ++ 0 ∷ []) h.items ∙ append_assoc old (replicate (length new - length old) 0) (0 ∷ [])
          ∙ ap (λ b. old ++ b) (replicate-append-replicate (length new - length old) 1 0)
          ∙ ap (λ n. old ++ replicate n 0) (sym count);
      longer = omega (arith, long, h.longer);
    }

pub opened-enough : (old new : List ℕ) (n : ℕ) → IsOpened old new → n ≤ length new → length new ≤ max n (length old)
    → new ≡ old ++ replicate (n - length old) 0
opened-enough old new n h enough few =
    let count : length new - length old ≡ n - length old =
    omega (arith, h.longer, enough, few) in h.items ∙ ap (λ k. old ++ replicate k 0) count

pub ruleset opening = (opened-none, opened-more, opened-enough)
