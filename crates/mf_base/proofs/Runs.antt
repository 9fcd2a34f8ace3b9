-- The bytes up to the first without the top bit, and what follows them.
use Rattle.std.proofs.Common.{◌≡◌, ℕ, suc, ◌<◌, ◌≤◌, List, [], ◌∷◌, ◌++◌, length, take, refl, sym, ap, ◌∙◌, arith, inl}
use Rattle.std.proofs.Common.{inr}
use Rattle.std.proofs.lemmas.Bool.{cases_lt, lt-ltb, le-ltb}
use Rattle.std.proofs.lemmas.List.{take_at, length-take}
use Rattle.mf_base.specs.Spelling.{high_run, first_run}

pub high_run-low : (b : ℕ) (c : List ℕ) → b < 128 → high_run (b ∷ c) ≡ 0
high_run-low b c low = rw (lt-ltb b 128 low) refl

pub high_run-high : (b : ℕ) (c : List ℕ) → 128 ≤ b → high_run (b ∷ c) ≡ suc (high_run c)
high_run-high b c high = rw (le-ltb b 128 high) refl

pub high_run-append : (bytes rest : List ℕ) → length bytes ≡ suc (high_run bytes)
    → high_run (bytes ++ rest) ≡ high_run bytes
high_run-append [] rest run = absurd (omega arith)
high_run-append (b ∷ c) rest run =
    elim (cases_lt b 128) [
      | inl low ↦ high_run-low b (c ++ rest) low ∙ sym (high_run-low b c low)
      | inr high ↦
          let e = high_run-high b c high in
          high_run-high b (c ++ rest) high ∙ ap suc (high_run-append c rest (omega (arith, e, run))) ∙ sym e
    ]

pub first_run-append : (bytes rest : List ℕ) → length bytes ≡ suc (high_run bytes) → first_run (bytes ++ rest) ≡ bytes
first_run-append bytes rest run = rw (high_run-append bytes rest run) (take_at bytes rest (suc (high_run bytes)) run)

pub length-first_run : (bytes : List ℕ) → high_run bytes < length bytes
    → length (first_run bytes) ≡ suc (high_run bytes)
length-first_run bytes lt = omega (arith, length-take (suc (high_run bytes)) bytes)

pub high_run-first_run : (bytes : List ℕ) → high_run bytes < length bytes → high_run (first_run bytes) ≡ high_run bytes
high_run-first_run [] lt = refl
high_run-first_run (b ∷ c) lt =
    elim (cases_lt b 128) [
      | inl low ↦ let e = high_run-low b c low in rw e (high_run-low b (take 0 c) low)
      | inr high ↦
          let e = high_run-high b c high in
          let rest = high_run-first_run c (omega (arith, e)) in
          rw e (high_run-high b (first_run c) high ∙ ap suc rest)
    ]
