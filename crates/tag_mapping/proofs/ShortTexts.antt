-- How many bytes the length of a short text takes: for the size of a tag.
use Rattle.std.proofs.Common.{ℕ, ◌/◌, ◌<◌, ◌≤◌, length, arith, inl, inr}
use Rattle.std.proofs.lemmas.Bool.{cases_lt}
use Rattle.mf_base.specs.Spelling.{vbe_unsigned}
use Rattle.mf_base.proofs.OneSpelling.{vbe-small, vbe-more}

-- a number below 16,384 has at most two bytes
pub length-two : (n : ℕ) → n < 16384 → length (vbe_unsigned n) ≤ 2
length-two n small =
    elim (cases_lt n 128) [
      | inl one ↦ rw (vbe-small 128 0 n one) (omega arith)
      | inr two ↦
          rw (vbe-more 128 0 n (omega arith) two, vbe-small 128 0 (n / 128) (omega (arith, small))) (omega arith)
    ]
