-- Parts of bytes are bytes; and how many a number of a fixed width takes.
use Rattle.std.proofs.Common.{◌≡◌, ℕ, ◌+◌, ◌<◌, List, take, drop, length, subst, sym, arith, inl, inr}
use Rattle.std.proofs.lemmas.Bool.{cases_lt}
use Rattle.std.proofs.lemmas.List.{get_or-take, get_or-drop, get_or_past, length-take}
use Rattle.byteorder.specs.Numbers.{length-bytes_high_first}
use Rattle.mf_base.specs.Spelling.{IsBytes, big_endian}

pub take-bytes : (k : ℕ) (bytes : List ℕ) → IsBytes bytes → IsBytes (take k bytes)
take-bytes k bytes small i =
    elim (cases_lt i k) [
      | inl lt ↦ rw (get_or-take k bytes i 0 lt) (small i)
      | inr le ↦ rw (get_or_past (take k bytes) i 0 (omega (arith, length-take k bytes))) (omega arith)
    ]

pub drop-bytes : (k : ℕ) (bytes : List ℕ) → IsBytes bytes → IsBytes (drop k bytes)
drop-bytes k bytes small i = subst (λ n. n < 256) (sym (get_or-drop k bytes i 0)) (small (k + i))

pub length-big_endian : (width n : ℕ) → length (big_endian width n) ≡ width
unfolding big_endian
length-big_endian width n = length-bytes_high_first width n
