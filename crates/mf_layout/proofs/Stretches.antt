-- Bytes of a part that are put one stretch behind another.
use Rattle.std.proofs.Common.{◌≡◌, ℕ, ◌+◌, ◌-◌, ◌<◌, ◌≤◌, List, ◌++◌, take, drop, refl, sym, ap, ◌∙◌, arith, length}
use Rattle.std.proofs.Common.{Option, Some, None}
use Rattle.std.proofs.lemmas.List.{length-take-le, length-drop, append-nil}
use Rattle.std.proofs.Math.Seq.{take-add, drop-drop}
use Rattle.mf_edge.specs.Device.{Gains, GainsFront}
use Rattle.mf_edge.proofs.Putting.{Gains-then, GainsFront-then, GainsFront-longer}

-- the bytes between two places, and so many more
stretch-join : (bytes : List ℕ) (from at n : ℕ) → from ≤ at
    → take (at - from) (drop from bytes) ++ take n (drop at bytes) ≡ take (at + n - from) (drop from bytes)
stretch-join bytes from at n le =
    let place : from + (at - from) ≡ at = omega (arith, le) in
    let sum : at - from + n ≡ at + n - from = omega (arith, le) in
    (λ i. take (at - from) (drop from bytes) ++ take n (drop (sym place i) bytes))
    ∙ ap (λ bs. take (at - from) (drop from bytes) ++ take n bs) (sym (drop-drop (at - from) from bytes))
    ∙ sym (take-add (at - from) n (drop from bytes))
    ∙ ap (λ k. take k (drop from bytes)) sum

-- so many bytes more were put
pub stretch-more : (before mid now : Option (List ℕ)) (bytes : List ℕ) (from at n : ℕ) → from ≤ at
    → Gains before (take (at - from) (drop from bytes)) mid → Gains mid (take n (drop at bytes)) now
    → Gains before (take (at + n - from) (drop from bytes)) now
stretch-more before mid now bytes from at n le first second =
    rw (← stretch-join bytes from at n le)
    (Gains-then before mid now (take (at - from) (drop from bytes)) (take n (drop at bytes)) first second)

-- some first bytes of so many more were put
pub stretch-front : (before mid now : Option (List ℕ)) (bytes : List ℕ) (from at n to : ℕ) → from ≤ at → at + n ≤ to
    → Gains before (take (at - from) (drop from bytes)) mid → GainsFront mid (take n (drop at bytes)) now
    → GainsFront before (take (to - from) (drop from bytes)) now
stretch-front before mid now bytes from at n to le most first second =
    let more : from ≤ at + n = omega (arith, le) in
    let end : at + n + (to - (at + n)) - from ≡ to - from = omega (arith, le, most) in
    let here = GainsFront-then before mid now (take (at - from) (drop from bytes)) (take n (drop at bytes)) first second
    in
    rw (← end) (rw (← stretch-join bytes from (at + n) (to - (at + n)) more)
    (GainsFront-longer before now (take (at + n - from) (drop from bytes)) (take (to - (at + n)) (drop (at + n) bytes))
    (rw (← stretch-join bytes from at n le) here)))

-- so many bytes from a place on
pub stretch-length : (bytes : List ℕ) (at n : ℕ) → at + n ≤ length bytes → length (take n (drop at bytes)) ≡ n
stretch-length bytes at n le = length-take-le n (drop at bytes) (omega (arith, le, length-drop at bytes))

-- of some bytes none was put yet
pub none-put : (before : Option (List ℕ)) (bytes : List ℕ) → 0 < length bytes → GainsFront before bytes before
none-put None bytes some = (0, some, refl)
none-put (Some all) bytes some = (0, some, ap Some (sym (append-nil all)))
