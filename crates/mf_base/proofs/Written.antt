-- The steps of the writers of numbers.
use Rattle.std.proofs.Common.{◌≡◌, ◌∙◌, ℕ, zero, suc, ◌+◌, ◌/◌, ◌%◌, ◌<◌, ◌≤◌, List, [], ◌∷◌, ◌++◌, length, take, set}
use Rattle.std.proofs.Common.{refl, inl, inr, arith, append_assoc, length-append, ap}
use Rattle.std.proofs.lemmas.Bool.{cases_lt}
use Rattle.std.proofs.lemmas.List.{take_at, take_more_set, length-take, length-set}
use Rattle.byteorder.specs.Endian.{big_bytes}
use Rattle.byteorder.specs.Numbers.{length-bytes_high_first}
use Rattle.mf_base.specs.Spelling.{vbe}
use Rattle.mf_base.specs.Buffer.{Buffer, AppendsTo}
use Rattle.mf_base.proofs.OneSpelling.{vbe-small, vbe-more, length-vbe_unsigned-63, length-vbe_signed-63}
use Rattle.mf_base.proofs.OneSpelling.{length-vbe-positive}

-- one more byte of a spelling
pub spelled-more : (bytes : List ℕ) (last sign m : ℕ) → 0 < last → last ≤ m
    → (bytes ++ (128 + m % 128) ∷ []) ++ vbe last sign (m / 128) ≡ bytes ++ vbe last sign m
spelled-more bytes last sign m some large = rw (vbe-more last sign m some large, append_assoc) refl

-- What is still to be spelled behind so many bytes completes a spelling.
pub record Completes (bytes : List ℕ) (at last sign rest m : ℕ) : Type 0 where
  pub within : at ≤ length bytes
  pub spelled : take at bytes ++ vbe last sign rest ≡ vbe last sign m

pub completes-none : (bytes : List ℕ) (last sign m : ℕ) → Completes bytes 0 last sign m m
completes-none bytes last sign m = record { within = omega arith; spelled = refl }

-- there is a place for a byte of it
pub place-left : (bytes : List ℕ) (at last sign rest m most : ℕ) → 0 < last → Completes bytes at last sign rest m
    → length (vbe last sign m) ≤ most → at + 1 ≤ most
place-left bytes at last sign rest m most some h short =
    omega (
      arith,
      simp length-append at (ap length h.spelled),
      length-take at bytes,
      h.within,
      short,
      length-vbe-positive last sign rest some,
    )

pub completes-more : (bytes : List ℕ) (at last sign rest m : ℕ) → 0 < last → last ≤ rest → at < length bytes
    → Completes bytes at last sign rest m
    → Completes (set bytes at (128 + rest % 128)) (at + 1) last sign (rest / 128) m
completes-more bytes at last sign rest m some large within h = record {
  within = omega (arith, within, length-set bytes at (128 + rest % 128));
  spelled = rw (take_more_set bytes at (128 + rest % 128) within)
      (spelled-more (take at bytes) last sign rest some large ∙ h.spelled);
}

pub completes-last : (bytes : List ℕ) (at last sign rest m : ℕ) → rest < last → at < length bytes
    → Completes bytes at last sign rest m → take (at + 1) (set bytes at (rest + sign)) ≡ vbe last sign m
completes-last bytes at last sign rest m small within h =
    take_more_set bytes at (rest + sign) within ∙ rw (← vbe-small last sign rest small) h.spelled

pub completes-size : (bytes : List ℕ) (at last sign rest m : ℕ) → rest < last → Completes bytes at last sign rest m
    → at + 1 ≡ length (vbe last sign m)
completes-size bytes at last sign rest m small h =
    let one = ap length (vbe-small last sign rest small) in
    omega (arith, simp length-append at (ap length h.spelled), length-take at bytes, h.within, one)

-- at most so many bytes were put
pub puts-most : (first next : Buffer) (bytes : List ℕ) (n : ℕ) → AppendsTo first next bytes → length bytes ≤ n
    → length next.bytes ≤ length first.bytes + n
puts-most first next bytes n put short = rw put (omega (arith, length-append first.bytes bytes, short))

pub size-more : (last rest size all : ℕ) → 0 < last → last ≤ rest → size + length (vbe last 0 rest) ≡ all
    → size + 1 + length (vbe last 0 (rest / 128)) ≡ all
size-more last rest size all some large h = let e = ap length (vbe-more last 0 rest some large) in omega (arith, h, e)

-- a size is that of the spelling without a sign
length-any_sign : (k last sign m : ℕ) → 0 < last → m < k → length (vbe last sign m) ≡ length (vbe last 0 m)
length-any_sign zero last sign m some less = absurd (omega (arith, less))
length-any_sign (suc k) last sign m some less =
    elim (cases_lt m last) [
      | inl small ↦ rw (vbe-small last sign m small, vbe-small last 0 m small) refl
      | inr large ↦ rw (vbe-more last sign m some large, vbe-more last 0 m some large)
          (ap (λ (n : ℕ). suc n) (length-any_sign k last sign (m / 128) some (omega (arith, large, some, less))))
    ]

pub size-whole : (last sign rest size m : ℕ) → 0 < last → rest < last
    → size + length (vbe last 0 rest) ≡ 1 + length (vbe last 0 m) → size ≡ length (vbe last sign m)
size-whole last sign rest size m some small h =
    let e = ap length (vbe-small last 0 rest small) in
    let same = length-any_sign (suc m) last sign m some (omega arith) in
    omega (arith, h, e, same)

pub be_front : (w v : ℕ) (rest : List ℕ) → take w (big_bytes w v ++ rest) ≡ big_bytes w v
be_front w v rest = take_at (big_bytes w v) rest w (length-bytes_high_first w v)

pub ruleset vbe_sizes = (length-vbe_unsigned-63, length-vbe_signed-63)

-- a spelling of one byte, and one of two
pub vbe-one : (last sign m : ℕ) → m < last → (m + sign) ∷ [] ≡ vbe last sign m
vbe-one last sign m small = rw (vbe-small last sign m small) refl

pub vbe-two : (last sign m : ℕ) → 0 < last → last ≤ m → m / 128 < last
    → (128 + m % 128) ∷ (m / 128 + sign) ∷ [] ≡ vbe last sign m
vbe-two last sign m some large small =
    rw (vbe-more last sign m some large, vbe-small last sign (m / 128) small) refl
