-- A number that stands at the front is read, and what is read stands at the front.
use Rattle.std.proofs.Common.{◌≡◌, ◌⊎◌, ℕ, zero, suc, ◌+◌, ◌*◌, ◌/◌, ◌%◌, ◌^◌, ◌<◌, ◌≤◌, true, List, [], ◌∷◌, ◌++◌}
use Rattle.std.proofs.Common.{length, take, refl, sym, ap, subst, ◌∙◌, arith, inl, inr, Ok}
use Rattle.std.specs.Prelude.{nat_lt, nat_le, ◌||◌, ◌==◌, ℤ, pos, negsuc, nat_abs}
use Rattle.std.proofs.lemmas.Bool.{cases_lt, lt-ltb, le-leb, ltb-true, leb-true, and_from, and_parts, or_left, or_right}
use Rattle.std.proofs.lemmas.Bool.{or_cases, eq-eqb, ne_eqb, cases_eq}
use Rattle.std.proofs.lemmas.List.{length-append}
use Rattle.mf_base.specs.Spelling.{IsBytes, IsVbe, IsVbeUnsigned, IsVbeSigned, IsVarint, vbe, vbe_unsigned, vbe_signed}
use Rattle.mf_base.specs.Spelling.{zigzag_of, unzigzag_of, high_run, sevens, first_run}
use Rattle.mf_base.specs.NumberReading.{has_end, is_narrow, run_size, varint_front, run_magnitude, run_sign, vbe_front}
use Rattle.mf_base.specs.NumberReading.{unsigned_front, with_sign, signed_front}
use Rattle.mf_base.proofs.ByteLaws.{take-bytes}
use Rattle.mf_base.proofs.StepLaws.{bind_ok, require_ok, ok_is}
use Rattle.mf_base.proofs.OneSpelling.{vbe-only, vbe-is, vbe-small, vbe-more, length-vbe_unsigned-63}
use Rattle.mf_base.proofs.OneSpelling.{length-vbe_signed-63}
use Rattle.mf_base.proofs.Runs.{high_run-low, high_run-high, high_run-append, first_run-append, length-first_run}
use Rattle.mf_base.proofs.Runs.{high_run-first_run}

-- ---- the tests of a run

has_end-run : (bytes : List ℕ) → high_run bytes < length bytes → has_end bytes ≡ true
has_end-run bytes whole =
    or_left (nat_lt (high_run bytes) (length bytes)) (nat_le 10 (length bytes))
    (lt-ltb (high_run bytes) (length bytes) whole)

is_narrow-run : (bytes : List ℕ) (limit n : ℕ) → high_run bytes < 10 → n < limit → is_narrow bytes limit n ≡ true
is_narrow-run bytes limit n few fits =
    and_from (nat_lt (high_run bytes) 10) (nat_lt n limit) (lt-ltb (high_run bytes) 10 few) (lt-ltb n limit fits)

-- what the two tests tell of a run
pub record IsRun (bytes : List ℕ) (limit n : ℕ) : Type 0 where
  pub few : high_run bytes < 10
  pub whole : high_run bytes < length bytes
  pub fits : n < limit

run_from : (bytes : List ℕ) (limit n : ℕ) → has_end bytes ≡ true → is_narrow bytes limit n ≡ true → IsRun bytes limit n
run_from bytes limit n ended narrow =
    let parts = and_parts (nat_lt (high_run bytes) 10) (nat_lt n limit) narrow in
    let few = ltb-true (high_run bytes) 10 parts.0 in
    record {
      few = few;
      whole = whole few (or_cases (nat_lt (high_run bytes) (length bytes)) (nat_le 10 (length bytes)) ended);
      fits =
          ltb-true n limit parts.1;
    }
  where
    whole : high_run bytes < 10 → (nat_lt (high_run bytes) (length bytes) ≡ true) ⊎ (nat_le 10 (length bytes) ≡ true)
        → high_run bytes < length bytes
    whole few (inl e) = ltb-true (high_run bytes) (length bytes) e
    whole few (inr ten) = let t = leb-true 10 (length bytes) ten in omega (arith, t, few)

-- a run that is alone, behind nothing
pub record IsAlone (run rest : List ℕ) : Type 0 where
  pub whole : high_run (run ++ rest) < length (run ++ rest)
  pub count : high_run (run ++ rest) ≡ high_run run
  pub front : first_run (run ++ rest) ≡ run

alone : (run rest : List ℕ) → length run ≡ suc (high_run run) → IsAlone run rest
alone run rest one =
    let count = high_run-append run rest one in
    record {
      whole = omega (arith, count, one, length-append run rest);
      count = count;
      front = first_run-append run rest one;
    }

-- ---- varints

varint-passes : (bytes : List ℕ) → high_run bytes < length bytes → high_run bytes < 10
    → sevens (first_run bytes) < 2 ^ 64 → varint_front bytes ≡ Ok (sevens (first_run bytes), run_size bytes)
unfolding varint_front
varint-passes bytes whole few fits =
    rw (has_end-run bytes whole, is_narrow-run bytes (2 ^ 64) (sevens (first_run bytes)) few fits) refl

pub varint_reads : (n : ℕ) (b rest : List ℕ) → IsVarint n b → varint_front (b ++ rest) ≡ Ok (n, length b)
varint_reads n b rest v =
    let a = alone b rest v.run in
    let value : sevens (first_run (b ++ rest)) ≡ n = ap sevens a.front ∙ sym v.value in
    varint-passes (b ++ rest) a.whole (omega (arith, a.count, v.run, v.short)) (rw value v.fits)
    ∙ (rw (value, a.count, v.run) refl)

-- what a varint that was found is
pub record IsFront (n size : ℕ) (bytes : List ℕ) : Type 0 where
  pub some : 0 < size
  pub within : size ≤ length bytes
  pub spelled : IsVarint n (take size bytes)

front_from : (bytes : List ℕ) → IsRun bytes (2 ^ 64) (sevens (first_run bytes))
    → IsFront (sevens (first_run bytes)) (run_size bytes) bytes
front_from bytes r =
    let size = length-first_run bytes r.whole in
    let run = high_run-first_run bytes r.whole in
    record {
      some = omega arith;
      within = omega (arith, r.whole);
      spelled = record {
        short = omega (arith, size, r.few);
        run = omega (arith, size, run);
        fits = r.fits;
        value = refl;
      };
    }

pub varint_found : (bytes : List ℕ) (n size : ℕ) → varint_front bytes ≡ Ok (n, size) → IsFront n size bytes
unfolding varint_front
varint_found bytes n size e =
    let ended = bind_ok _ _ _ e in
    let narrow = bind_ok _ _ _ ended.2 in
    let r = run_from bytes (2 ^ 64) (sevens (first_run bytes)) (require_ok _ _ _ ended.1) (require_ok _ _ _ narrow.1) in
    let pair = ok_is (sevens (first_run bytes), run_size bytes) (n, size) narrow.2 in
    subst (λ (p : ℕ × ℕ). IsFront p.0 p.1 bytes) pair (front_from bytes r)

-- ---- VBE numbers

-- How many bits of a magnitude are in the last byte: seven of an unsigned number, six of a signed one.
data Width : ℕ → Type 0 where
  seven : Width 128
  six : Width 64

-- the bit of a sign beside them
data Sign : ℕ → ℕ → Type 0 where
  plain : {last : ℕ} → Sign last 0
  minus : Sign 64 64

some_bits : (last : ℕ) → Width last → 0 < last
some_bits last seven = omega arith
some_bits last six = omega arith

-- a last byte, taken apart and put together
last-parts : (last sign m byte : ℕ) → Width last → Sign last sign → m < last → byte ≡ m + sign
    → (byte < 128) × (byte % last ≡ m) × (last * (byte / last % 2) ≡ sign)
last-parts last sign m byte seven plain small is =
    (omega (arith, small, is), omega (arith, small, is), omega (arith, small, is))
last-parts last sign m byte six plain small is =
    (omega (arith, small, is), omega (arith, small, is), omega (arith, small, is))
last-parts last sign m byte six minus small is =
    (omega (arith, small, is), omega (arith, small, is), omega (arith, small, is))

last-whole : (last byte : ℕ) → Width last → byte < 128
    → (byte % last < last) × (byte ≡ byte % last + last * (byte / last % 2))
last-whole last byte seven low = (omega (arith, low), omega (arith, low))
last-whole last byte six low = (omega (arith, low), omega (arith, low))

last-sign : (last byte : ℕ) → Width last → byte < 128 → Sign last (last * (byte / last % 2))
last-sign last byte seven low = subst (Sign 128) (omega (arith, low)) plain
last-sign last byte six low = elim (cases_lt byte 64) [
  | inl less ↦ subst (Sign 64) (omega (arith, less)) plain
  | inr more ↦ subst (Sign 64) (omega (arith, low, more)) minus
]

-- a spelling is one run, and tells its magnitude and its sign
record IsSpelledRun (last sign m : ℕ) (bytes : List ℕ) : Type 0 where
  run : length bytes ≡ suc (high_run bytes)
  magnitude : run_magnitude last bytes ≡ m
  signed : run_sign last bytes ≡ sign

spelled_run : (last sign m : ℕ) (bytes : List ℕ) → Width last → Sign last sign → IsVbe last sign m bytes
    → IsSpelledRun last sign m bytes
spelled_run last sign m [] width signed h = absurd h
spelled_run last sign m (b ∷ []) width signed (inl h) =
    let parts = last-parts last sign m b width signed h.0 h.1 in
    record { run = omega (arith, high_run-low b [] parts.0); magnitude = parts.1; signed = parts.2 }
spelled_run last sign m (b ∷ c ∷ d) width signed (inl h) = cc h.2
spelled_run last sign m (b ∷ []) width signed (inr h) = absurd h.2
spelled_run last sign m (b ∷ c ∷ d) width signed (inr h) =
    let e = high_run-high b (c ∷ d) (omega (arith, h.1)) in
    let rest = spelled_run last sign (m / 128) (c ∷ d) width signed h.2 in
    record { run = omega (arith, e, rest.run); magnitude = omega (arith, h.1, rest.magnitude); signed = rest.signed }

vbe-passes : (last : ℕ) (bytes : List ℕ) (sign m : ℕ) → run_magnitude last (first_run bytes) ≡ m
    → run_sign last (first_run bytes) ≡ sign → high_run bytes < length bytes → high_run bytes < 10 → m < 2 ^ 63
    → (nat_lt 0 m || sign == 0) ≡ true → run_size bytes ≤ length (vbe last sign m)
    → vbe_front last bytes ≡ Ok ((sign, m), run_size bytes)
unfolding vbe_front
vbe-passes last bytes sign m em es whole few fits positive short =
    rw (
      em,
      es,
      has_end-run bytes whole,
      is_narrow-run bytes (2 ^ 63) m few fits,
      positive,
      le-leb (run_size bytes) (length (vbe last sign m)) short,
    ) refl

-- what is spelled is read, whatever follows
vbe_front-again : (last sign m : ℕ) (rest : List ℕ) → Width last → Sign last sign → length (vbe last sign m) ≤ 10
    → m < 2 ^ 63 → (nat_lt 0 m || sign == 0) ≡ true
    → vbe_front last (vbe last sign m ++ rest) ≡ Ok ((sign, m), length (vbe last sign m))
vbe_front-again last sign m rest width signed few fits positive =
    let r = spelled_run last sign m (vbe last sign m) width signed (vbe-is last sign m (some_bits last width)) in
    let a = alone (vbe last sign m) rest r.run in
    vbe-passes last (vbe last sign m ++ rest) sign m (ap (run_magnitude last) a.front
    ∙ r.magnitude) (ap (run_sign last) a.front ∙ r.signed) a.whole (omega (arith, a.count, r.run, few)) fits
    positive (omega (arith, a.count, r.run))
    ∙ (rw (a.count, r.run) refl)

-- one run that no shorter spelling has is the spelling of its magnitude under its sign
run-spells : (last : ℕ) (run : List ℕ) → Width last → IsBytes run → length run ≡ suc (high_run run)
    → length run ≤ length (vbe last (run_sign last run) (run_magnitude last run))
    → IsVbe last (run_sign last run) (run_magnitude last run) run
run-spells last [] width small one short = absurd (omega (arith, one))
run-spells last (b ∷ []) width small one short =
    elim (cases_lt b 128) [
      | inl low ↦ (let parts = last-whole last b width low in inl (parts.0, parts.1, refl))
      | inr high ↦ absurd (omega (arith, high_run-high b [] high, one))
    ]
run-spells last (b ∷ c ∷ d) width small one short =
    elim (cases_lt b 128) [
      | inl low ↦ absurd (omega (arith, high_run-low b (c ∷ d) low, one))
      | inr high ↦
          let run : length (c ∷ d) ≡ suc (high_run (c ∷ d)) = omega (arith, high_run-high b (c ∷ d) high, one) in
          let rest : (b % 128 + 128 * run_magnitude last (c ∷ d)) / 128 ≡ run_magnitude last (c ∷ d) = omega arith in
          let spelt = vbe-more last (run_sign last (c ∷ d)) (b % 128 + 128 * run_magnitude last (c ∷ d))
          (some_bits last width) large in
          let shorter : length (c ∷ d) ≤ length (vbe last (run_sign last (c ∷ d)) (run_magnitude last (c ∷ d))) =
          omega (arith, short, ap length spelt, ap (λ k. length (vbe last (run_sign last (c ∷ d)) k)) rest) in
          inr (
            large,
            omega (arith, small 0, high),
            rw rest (run-spells last (c ∷ d) width (λ i. small (suc i)) run shorter),
          )
    ]
  where
    large : last ≤ b % 128 + 128 * run_magnitude last (c ∷ d)
    large = elim (cases_lt (b % 128 + 128 * run_magnitude last (c ∷ d)) last) [
      | inl less ↦ absurd
          (omega (
            arith,
            short,
            ap length (vbe-small last (run_sign last (c ∷ d)) (b % 128 + 128 * run_magnitude last (c ∷ d)) less),
          ))
      | inr more ↦ more
    ]

-- the sign of a run is one that its width has
run-signed : (last : ℕ) (run : List ℕ) → Width last → length run ≡ suc (high_run run) → Sign last (run_sign last run)
run-signed last [] width one = plain
run-signed last (b ∷ []) width one = elim (cases_lt b 128) [
  | inl low ↦ last-sign last b width low
  | inr high ↦ absurd (omega (arith, high_run-high b [] high, one))
]
run-signed last (b ∷ c ∷ d) width one = elim (cases_lt b 128) [
  | inl low ↦ absurd (omega (arith, high_run-low b (c ∷ d) low, one))
  | inr high ↦ run-signed last (c ∷ d) width (omega (arith, high_run-high b (c ∷ d) high, one))
]

-- what a number that was found is
record IsVbeFront (last : ℕ) (bytes : List ℕ) (sign m size : ℕ) : Type 0 where
  within : size ≤ length bytes
  fits : m < 2 ^ 63
  signed : Sign last sign
  positive : (nat_lt 0 m || sign == 0) ≡ true
  spelled : IsVbe last sign m (take size bytes)

vbe_front-found : (last : ℕ) (bytes : List ℕ) (sign m size : ℕ) → Width last → IsBytes bytes
    → vbe_front last bytes ≡ Ok ((sign, m), size) → IsVbeFront last bytes sign m size
unfolding vbe_front
vbe_front-found last bytes sign m size width small e =
    let ended = bind_ok _ _ _ e in
    let narrow = bind_ok _ _ _ ended.2 in
    let positive = bind_ok _ _ _ narrow.2 in
    let short = bind_ok _ _ _ positive.2 in
    let r = run_from bytes (2 ^ 63) (run_magnitude last (first_run bytes)) (require_ok _ _ _ ended.1)
    (require_ok _ _ _ narrow.1) in
    let least = leb-true (run_size bytes)
    (length (vbe last (run_sign last (first_run bytes)) (run_magnitude last (first_run bytes))))
    (require_ok _ _ _ short.1) in
    let count = length-first_run bytes r.whole in
    let one : length (first_run bytes) ≡ suc (high_run (first_run bytes)) =
    omega (arith, count, high_run-first_run bytes r.whole) in
    let pair = ok_is ((run_sign last (first_run bytes), run_magnitude last (first_run bytes)), run_size bytes)
    ((sign, m), size) short.2 in
    subst (λ (p : (ℕ × ℕ) × ℕ). IsVbeFront last bytes p.0.0 p.0.1 p.1) pair
    record {
      within = omega (arith, r.whole);
      fits = r.fits;
      signed = run-signed last (first_run bytes) width one;
      positive = require_ok _ _ _ positive.1;
      spelled = run-spells last (first_run bytes) width (take-bytes (run_size bytes) bytes small) one
          (omega (arith, count, least));
    }

-- ---- unsigned and signed

pub unsigned_front-again : (n : ℕ) (rest : List ℕ) → n < 2 ^ 63
    → unsigned_front (vbe_unsigned n ++ rest) ≡ Ok (n, length (vbe_unsigned n))
unfolding unsigned_front
unsigned_front-again n rest fits =
    let few = length-vbe_unsigned-63 n fits in
    rw (vbe_front-again 128 0 n rest seven plain (omega (arith, few)) fits (or_right (nat_lt 0 n) true refl)) refl

-- what an unsigned number that was found is
pub record IsUnsignedFront (n size : ℕ) (bytes : List ℕ) : Type 0 where
  pub within : size ≤ length bytes
  pub fits : n < 2 ^ 63
  pub spelled : IsVbeUnsigned n (take size bytes)

pub unsigned_front-found : (bytes : List ℕ) (n size : ℕ) → IsBytes bytes → unsigned_front bytes ≡ Ok (n, size)
    → IsUnsignedFront n size bytes
unfolding unsigned_front
unsigned_front-found bytes n size small e =
    let (found, read, last) = bind_ok (vbe_front 128 bytes) (λ (f : (ℕ × ℕ) × ℕ). Ok (f.0.1, f.1)) (n, size) e in
    let is = vbe_front-found 128 bytes found.0.0 found.0.1 found.1 seven small read in
    subst (λ (p : ℕ × ℕ). IsUnsignedFront p.0 p.1 bytes) (ok_is (found.0.1, found.1) (n, size) last)
    record {
      within = is.within;
      fits = is.fits;
      spelled = unsigned_part found.0.0 found.0.1 (take found.1 bytes) is.signed is.spelled;
    }
  where
    no_sign : (last sign m : ℕ) (b : List ℕ) → Sign last sign → last ≡ 128 → IsVbe last sign m b → IsVbe last 0 m b
    no_sign last sign m b plain e h = h
    no_sign last sign m b minus e h = absurd (omega (arith, e))

    unsigned_part : (sign m : ℕ) (b : List ℕ) → Sign 128 sign → IsVbe 128 sign m b → IsVbe 128 0 m b
    unsigned_part sign m b s h = no_sign 128 sign m b s refl h

pub signed_front-again : (z : ℤ) (rest : List ℕ) → nat_abs z < 2 ^ 63
    → signed_front (vbe_signed z ++ rest) ≡ Ok (z, length (vbe_signed z))
unfolding signed_front
signed_front-again (pos m) rest fits =
    rw (vbe_front-again 64 0 m rest six plain (length-vbe_signed-63 0 m fits) fits (or_right (nat_lt 0 m) true refl))
    refl
signed_front-again (negsuc m) rest fits =
    rw (vbe_front-again 64 64 (suc m) rest six minus (length-vbe_signed-63 64 (suc m) fits) fits
    (or_left (nat_lt 0 (suc m)) (64 == 0) (lt-ltb 0 (suc m) (omega arith)))) refl

-- what a signed number that was found is
pub record IsSignedFront (z : ℤ) (size : ℕ) (bytes : List ℕ) : Type 0 where
  pub within : size ≤ length bytes
  pub fits : nat_abs z < 2 ^ 63
  pub spelled : IsVbeSigned z (take size bytes)

signed_part : (last sign m size : ℕ) (bytes : List ℕ) → last ≡ 64 → Sign last sign → (nat_lt 0 m || sign == 0) ≡ true
    → size ≤ length bytes → m < 2 ^ 63 → IsVbe last sign m (take size bytes)
    → IsSignedFront (with_sign (sign, m)) size bytes
signed_part last sign m size bytes e plain positive within fits h =
    record { within = within; fits = fits; spelled = subst (λ k. IsVbe k 0 m (take size bytes)) e h }
signed_part last sign zero size bytes e minus positive within fits h = absurd (cc positive)
signed_part last sign (suc m) size bytes e minus positive within fits h =
    record { within = within; fits = fits; spelled = h }

pub signed_front-found : (bytes : List ℕ) (z : ℤ) (size : ℕ) → IsBytes bytes → signed_front bytes ≡ Ok (z, size)
    → IsSignedFront z size bytes
unfolding signed_front
signed_front-found bytes z size small e =
    let (found, read, last) = bind_ok (vbe_front 64 bytes) (λ (f : (ℕ × ℕ) × ℕ). Ok (with_sign f.0, f.1)) (z, size) e in
    let is = vbe_front-found 64 bytes found.0.0 found.0.1 found.1 six small read in
    subst (λ (p : ℤ × ℕ). IsSignedFront p.0 p.1 bytes) (ok_is (with_sign found.0, found.1) (z, size) last)
    (signed_part 64 found.0.0 found.0.1 found.1 bytes refl is.signed is.positive is.within is.fits is.spelled)

-- ---- spellings and readings, as the laws have them

pub vbe_unsigned-only : (n : ℕ) (b : List ℕ) → IsVbeUnsigned n b → b ≡ vbe_unsigned n
vbe_unsigned-only n b h = vbe-only 128 0 n b (omega arith) h

pub vbe_unsigned-is : (n : ℕ) → IsVbeUnsigned n (vbe_unsigned n)
vbe_unsigned-is n = vbe-is 128 0 n (omega arith)

pub vbe_signed-only : (z : ℤ) (b : List ℕ) → IsVbeSigned z b → b ≡ vbe_signed z
vbe_signed-only (pos m) b h = vbe-only 64 0 m b (omega arith) h
vbe_signed-only (negsuc m) b h = vbe-only 64 64 (suc m) b (omega arith) h

pub vbe_signed-is : (z : ℤ) → IsVbeSigned z (vbe_signed z)
vbe_signed-is (pos m) = vbe-is 64 0 m (omega arith)
vbe_signed-is (negsuc m) = vbe-is 64 64 (suc m) (omega arith)

pub unsigned_reads : (n : ℕ) (b rest : List ℕ) → n < 2 ^ 63 → IsVbeUnsigned n b
    → unsigned_front (b ++ rest) ≡ Ok (n, length b)
unsigned_reads n b rest fits h = rw (vbe_unsigned-only n b h) (unsigned_front-again n rest fits)

pub signed_reads : (z : ℤ) (b rest : List ℕ) → nat_abs z < 2 ^ 63 → IsVbeSigned z b
    → signed_front (b ++ rest) ≡ Ok (z, length b)
signed_reads z b rest fits h = rw (vbe_signed-only z b h) (signed_front-again z rest fits)

pub zigzag-there : (z : ℤ) → unzigzag_of (zigzag_of z) ≡ z
zigzag-there (pos m) = rw (eq-eqb (2 * m % 2) 0 (omega arith)) (ap pos (omega arith))
zigzag-there (negsuc m) = rw (ne_eqb ((2 * m + 1) % 2) 0 (λ e. omega (arith, e))) (ap negsuc (omega arith))

pub zigzag-back : (n : ℕ) → zigzag_of (unzigzag_of n) ≡ n
zigzag-back n = elim (cases_eq (n % 2) 0) [
  | inl even ↦ rw (eq-eqb (n % 2) 0 even) (omega (arith, even))
  | inr odd ↦ rw (ne_eqb (n % 2) 0 odd) (omega (arith, half))
]
  where
    half : (n % 2 ≡ 0) ⊎ (n % 2 ≡ 1)
    half = elim (cases_lt (n % 2) 1) [ inl none ↦ inl (omega (arith, none)) | inr some ↦ inr (omega (arith, some)) ]
