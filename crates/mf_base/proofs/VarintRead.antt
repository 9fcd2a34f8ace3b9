-- The steps of the reader of varints.
use Rattle.std.proofs.Common.{◌≡◌, ◌⊎◌, ℕ, zero, suc, ◌+◌, ◌-◌, ◌*◌, ◌%◌, ◌^◌, ◌<◌, ◌≤◌, List, [], ◌∷◌, ◌++◌, length}
use Rattle.std.proofs.Common.{take, drop, get_or, add-one, refl, sym, ap, ◌∙◌, arith, inl, inr, true, false, Result, Ok}
use Rattle.std.proofs.Common.{Err}
use Rattle.std.specs.Prelude.{nat_lt, nat_le, slice_range}
use Rattle.std.proofs.lemmas.Bool.{cases_lt, lt-ltb, le-ltb, le-leb, lt-leb, and_left, and_right, or_left, or_right}
use Rattle.std.proofs.lemmas.Nat.{mul-le}
use Rattle.std.proofs.lemmas.List.{length-take, length-drop, length-append, take_rest, nil_from_length}
use Rattle.std.proofs.Math.Nat.{pow-suc, pow-le-pow_right}
use Rattle.mf_base.specs.declared.number.VarintFault.{VarintFault}
use Rattle.mf_base.specs.declared.number.VarintFault.TheVariants.{Short, Long}
use Rattle.mf_base.specs.Spelling.{IsVarint, high_run, sevens, first_run}
use Rattle.mf_base.specs.NumberReading.{has_end, is_narrow, varint_front, read_at}
use Rattle.mf_base.proofs.NumberLemmas.{varint_reads, varint_found}
use Rattle.mf_base.proofs.Runs.{high_run-low, high_run-high}

-- ---- runs

high_run-le : (bytes : List ℕ) → high_run bytes ≤ length bytes
high_run-le [] = omega arith
high_run-le (b ∷ c) = elim (cases_lt b 128) [
  | inl low ↦ rw (high_run-low b c low) (omega arith)
  | inr high ↦ rw (high_run-high b c high) (omega (arith, high_run-le c))
]

-- a run of i bytes goes on at a byte with the top bit, and ends at one without
high_run-more : (bytes : List ℕ) (i : ℕ) → i ≤ high_run bytes → i < length bytes → 128 ≤ get_or bytes i 0
    → i + 1 ≤ high_run bytes
high_run-more [] i le lt high = absurd (omega (arith, lt))
high_run-more (b ∷ c) zero le lt high = rw (high_run-high b c high) (omega arith)
high_run-more (b ∷ c) (suc i) le lt high = elim (cases_lt b 128) [
  | inl low ↦ absurd (omega (arith, high_run-low b c low, le))
  | inr up ↦ (let e = high_run-high b c up in
      let rest = high_run-more c i (omega (arith, e, le)) (omega (arith, lt)) high in omega (arith, e, rest))
]

high_run-ends : (bytes : List ℕ) (i : ℕ) → i ≤ high_run bytes → i < length bytes → get_or bytes i 0 < 128
    → high_run bytes ≡ i
high_run-ends [] i le lt low = absurd (omega (arith, lt))
high_run-ends (b ∷ c) zero le lt low = high_run-low b c low
high_run-ends (b ∷ c) (suc i) le lt low = elim (cases_lt b 128) [
  | inl down ↦ absurd (omega (arith, high_run-low b c down, le))
  | inr up ↦ (let e = high_run-high b c up in
      let rest = high_run-ends c i (omega (arith, e, le)) (omega (arith, lt)) low in omega (arith, e, rest))
]

sevens-lt : (bytes : List ℕ) → sevens bytes < 128 ^ length bytes
sevens-lt [] = omega arith
sevens-lt (b ∷ c) = rw (pow-suc 128 (length c)) (omega (arith, sevens-lt c))

scaled : (p q x : ℕ) → q ≡ p * 128 → q * x ≡ 128 * (p * x)
scaled p q x e = rw e (grind arith)

-- one byte more at the end
sevens-more : (bytes : List ℕ) (i : ℕ) → i < length bytes
    → sevens (take (suc i) bytes) ≡ sevens (take i bytes) + 128 ^ i * (get_or bytes i 0 % 128)
sevens-more [] i lt = absurd (omega (arith, lt))
sevens-more (b ∷ c) zero lt = omega arith
sevens-more (b ∷ c) (suc i) lt =
    let rest = sevens-more c i (omega (arith, lt)) in
    let weighed = scaled (128 ^ i) (128 ^ suc i) (get_or c i 0 % 128) (pow-suc 128 i) in
    omega (arith, rest, weighed)

-- ---- the loop

-- The first bytes, up to nine of them, all have the top bit: the weight of the next byte, and their number.
pub record ReadSoFar (bytes : List ℕ) (run scale value : ℕ) : Type 0 where
  pub few : run ≤ 9
  pub high : run ≤ high_run bytes
  pub within : run ≤ length bytes
  pub weight : scale ≡ 128 ^ run
  pub number : value ≡ sevens (take run bytes)

pub read-none : (bytes : List ℕ) → ReadSoFar bytes 0 1 0
read-none bytes = record { few = omega arith; high = omega arith; within = omega arith; weight = refl; number = refl }

-- the number is below the weight of the next byte
value-lt : (bytes : List ℕ) (run scale value : ℕ) → ReadSoFar bytes run scale value → value < scale
value-lt bytes run scale value r =
    let size : length (take run bytes) ≡ run = omega (arith, length-take run bytes, r.within) in
    let less = rw size at (sevens-lt (take run bytes)) in
    omega (arith, less, r.weight, r.number)

scale-le : (bytes : List ℕ) (run scale value k : ℕ) → ReadSoFar bytes run scale value → run ≤ k → scale ≤ 128 ^ k
scale-le bytes run scale value k r le = rw r.weight (pow-le-pow_right (omega arith) le)

-- a byte of so many bits under its weight
weighed-le : (bytes : List ℕ) (run scale value k byte most : ℕ) → ReadSoFar bytes run scale value → run ≤ k
    → byte ≤ most → scale * byte ≤ 128 ^ k * most
weighed-le bytes run scale value k byte most r le small =
    mul-le scale byte (128 ^ k) most (scale-le bytes run scale value k r le) small

pub read-more : (bytes : List ℕ) (run scale value byte : ℕ) → ReadSoFar bytes run scale value → run < length bytes
    → run < 9 → byte ≡ get_or bytes run 0 → 128 ≤ byte → byte < 256
    → ReadSoFar bytes (run + 1) (scale * 128) (value + scale * (byte - 128))
read-more bytes run scale value byte r lt few is high small =
    let more = high_run-more bytes run r.high lt (omega (arith, is, high)) in
    let part : get_or bytes run 0 % 128 ≡ byte - 128 = omega (arith, is, high, small) in
    let next : sevens (take (suc run) bytes) ≡ sevens (take run bytes) + 128 ^ run * (byte - 128) =
    rw part at (sevens-more bytes run lt) in
    record {
      few = omega (arith, few);
      high = more;
      within = omega (arith, lt);
      weight = grind (arith, r.weight, pow-suc 128 run);
      number = rw (add-one run, r.weight, r.number) (sym next);
    }

-- the run ends, and its number is known
ended : (bytes : List ℕ) (run scale value byte : ℕ) → ReadSoFar bytes run scale value → run < length bytes
    → byte ≡ get_or bytes run 0 → byte < 128
    → (high_run bytes ≡ run) × (sevens (first_run bytes) ≡ value + scale * byte)
ended bytes run scale value byte r lt is low =
    let stop = high_run-ends bytes run r.high lt (omega (arith, is, low)) in
    let part : get_or bytes run 0 % 128 ≡ byte = omega (arith, is, low) in
    let all : sevens (take (suc run) bytes) ≡ sevens (take run bytes) + 128 ^ run * byte =
    rw part at (sevens-more bytes run lt) in
    (stop, ap (λ (k : ℕ). sevens (take (suc k) bytes)) stop ∙ (rw (r.weight, r.number) all))

-- ---- the answers

answer-ok : (bytes : List ℕ) (run n : ℕ) → high_run bytes ≡ run → run < length bytes → run < 10
    → sevens (first_run bytes) ≡ n → n < 2 ^ 64 → Ok (n, run + 1) ≡ varint_front bytes
unfolding varint_front
answer-ok bytes run n stop lt few is fits =
    rw (
      or_left (nat_lt (high_run bytes) (length bytes)) (nat_le 10 (length bytes))
          (lt-ltb (high_run bytes) (length bytes) (omega (arith, stop, lt))),
      is,
      stop,
      lt-ltb run 10 few,
      lt-ltb n (2 ^ 64) fits,
    ) (ap (λ (k : ℕ). Ok (n, k)) (omega arith))

pub answer-within : (bytes : List ℕ) (run scale value byte : ℕ) → ReadSoFar bytes run scale value → run < length bytes
    → run < 9 → byte ≡ get_or bytes run 0 → byte < 128 → Ok (value + scale * byte, run + 1) ≡ varint_front bytes
answer-within bytes run scale value byte r lt few is low =
    let e = ended bytes run scale value byte r lt is low in
    let less = value-lt bytes run scale value r in
    let weight = scale-le bytes run scale value 8 r (omega (arith, few)) in
    let part = weighed-le bytes run scale value 8 byte 127 r (omega (arith, few)) (omega (arith, low)) in
    answer-ok bytes run (value + scale * byte) e.0 lt (omega (arith, few)) e.1 (omega (arith, less, weight, part))

pub answer-tenth : (bytes : List ℕ) (run scale value byte : ℕ) → ReadSoFar bytes run scale value → run < length bytes
    → run ≡ 9 → byte ≡ get_or bytes run 0 → byte < 2 → Ok (value + scale * byte, 10) ≡ varint_front bytes
answer-tenth bytes run scale value byte r lt nine is low =
    let e = ended bytes run scale value byte r lt is (omega (arith, low)) in
    let less = value-lt bytes run scale value r in
    let weight = scale-le bytes run scale value 9 r (omega (arith, nine)) in
    let part = weighed-le bytes run scale value 9 byte 1 r (omega (arith, nine)) (omega (arith, low)) in
    ap (λ (k : ℕ). Ok (value + scale * byte, k)) (omega (arith, nine))
    ∙ answer-ok bytes run (value + scale * byte) e.0 lt (omega (arith, nine)) e.1
    (omega (arith, less, weight, part))

-- a number that is too wide, or a run of more than ten bytes
answer-wide : (bytes : List ℕ) → has_end bytes ≡ true → is_narrow bytes (2 ^ 64) (sevens (first_run bytes)) ≡ false
    → Err Long ≡ varint_front bytes
unfolding varint_front
answer-wide bytes ends wide = rw (ends, wide) refl

pub answer-long : (bytes : List ℕ) (run scale value byte : ℕ) → ReadSoFar bytes run scale value → run < length bytes
    → run ≡ 9 → byte ≡ get_or bytes run 0 → 2 ≤ byte → Err Long ≡ varint_front bytes
answer-long bytes run scale value byte r lt nine is large =
    answer-wide bytes (or_right (nat_lt (high_run bytes) (length bytes)) (nat_le 10 (length bytes))
    (le-leb 10 (length bytes) (omega (arith, lt, nine)))) (wide (cases_lt byte 128))
  where
    wide : (byte < 128) ⊎ (128 ≤ byte) → is_narrow bytes (2 ^ 64) (sevens (first_run bytes)) ≡ false
    wide (inr high) =
        let more = high_run-more bytes run r.high lt (omega (arith, is, high)) in
        and_left (nat_lt (high_run bytes) 10) (nat_lt (sevens (first_run bytes)) (2 ^ 64))
        (le-ltb (high_run bytes) 10 (omega (arith, more, nine)))
    wide (inl low) =
        let e = ended bytes run scale value byte r lt is low in
        let weight : scale ≡ 128 ^ 9 = r.weight ∙ ap (λ (k : ℕ). 128 ^ k) nine in
        let part : 128 ^ 9 * 2 ≤ scale * byte = mul-le (128 ^ 9) 2 scale byte (omega (arith, weight)) large in
        and_right (nat_lt (high_run bytes) 10) (nat_lt (sevens (first_run bytes)) (2 ^ 64))
        (le-ltb (sevens (first_run bytes)) (2 ^ 64) (omega (arith, e.1, part)))

pub answer-short : (bytes : List ℕ) (run scale value : ℕ) → ReadSoFar bytes run scale value → length bytes ≤ run
    → Err Short ≡ varint_front bytes
unfolding varint_front
answer-short bytes run scale value r all =
    let le = high_run-le bytes in
    rw (
      le-ltb (high_run bytes) (length bytes) (omega (arith, all, r.high)),
      lt-leb 10 (length bytes) (omega (arith, all, r.few)),
    ) refl

-- no byte, a varint of one byte, and one of two
pub front-none : (bytes : List ℕ) → length bytes ≡ 0 → Err Short ≡ varint_front bytes
front-none bytes none = answer-short bytes 0 1 0 (read-none bytes) (omega (arith, none))

pub front-one : (bytes : List ℕ) (byte : ℕ) → 0 < length bytes → byte ≡ get_or bytes 0 0 → byte < 128
    → Ok (byte, 1) ≡ varint_front bytes
front-one bytes byte some is low =
    ap (λ (n : ℕ). Ok (n, 1)) (omega arith) ∙ answer-within bytes 0 1 0 byte (read-none bytes) some (omega arith) is low

pub front-two : (bytes : List ℕ) (part byte : ℕ) → 1 < length bytes → part ≡ get_or bytes 0 0 % 128
    → 128 ≤ get_or bytes 0 0 → get_or bytes 0 0 < 256 → byte ≡ get_or bytes 1 0 → byte < 128
    → Ok (part + 128 * byte, 2) ≡ varint_front bytes
front-two bytes part byte two first high small is low =
    let some : 0 < length bytes = omega (arith, two) in
    let read : ReadSoFar bytes 1 128 part = record {
      few = omega arith;
      high = high_run-more bytes 0 (omega arith) some high;
      within = omega (arith, two);
      weight = omega arith;
      number = omega (arith, sevens-more bytes 0 some, first);
    } in
    answer-within bytes 1 128 part byte read two (omega arith) is low

-- ---- sums and products fit in 64 bits

pub weighed-tenth : (bytes : List ℕ) (run scale value byte : ℕ) → ReadSoFar bytes run scale value → run ≡ 9 → byte < 2
    → value + scale * byte < 2 ^ 64
weighed-tenth bytes run scale value byte r nine low =
    let less = value-lt bytes run scale value r in
    let weight = scale-le bytes run scale value 9 r (omega (arith, nine)) in
    let part = weighed-le bytes run scale value 9 byte 1 r (omega (arith, nine)) (omega (arith, low)) in
    omega (arith, less, weight, part)

pub weighed-within : (bytes : List ℕ) (run scale value part : ℕ) → ReadSoFar bytes run scale value → run < 9
    → part < 128 → value + scale * part < 2 ^ 64
weighed-within bytes run scale value part r few low =
    let less = value-lt bytes run scale value r in
    let weight = scale-le bytes run scale value 8 r (omega (arith, few)) in
    let weighed = weighed-le bytes run scale value 8 part 127 r (omega (arith, few)) (omega (arith, low)) in
    omega (arith, less, weight, weighed)

pub scale-more : (bytes : List ℕ) (run scale value : ℕ) → ReadSoFar bytes run scale value → run < 9
    → scale * 128 < 2 ^ 64
scale-more bytes run scale value r few = let weight = scale-le bytes run scale value 8 r (omega (arith, few)) in
    omega (arith, weight)

-- ---- a varint at a place

pub found-at : (bytes : List ℕ) (at n size : ℕ) (read : Result (ℕ × ℕ) VarintFault) → at < length bytes
    → read ≡ varint_front (take (length bytes - at) (drop at bytes)) → read ≡ Ok (n, size)
    → (at < at + size) × (at + size ≤ length bytes) × IsVarint n (slice_range bytes at (at + size))
found-at bytes at n size read within is ok =
    let front : varint_front (drop at bytes) ≡ Ok (n, size) =
    sym (ap varint_front (take_rest bytes at)) ∙ sym is ∙ ok in
    let found = varint_found (drop at bytes) n size front in
    let same : at + size - at ≡ size = omega arith in
    (omega (arith, found.some), omega (arith, found.within, length-drop at bytes, within), rw same found.spelled)

pub only-at : (bytes : List ℕ) (at : ℕ) (read : Result (ℕ × ℕ) VarintFault)
    → read ≡ varint_front (take (length bytes - at) (drop at bytes)) → (n : ℕ) (b rest : List ℕ) → IsVarint n b
    → drop at bytes ≡ b ++ rest → read ≡ Ok (n, length b)
only-at bytes at read is n b rest v whole = is ∙ ap varint_front (take_rest bytes at ∙ whole) ∙ varint_reads n b rest v

pub none-at_end : (bytes : List ℕ) (at : ℕ) → length bytes ≤ at → (n : ℕ) (b rest : List ℕ) → IsVarint n b
    → drop at bytes ≡ b ++ rest → ⊥
none-at_end bytes at past n b rest v whole =
    omega (arith, v.run, length-append b rest, ap length whole, length-drop at bytes, past)

pub short-at_end : (bytes : List ℕ) (at : ℕ) → length bytes ≤ at → Err Short ≡ read_at at (varint_front (drop at bytes))
unfolding varint_front
short-at_end bytes at past = rw (nil_from_length (drop at bytes) (omega (arith, length-drop at bytes, past))) refl
