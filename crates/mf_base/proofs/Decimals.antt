-- Decimal digits, read one by one.
use mir.Syntax.{Width}
use mir.Val.{hbits}
use Rattle.std.proofs.Common.{◌≡◌, ◌⊎◌, ℕ, zero, suc, ◌+◌, ◌-◌, ◌*◌, ◌^◌, ◌<◌, ◌≤◌, [], ◌∷◌, ◌++◌, length, take, drop}
use Rattle.std.proofs.Common.{get_or, subst, refl, sym, ap, ◌∙◌, arith, inl, inr, true, false, ◌&&◌, Bool, Option, Some}
use Rattle.std.proofs.Common.{None, option_and_then, IsTrue, IfSome, length-append, add-one, rules, ⊎_elim, ℤ, pos}
use Rattle.std.proofs.Common.{negsuc, ◌<ℤ◌, FitsSigned, w32}
use Rattle.std.specs.Prelude.{nat_le, option_map, position, ◌==◌, cond, nat_lt, int_le, if◌then◌else◌}
use Rattle.std.specs.List.{list_all, position_or_len}
use Rattle.std.specs.Char.{is_ascii_digit}
use Rattle.std.proofs.lemmas.Bool.{and_right, and_parts, cases_Bool, cases_lt, le-leb, lt-leb, leb-true, lt-ltb, le-ltb}
use Rattle.std.proofs.lemmas.List.{take-append-drop, take_rest}
use Rattle.std.proofs.lemmas.Option.{cond_some, none-some, same_Some}
use Rattle.std.proofs.lemmas.List.Folds.{list_all-append}
use Rattle.std.proofs.lemmas.Nat.{pow-add}
use Rattle.std.proofs.lemmas.Int.{ints}
use Rattle.std.proofs.Math.Seq.{take-suc, take-length}
use Rattle.std.proofs.Math.Nat.{le-mul_of_pos_right, pow-succ', pow-le-pow_right, mul-le-mul_right, add-mul, mul_assoc}
use Rattle.std.proofs.Math.Nat.{add_assoc}
use Rattle.mf_base.specs.Ranges.{within_numbers, within}
use Rattle.mf_base.specs.Texts.{Text, cut}
use Rattle.mf_base.specs.Numbers.{decimal_value, digits_up_to, number_in, metres, dot, whole_in, under_sign, starts}
use Rattle.mf_base.specs.Numbers.{without, minus, plus, whole_number, height}

-- a number of fewer than 64 bits and one, as code reads it
abbrev pub narrow : Option ℕ → Option ℕ
narrow o = option_and_then (within_numbers 0 (2 ^ 64 - 1)) o

shifted : (d p q v w : ℕ) → d * (p * q) + (v * q + w) ≡ (d * p + v) * q + w
shifted d p q v w = rw (add-mul, mul_assoc, add_assoc) refl

pub decimal_value-append : (front back : Text)
    → decimal_value (front ++ back) ≡ decimal_value front * 10 ^ length back + decimal_value back
decimal_value-append [] back = omega arith
decimal_value-append (d ∷ front) back =
    rw (length-append front back, pow-add 10 (length front) (length back), decimal_value-append front back)
    (shifted (d - 48) (10 ^ length front) (10 ^ length back) (decimal_value front) (decimal_value back))

-- a digit more
pub decimal_value-more : (front : Text) (d : ℕ) → decimal_value (front ++ d ∷ []) ≡ decimal_value front * 10 + (d - 48)
decimal_value-more front d = omega (arith, decimal_value-append front (d ∷ []))

ten_pos : (k : ℕ) → 0 < 10 ^ k
ten_pos zero = omega arith
ten_pos (suc k) = let less = ten_pos k in omega (arith, less, pow-succ' 10 k)

-- what stands behind makes a number no less
pub decimal_value-front : (front back : Text) → decimal_value front ≤ decimal_value (front ++ back)
decimal_value-front front back =
    let more = le-mul_of_pos_right (decimal_value front) (ten_pos (length back)) in
    omega (arith, decimal_value-append front back, more)

-- Texts that are no number.

pub digits-empty : (most : ℕ) (text : Text) → length text ≡ 0 → digits_up_to most text ≡ None
unfolding digits_up_to
digits-empty most [] none = refl
digits-empty most (d ∷ text) none = absurd (omega (arith, none))

pub digits-long : (most : ℕ) (text : Text) → most < length text → digits_up_to most text ≡ None
unfolding digits_up_to
digits-long most text long = rw (lt-leb (length text) most long, and_right (nat_le 1 (length text)) false refl) refl

pub digits-other : (most : ℕ) (text : Text) → list_all is_ascii_digit text ≡ false → digits_up_to most text ≡ None
unfolding digits_up_to
digits-other most text other =
    rw (other, and_right (nat_le 1 (length text) && nat_le (length text) most) false refl) refl

-- and one that is
pub digits-are : (most : ℕ) (text : Text) → 1 ≤ length text → length text ≤ most → list_all is_ascii_digit text ≡ true
    → digits_up_to most text ≡ Some (decimal_value text)
unfolding digits_up_to
digits-are most text some few digits = rw (le-leb 1 (length text) some, le-leb (length text) most few, digits) refl

-- numbers that are too great for 64 bits, and others
pub narrow-over : (n : ℕ) → 2 ^ 64 ≤ n → narrow (Some n) ≡ None
narrow-over n h = rw (lt-leb n (2 ^ 64 - 1) (omega (arith, h)), and_right (nat_le 0 n) false refl) refl

pub narrow-some : (n : ℕ) → n < 2 ^ 64 → narrow (Some n) ≡ Some n
narrow-some n h = rw (le-leb 0 n (omega arith), le-leb n (2 ^ 64 - 1) (omega (arith, h))) refl

-- Reading digit by digit.

-- what was read of the first digits
pub record HasRead (text : Text) (at number : ℕ) : Type 0 where
  pub digits : list_all is_ascii_digit (take at text) ≡ true
  pub value : number ≡ decimal_value (take at text)
  pub small : number < 2 ^ 64

pub read-none : (text : Text) → HasRead text 0 0
read-none text = record { digits = refl; value = refl; small = omega arith }

digits-more : (front : Text) (d : ℕ) → list_all is_ascii_digit front ≡ true → is_ascii_digit d ≡ true
    → list_all is_ascii_digit (front ++ d ∷ []) ≡ true
digits-more front d first last = list_all-append is_ascii_digit front (d ∷ []) ∙ rw (first, last) refl

pub read-more : (text : Text) (at number d : ℕ) → at < length text → HasRead text at number → get_or text at 0 ≡ d
    → (more : ℕ)
    → (IsTrue (is_ascii_digit d) × (number * 10 + (d - 48) < 2 ^ 64)) × (more ≡ number * 10 + (d - 48))
    → HasRead text (at + 1) more
read-more text at number d within so_far here more ((digit, small), is) =
    let front : take (at + 1) text ≡ take at text ++ d ∷ [] =
    rw add-one (take-suc text at 0 within ∙ ap (λ (b : ℕ). take at text ++ b ∷ []) here) in
    record {
      digits = rw front (digits-more (take at text) d so_far.digits digit);
      value = rw front (omega (arith, decimal_value-more (take at text) d, so_far.value, is));
      small = omega (arith, small, is);
    }

stopped_at : (text : Text) (at number d : ℕ) → at < length text → HasRead text at number → get_or text at 0 ≡ d
    → list_all is_ascii_digit text ≡ true
    → (IsTrue (is_ascii_digit d) × (number * 10 + (d - 48) < 2 ^ 64) → ⊥) → 2 ^ 64 ≤ decimal_value text
stopped_at text at number d within so_far here digits stopped =
    let front : take (at + 1) text ≡ take at text ++ d ∷ [] =
    rw add-one (take-suc text at 0 within ∙ ap (λ (b : ℕ). take at text ++ b ∷ []) here) in
    let parts = and_parts (list_all is_ascii_digit (take (at + 1) text)) (list_all is_ascii_digit (drop (at + 1) text))
    (sym (list_all-append is_ascii_digit (take (at + 1) text) (drop (at + 1) text))
    ∙ rw (take-append-drop (at + 1) text) digits) in
    let last = and_parts (list_all is_ascii_digit (take at text)) (list_all is_ascii_digit (d ∷ []))
    (sym (list_all-append is_ascii_digit (take at text) (d ∷ [])) ∙ rw (← front) parts.0) in
    let digit : is_ascii_digit d ≡ true = (and_parts (is_ascii_digit d) true last.1).0 in
    let value : number * 10 + (d - 48) ≡ decimal_value (take (at + 1) text) =
    rw front (omega (arith, decimal_value-more (take at text) d, so_far.value)) in
    let least : decimal_value (take (at + 1) text) ≤ decimal_value text =
    (let P : Text → Type 0 = λ t. decimal_value (take (at + 1) text) ≤ decimal_value t in
    subst P (take-append-drop (at + 1) text) (decimal_value-front (take (at + 1) text) (drop (at + 1) text))) in
    elim (cases_lt (number * 10 + (d - 48)) (2 ^ 64)) [
      | inl small ↦ absurd (stopped (digit, small))
      | inr great ↦ omega (arith, great, value, least)
    ]

-- no digit, or a number that is too great: the text is none
pub read-stopped : (most : ℕ) (text : Text) (at number d : ℕ) → at < length text → length text ≤ most
    → HasRead text at number → get_or text at 0 ≡ d
    → (IsTrue (is_ascii_digit d) × (number * 10 + (d - 48) < 2 ^ 64) → ⊥) → None ≡ narrow (digits_up_to most text)
read-stopped most text at number d within few so_far here stopped = elim (cases_Bool (list_all is_ascii_digit text)) [
  | inr other ↦ rw (digits-other most text other) refl
  | inl digits ↦ rw (digits-are most text (omega (arith, within)) few digits)
      (sym (narrow-over (decimal_value text) (stopped_at text at number d within so_far here digits stopped)))
]

pub read-all : (most : ℕ) (text : Text) (number : ℕ) → 1 ≤ length text → length text ≤ most
    → HasRead text (length text) number → Some number ≡ narrow (digits_up_to most text)
read-all most text number some few all =
    let digits : list_all is_ascii_digit text ≡ true = rw take-length at all.digits in
    let value : number ≡ decimal_value text = rw take-length at all.value in
    rw (digits-are most text some few digits, ← value) (sym (narrow-some number all.small))

-- Numbers of few digits.

digit-lt : (d : ℕ) → is_ascii_digit d ≡ true → d - 48 < 10
digit-lt d digit = search rules

decimal_value-lt : (text : Text) → list_all is_ascii_digit text ≡ true → decimal_value text < 10 ^ length text
decimal_value-lt [] all = omega arith
decimal_value-lt (d ∷ text) all =
    let parts = and_parts (is_ascii_digit d) (list_all is_ascii_digit text) all in
    let less = decimal_value-lt text parts.1 in
    let first = digit-lt d parts.0 in
    let shift : (d - 48) * 10 ^ length text ≤ 9 * 10 ^ length text =
    mul-le-mul_right (10 ^ length text) (omega (arith, first)) in
    omega (arith, less, shift, pow-succ' 10 (length text))

-- a number of at most so many digits
pub digits-lt : (most : ℕ) (text : Text) (n : ℕ) → digits_up_to most text ≡ Some n → n < 10 ^ most
unfolding digits_up_to
digits-lt most text n e =
    let kept = cond_some ((nat_le 1 (length text) && nat_le (length text) most) && list_all is_ascii_digit text)
    (decimal_value text) n e in
    let parts = and_parts (nat_le 1 (length text) && nat_le (length text) most) (list_all is_ascii_digit text) kept.0 in
    let few = leb-true (length text) most (and_parts (nat_le 1 (length text)) (nat_le (length text) most) parts.0).1 in
    let less = decimal_value-lt text parts.1 in
    let wide : 10 ^ length text ≤ 10 ^ most = pow-le-pow_right (omega arith) few in
    omega (arith, less, wide, kept.1)

pub few-digits : (most : ℕ) (text : Text) (o : Option ℕ) → o ≡ digits_up_to most text → IfSome o (λ n. n < 10 ^ most)
few-digits most text None e = tt
few-digits most text (Some n) e = digits-lt most text n (sym e)

pub narrow-short : (most : ℕ) (text : Text) → most ≤ 10 → narrow (digits_up_to most text) ≡ digits_up_to most text
narrow-short most text few = by_number (digits_up_to most text) refl
  where
    by_number : (o : Option ℕ) → digits_up_to most text ≡ o → narrow o ≡ o
    by_number None e = refl
    by_number (Some n) e =
        let less = digits-lt most text n e in
        let wide : 10 ^ most ≤ 10 ^ 10 = pow-le-pow_right (omega arith) few in
        narrow-some n (omega (arith, less, wide))

-- Cutting at a byte: what stands before its first place and after it.

-- the parts around a place
abbrev pub parts_around : Text → ℕ → Text × Text
parts_around text i = (take i text, drop (i + 1) text)

after-first : (b : ℕ) (text : Text) (o : Option ℕ)
    → option_map (λ (p : Text × Text). (b ∷ p.0, p.1)) (option_map (parts_around text) o)
    ≡ option_map (parts_around (b ∷ text)) (option_map suc o)
after-first b text None = refl
after-first b text (Some i) = rw (add-one, add-one) refl

next_place : (k n : ℕ)
    → cond (nat_lt (1 + k) (suc n)) (Some (1 + k)) None ≡ option_map suc (cond (nat_lt k n) (Some k) None)
next_place k n = by_order (cases_lt k n)
  where
    by_order : (k < n) ⊎ (n ≤ k)
        → cond (nat_lt (1 + k) (suc n)) (Some (1 + k)) None ≡ option_map suc (cond (nat_lt k n) (Some k) None)
    by_order (inl within) =
        rw (lt-ltb (1 + k) (suc n) (omega (arith, within)), lt-ltb k n within) (ap (λ (i : ℕ). Some i) (omega arith))
    by_order (inr past) = rw (le-ltb (1 + k) (suc n) (omega (arith, past)), le-ltb k n past) refl

position-next : (byte b : ℕ) (text : Text) → (b == byte) ≡ false
    → position (λ x. x == byte) (b ∷ text) ≡ option_map suc (position (λ x. x == byte) text)
position-next byte b text other = rw other (next_place (position_or_len (λ x. x == byte) text) (length text))

-- a text that begins with the byte
cut-first : (byte b : ℕ) (text : Text) → (b == byte) ≡ true
    → cut byte (b ∷ text) ≡ option_map (parts_around (b ∷ text)) (position (λ x. x == byte) (b ∷ text))
cut-first byte b text same = rw (same, lt-ltb 0 (suc (length text)) (omega arith)) refl

cut-later : (byte b : ℕ) (text : Text) → (b == byte) ≡ false
    → cut byte text ≡ option_map (parts_around text) (position (λ x. x == byte) text)
    → cut byte (b ∷ text) ≡ option_map (parts_around (b ∷ text)) (position (λ x. x == byte) (b ∷ text))
cut-later byte b text other later =
    rw (position-next byte b text other, other, later) (after-first b text (position (λ x. x == byte) text))

pub cut-position : (byte : ℕ) (text : Text)
    → cut byte text ≡ option_map (parts_around text) (position (λ x. x == byte) text)
cut-position byte [] = refl
cut-position byte (b ∷ text) =
    ⊎_elim (λ same. cut-first byte b text same) (λ other. cut-later byte b text other (cut-position byte text))
    (cases_Bool (b == byte))

pub cut-found : (byte : ℕ) (text : Text) (i : ℕ) → Some i ≡ position (λ x. x == byte) text
    → Some (take i text, take (length text - (i + 1)) (drop (i + 1) text)) ≡ cut byte text
cut-found byte text i here = rw (cut-position byte text, ← here, take_rest) refl

pub cut-absent : (byte : ℕ) (text : Text) → None ≡ position (λ x. x == byte) text → None ≡ cut byte text
cut-absent byte text none = rw (cut-position byte text, ← none) refl

-- Elevations.

pub metres-whole : (text : Text) → None ≡ cut dot text → digits_up_to 5 text ≡ metres text
unfolding metres
metres-whole text none = rw (← none) refl

pub metres-dropped : (text whole fraction : Text) → Some (whole, fraction) ≡ cut dot text
    → list_all is_ascii_digit fraction ≡ true → digits_up_to 5 whole ≡ metres text
unfolding metres
metres-dropped text whole fraction parts digits = rw (← parts, digits) refl

pub metres-other : (text whole fraction : Text) → Some (whole, fraction) ≡ cut dot text
    → list_all is_ascii_digit fraction ≡ false → None ≡ metres text
unfolding metres
metres-other text whole fraction parts other = rw (← parts, other) refl

-- Numbers of the words.

pub number-none : (least greatest : ℕ) (text : Text) → greatest < 2 ^ 64 → None ≡ narrow (digits_up_to 20 text)
    → None ≡ number_in least greatest text
unfolding number_in
number-none least greatest text small none = by_number (digits_up_to 20 text) none
  where
    by_number : (o : Option ℕ) → None ≡ narrow o → None ≡ option_and_then (within_numbers least greatest) o
    by_number None e = refl
    by_number (Some n) e = elim (cases_lt n (2 ^ 64)) [
      | inl low ↦ absurd (none-some n (e ∙ narrow-some n low))
      | inr high ↦ rw (lt-leb n greatest (omega (arith, small, high)), and_right (nat_le least n) false refl) refl
    ]

pub narrow-is : (o : Option ℕ) (n : ℕ) → Some n ≡ narrow o → o ≡ Some n
narrow-is None n e = absurd (none-some n (sym e))
narrow-is (Some m) n e = elim (cases_lt m (2 ^ 64)) [
  | inl low ↦ ap (λ (x : ℕ). Some x) (same_Some m n (sym (e ∙ narrow-some m low)))
  | inr high ↦ absurd (none-some n (sym (e ∙ narrow-over m high)))
]

pub number-out : (least greatest : ℕ) (text : Text) (n : ℕ) → Some n ≡ narrow (digits_up_to 20 text)
    → (n < least) ⊎ (greatest < n) → None ≡ number_in least greatest text
unfolding number_in
number-out least greatest text n is (inl low) = rw (narrow-is (digits_up_to 20 text) n is, lt-leb least n low) refl
number-out least greatest text n is (inr high) =
    rw (narrow-is (digits_up_to 20 text) n is, lt-leb n greatest high, and_right (nat_le least n) false refl) refl

pub number-in : (least greatest : ℕ) (text : Text) (n : ℕ) → Some n ≡ narrow (digits_up_to 20 text) → least ≤ n
    → n ≤ greatest → Some n ≡ number_in least greatest text
unfolding number_in
number-in least greatest text n is low high =
    rw (narrow-is (digits_up_to 20 text) n is, le-leb least n low, le-leb n greatest high) refl

-- Numbers with a sign.

-- a number of the words that is too great for 64 bits with a sign is outside of each range of 32 bits
far_out : (least greatest : ℤ) (negative : Bool) (n : ℕ) → FitsSigned w32 least → FitsSigned w32 greatest → 2 ^ 63 ≤ n
    → within least greatest (under_sign negative n) ≡ None
far_out (pos a) greatest true (suc n) low high far = refl
far_out (negsuc a) greatest true (suc n) low high far = rw (lt-leb n a (omega (arith, low.sfits, far))) refl
far_out least greatest true zero low high far = absurd (omega (arith, far))
far_out least (pos b) false n low high far =
    rw (lt-leb n b (omega (arith, high.sfits, far)), and_right (int_le least (pos n)) false refl) refl
far_out least (negsuc b) false n low high far = rw (and_right (int_le least (pos n)) false refl) refl

signed_in : (least greatest : ℤ) (text : Text) → least <ℤ pos 0
    → whole_in least greatest text ≡ option_and_then (within least greatest)
    (option_map (under_sign (starts minus text)) (digits_up_to 20 (without minus text)))
unfolding whole_in
signed_in (negsuc a) greatest text low = refl
signed_in (pos a) greatest text low = absurd (omega (arith, ints, low))

pub signed-none : (least greatest : ℤ) (text : Text) → least <ℤ pos 0 → FitsSigned w32 least → FitsSigned w32 greatest
    → None ≡ narrow (digits_up_to 20 (without minus text)) → None ≡ whole_in least greatest text
signed-none least greatest text low small great none =
    rw (signed_in least greatest text low) (by_number (digits_up_to 20 (without minus text)) none)
  where
    by_number : (o : Option ℕ) → None ≡ narrow o
        → None ≡ option_and_then (within least greatest) (option_map (under_sign (starts minus text)) o)
    by_number None e = refl
    by_number (Some n) e = elim (cases_lt n (2 ^ 64)) [
      | inl few ↦ absurd (none-some n (e ∙ narrow-some n few))
      | inr far ↦ sym (far_out least greatest (starts minus text) n small great (omega (arith, far)))
    ]

pub signed-far : (least greatest : ℤ) (text : Text) (n : ℕ) → least <ℤ pos 0 → FitsSigned w32 least
    → FitsSigned w32 greatest → Some n ≡ narrow (digits_up_to 20 (without minus text)) → 2 ^ 63 ≤ n
    → None ≡ whole_in least greatest text
signed-far least greatest text n low small great is far =
    rw (signed_in least greatest text low, narrow-is (digits_up_to 20 (without minus text)) n is)
    (sym (far_out least greatest (starts minus text) n small great far))

pub signed-is : (least greatest : ℤ) (text : Text) (negative : Bool) (n : ℕ) (z : ℤ) (o : Option ℤ) → least <ℤ pos 0
    → negative ≡ starts minus text → Some n ≡ narrow (digits_up_to 20 (without minus text)) → z ≡ under_sign negative n
    → o ≡ within least greatest z → o ≡ whole_in least greatest text
signed-is least greatest text negative n z o low sign is same found =
    rw (signed_in least greatest text low, narrow-is (digits_up_to 20 (without minus text)) n is, ← sign, ← same) found

-- Numbers of tags.

pub whole-none : (text digits : Text) → digits ≡ without minus text → None ≡ digits_up_to 10 digits
    → None ≡ whole_number text
unfolding whole_number
whole-none text digits rest none = rw (← rest, ← none) refl

pub whole-is : (text digits : Text) (negative : Bool) (n : ℕ) (z : ℤ) → negative ≡ starts minus text
    → digits ≡ without minus text → Some n ≡ digits_up_to 10 digits → z ≡ under_sign negative n
    → Some z ≡ whole_number text
unfolding whole_number
whole-is text digits negative n z sign rest is same = rw (← rest, ← is, ← sign, ← same) refl

-- an elevation without its sign
abbrev pub unsigned_part : Text → Text
unsigned_part text = if starts minus text then drop 1 text else without plus text

pub height-none : (text digits : Text) → digits ≡ unsigned_part text → None ≡ metres digits → None ≡ height text
unfolding height
height-none text digits rest none = rw (← rest, ← none) refl

pub height-is : (text digits : Text) (negative : Bool) (n : ℕ) (z : ℤ) → negative ≡ starts minus text
    → digits ≡ unsigned_part text → Some n ≡ metres digits → z ≡ under_sign negative n → Some z ≡ height text
unfolding height
height-is text digits negative n z sign rest is same = rw (← rest, ← is, ← sign, ← same) refl

-- a number and its sign
pub sign-fits : (w : Width) (negative : Bool) (n : ℕ) (z : ℤ) → n < 2 ^ hbits w → z ≡ under_sign negative n
    → FitsSigned w z
sign-fits w true zero z few same = rw same record { sfits = few }
sign-fits w true (suc n) z few same = rw same record { sfits = omega (arith, few) }
sign-fits w false n z few same = rw same record { sfits = few }
