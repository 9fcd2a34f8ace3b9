-- A readable elevation has five digits.
use Rattle.std.proofs.Common.{◌≡◌, ◌⊎◌, ℕ, zero, suc, ◌-◌, ◌^◌, ◌<◌, ◌≤◌, [], ◌∷◌, length, drop, Bool, true, false}
use Rattle.std.proofs.Common.{◌&&◌, Option, Some, None, refl, inl, inr, arith}
use Rattle.std.specs.Prelude.{nat_le, option_map, if◌then◌else◌, IfSome}
use Rattle.std.specs.List.{list_all}
use Rattle.std.specs.Char.{is_ascii_digit}
use Rattle.std.proofs.Math.Nat.{pow-le-pow_right, pow-succ', mul-le-mul_right}
use Rattle.std.proofs.lemmas.Bool.{cases_Bool, le-leb, leb-true, and_parts}
use Rattle.std.proofs.lemmas.Option.{same_Some}
use Rattle.mf_base.specs.Texts.{Text, cut}
use Rattle.mf_base.specs.Numbers.{dot, minus, plus, starts, without, decimal_value, digits_up_to, under_sign}
use Rattle.mf_base.specs.Numbers.{before_dot, metres, height}
use Rattle.feature_model.specs.Proper.{IsHeight}

decimal_value-below : (digits : Text) → list_all is_ascii_digit digits ≡ true
    → decimal_value digits < 10 ^ length digits
decimal_value-below [] h = omega arith
decimal_value-below (d ∷ digits) h =
    let parts = and_parts (is_ascii_digit d) (list_all is_ascii_digit digits) h in
    let bounds = and_parts (nat_le 48 d) (nat_le d 57) parts.0 in
    let most = leb-true d 57 bounds.1 in
    let more = decimal_value-below digits parts.1 in
    let p = pow-succ' 10 (length digits) in
    let digit : d - 48 ≤ 9 = omega (arith, most) in
    let m = mul-le-mul_right (10 ^ length digits) digit in
    omega (arith, more, p, m)

digits_up_to-below : (text : Text) (n : ℕ) → digits_up_to 5 text ≡ Some n → n ≤ 99999
unfolding digits_up_to
digits_up_to-below text n e =
    by_test (cases_Bool ((nat_le 1 (length text) && nat_le (length text) 5) && list_all is_ascii_digit text))
  where
    by_test : (((nat_le 1 (length text) && nat_le (length text) 5) && list_all is_ascii_digit text) ≡ true)
        ⊎ (((nat_le 1 (length text) && nat_le (length text) 5) && list_all is_ascii_digit text) ≡ false) → n ≤ 99999
    by_test (inl good) =
        let parts = and_parts (nat_le 1 (length text) && nat_le (length text) 5) (list_all is_ascii_digit text) good in
        let bounds = and_parts (nat_le 1 (length text)) (nat_le (length text) 5) parts.0 in
        let same : decimal_value text ≡ n = same_Some (decimal_value text) n (rw good at e) in
        let below = decimal_value-below text parts.1 in
        let power : 10 ^ length text ≤ 100000 =
        pow-le-pow_right {n = 10} (omega arith) (leb-true (length text) 5 bounds.1) in
        omega (arith, same, below, power)
    by_test (inr bad) = absurd (cc (rw bad at e))

before_dot-below : (text : Text) (parts : Option (Text × Text)) (n : ℕ) → before_dot text parts ≡ Some n → n ≤ 99999
before_dot-below text None n e = digits_up_to-below text n e
before_dot-below text (Some parts) n e = by_test (cases_Bool (list_all is_ascii_digit parts.1))
  where
    by_test : (list_all is_ascii_digit parts.1 ≡ true) ⊎ (list_all is_ascii_digit parts.1 ≡ false) → n ≤ 99999
    by_test (inl good) = digits_up_to-below parts.0 n (rw good at e)
    by_test (inr bad) = absurd (cc (rw bad at e))

signed-height : (negative : Bool) (n : ℕ) → n ≤ 99999 → IsHeight (under_sign negative n)
signed-height false n low = le-leb n 99999 low
signed-height true zero low = refl
signed-height true (suc n) low = rw (le-leb n 99998 (omega (arith, low))) refl

metres-height : (negative : Bool) (text : Text) → IfSome (option_map (under_sign negative) (metres text)) IsHeight
unfolding metres
metres-height negative text = by_value (before_dot text (cut dot text)) refl
  where
    by_value : (o : Option ℕ) → before_dot text (cut dot text) ≡ o
        → IfSome (option_map (under_sign negative) o) IsHeight
    by_value None e = tt
    by_value (Some n) e = signed-height negative n (before_dot-below text (cut dot text) n e)

pub height-is : (text : Text) → IfSome (height text) IsHeight
unfolding height
height-is text = metres-height (starts minus text) (if starts minus text then drop 1 text else without plus text)
