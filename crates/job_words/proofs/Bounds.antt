-- Numbers of words fit their types.
use Rattle.std.proofs.Common.{◌≡◌, ℕ, ◌≤◌, sym, Option, Some, None, arith, ◌<◌, ◌^◌, Fits, w8, w32}
use Rattle.std.specs.Prelude.{nat_le, option_and_then, ◌&&◌}
use Rattle.std.proofs.lemmas.Bool.{leb-true, and_parts}
use Rattle.std.proofs.lemmas.Option.{none-some, cond_some}
use Rattle.mf_base.specs.Texts.{Text}
use Rattle.mf_base.specs.Ranges.{within_numbers}
use Rattle.mf_base.specs.Numbers.{digits_up_to, number_in}

within-most : (least most : ℕ) (o : Option ℕ) (n : ℕ) → option_and_then (within_numbers least most) o ≡ Some n
    → n ≤ most
within-most least most None n e = absurd (none-some n e)
within-most least most (Some m) n e =
    let kept = cond_some (nat_le least m && nat_le m most) m n e in
    let bound = leb-true m most (and_parts (nat_le least m) (nat_le m most) kept.0).1 in
    omega (arith, bound, kept.1)

pub number-most : (least most : ℕ) (text : Text) (n : ℕ) → Some n ≡ number_in least most text → n ≤ most
unfolding number_in
number-most least most text n e = within-most least most (digits_up_to 20 text) n (sym e)

pub fits-w32 : (least most : ℕ) (text : Text) (n : ℕ) → Some n ≡ number_in least most text → most < 2 ^ 32 → Fits w32 n
fits-w32 least most text n e small = record { fits = omega (arith, small, number-most least most text n e) }

pub fits-w8 : (text : Text) (n : ℕ) → Some n ≡ number_in 0 21 text → Fits w8 n
fits-w8 text n e = record { fits = omega (arith, number-most 0 21 text n e) }

pub ruleset number_fits = (fits-w32, fits-w8)
