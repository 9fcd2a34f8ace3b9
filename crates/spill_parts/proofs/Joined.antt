-- How many rows a join has.
use Rattle.std.proofs.Common.{◌≡◌, ℕ, suc, ◌+◌, ◌*◌, ◌≤◌, List, ◌++◌, length, Option, Some, None}
use Rattle.std.proofs.Common.{sym, ap, ◌∙◌, arith, length-append, mul-le-mul_left}
use Rattle.spill_parts.specs.Join.{one_joined}

-- a row is joined to at most one
pub one_at_most : {R N O : Type 0} (join : R → N → O) (r : R) (found : Option N) → length (one_joined join r found) ≤ 1
one_at_most join r None = omega arith
one_at_most join r (Some n) = omega arith

-- and a list with it is at most one longer
pub one_longer : {R N O : Type 0} (join : R → N → O) (r : R) (found : Option N) (out out_now : List O)
    → out_now ≡ out ++ one_joined join r found → length out_now ≤ length out + 1
one_longer join r found out out_now is =
    omega (arith, ap length is ∙ length-append out (one_joined join r found), one_at_most join r found)

-- room for one row is room for those that one is joined to
pub one_fits : {R N O : Type 0} (join : R → N → O) (r : R) (found : Option N) (width have limit : ℕ)
    → width * have + width ≤ limit → width * have + width * length (one_joined join r found) ≤ limit
one_fits join r None width have limit fits = omega (arith, fits)
one_fits join r (Some n) width have limit fits = omega (arith, fits)

-- while rows are left there is room for one
pub one_of_left : (width have left all limit : ℕ) → have + suc left ≤ all → width * all ≤ limit
    → width * have + width ≤ limit
one_of_left width have left all limit few fits =
    let most : width * (have + 1) ≤ width * all = mul-le-mul_left width (omega (arith, few)) in
    omega (arith, most, fits)

-- and for those that the first is joined to
pub first_of_all : {O : Type 0} (width limit : ℕ) (out one rest all : List O) → out ++ (one ++ rest) ≡ all
    → width * length all ≤ limit → width * length out + width * length one ≤ limit
first_of_all width limit out one rest all is fits =
    let many : length all ≡ length out + (length one + length rest) =
    ap length (sym is) ∙ length-append out (one ++ rest) ∙ ap (λ n. length out + n) (length-append one rest) in
    let most : width * (length out + length one) ≤ width * length all = mul-le-mul_left width (omega (arith, many)) in
    omega (arith, most, fits)
