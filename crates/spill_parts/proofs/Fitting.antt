-- Rows that are still to be put fit the limit of a part.
use Rattle.std.proofs.Common.{◌≡◌, ℕ, suc, ◌+◌, ◌*◌, ◌≤◌, Bool, true, List, ◌∷◌, ◌++◌, length, Some}
use Rattle.std.proofs.Common.{sym, ap, subst, ◌∙◌, arith}
use Rattle.std.proofs.Math.Nat.{mul-add, mul-suc}
use Rattle.std.proofs.lemmas.List.{length-append}
use Rattle.std.specs.Prelude.{◌==◌, find}
use Rattle.spill_parts.specs.Parts.{Part, GivesNext}
use Rattle.spill_parts.specs.Join.{joined_rows, one_joined}
use Rattle.spill_parts.proofs.Joined.{first_of_all}
use Rattle.spill_parts.proofs.Looked.{told_row, joined_first}

-- one of those that are left is put
pub one_moves : (width have have_now left left_now limit : ℕ) → have_now ≡ have + 1 → left ≡ left_now + 1
    → width * have + width * left ≤ limit → width * have_now + width * left_now ≤ limit
one_moves width have have_now left left_now limit put given fits =
    omega (arith, ap (λ n. width * n) put, ap (λ n. width * n) given, fits)

-- and there is room for it
pub one_of_these : (width have left left_now limit : ℕ) → left ≡ left_now + 1 → width * have + width * left ≤ limit
    → width * have + width ≤ limit
one_of_these width have left left_now limit given fits = omega (arith, ap (λ n. width * n) given, fits)

-- There is room for what the next of some rows is joined to, where there is room for what all are joined to.
pub joined_fits : {R N O : Type 0} (ref_key : R → ℕ) (node_key : N → ℕ) (join : R → N → O) (width limit : ℕ)
    (source nodes : Part N) → source ≡ nodes → (tells : Bool) (left : List R) (row : R) (left_now : List R)
    → GivesNext tells left (Some row) left_now → tells ≡ true → (refs : List R) (out : List O)
    → out ++ joined_rows ref_key node_key join nodes.rows left ≡ joined_rows ref_key node_key join nodes.rows refs
    → width * length (joined_rows ref_key node_key join nodes.rows refs) ≤ limit
    → width * length out + width * length (one_joined join row (find (λ n. node_key n == ref_key row) source.rows)) ≤ limit
joined_fits {R} {N} {O} ref_key node_key join width limit source nodes same tells left row left_now given told refs out is
    fits =
    let J : List R → List O = joined_rows ref_key node_key join nodes.rows in
    let one : List O = one_joined join row (find (λ (n : N). node_key n == ref_key row) nodes.rows) in
    let first : left ≡ row ∷ left_now = told_row tells left row left_now given told in
    let all : out ++ (one ++ J left_now) ≡ J refs =
    ap (λ rs. out ++ rs) (sym (joined_first ref_key node_key join nodes.rows row left_now) ∙ ap J (sym first)) ∙ is in
    subst (λ (p : Part N). width * length out + width * length
    (one_joined join row (find (λ (n : N). node_key n == ref_key row) p.rows)) ≤ limit) (sym same)
    (first_of_all width limit out one (J left_now) (J refs) all fits)

-- where there is room for all rows, there is room for the first of those that are left
pub still_within : {K : Type 0} (width limit : ℕ) (here left first all : List K) (row : K)
    → here ++ row ∷ left ≡ first ++ all → width * (length first + length all) ≤ limit
    → width * length here + width ≤ limit
still_within width limit here left first all row same le =
    let long : length here + suc (length left) ≡ length first + length all =
    sym (length-append here (row ∷ left)) ∙ ap length same ∙ length-append first all in
    let spread : width * (length here + suc (length left)) ≡ width * length here + width * suc (length left) =
    mul-add width (length here) (suc (length left)) in
    let one : width * suc (length left) ≡ width * length left + width = mul-suc width (length left) in
    let total : width * (length here + suc (length left)) ≡ width * (length first + length all) =
    ap (λ n. width * n) long in
    omega arith
