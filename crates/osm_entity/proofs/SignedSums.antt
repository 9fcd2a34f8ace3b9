-- Sums that are numbers of signed 64 bits.
use Rattle.std.proofs.Common.{map, Ok, Err}
use Rattle.std.specs.List.{list_all}
use Rattle.mf_base.specs.Steps.{◌>>=◌, require}
use Rattle.osm_model.specs.declared.faults.EntityFault.TheVariants.{Range}
use Rattle.osm_model.specs.Objects.{running_sums}
use Rattle.osm_model.proofs.ColumnLaws.{column_from-zero}
use Rattle.osm_entity.specs.Refs.{checked_refs}
use Rattle.std.proofs.Common.{◌≡◌, ◌∙◌, ◌∷◌, ◌≤◌, ◌^◌, ◌-◌, ℕ, List, Bool, true, false, cond, ℤ, pos, negsuc, ◌+ℤ◌}
use Rattle.std.proofs.Common.{FitsSigned, to_z, of_z, w64, refl, sym, ap, arith, Option, Some, None}
use Rattle.std.proofs.Common.{[]}
use Rattle.std.specs.Prelude.{slice_get, drop}
use Rattle.std.proofs.lemmas.Int.{to_z-of_z, ints}
use Rattle.std.proofs.lemmas.Option.{none-some, same_Some}
use Rattle.std.proofs.lemmas.Bool.{and_parts, leb-true}
use Rattle.mf_base.specs.Spelling.{unzigzag_of}
use Rattle.mf_base.specs.Ranges.{is_signed_64}
use Rattle.mf_base.specs.Packed.{packed_numbers}
use Rattle.osm_entity.specs.Sums.{sums_in, are_signed}
use Rattle.osm_entity.proofs.SumReads.{signed-first, signed-more, signed-no, sums-first, sums-none}

pub signed-fits : (z : ℤ) → is_signed_64 z ≡ true → FitsSigned w64 z
signed-fits (pos n) e = let most : n ≤ 2 ^ 63 - 1 = leb-true n (2 ^ 63 - 1) e in omega (arith, ints, most)
signed-fits (negsuc n) e =
    let least : n ≤ 2 ^ 63 - 1 = leb-true n (2 ^ 63 - 1) (and_parts _ _ e).0 in omega (arith, ints, least)

-- the refs of packed differences
abbrev refs_in : List ℕ → List ℤ
refs_in ds = running_sums (map unzigzag_of (packed_numbers ds))

-- a sum as it is kept in 64 bits
abbrev kept : ℤ → ℤ
kept z = to_z w64 (of_z w64 z)

pub sum-fits : (sum d : ℤ) → FitsSigned w64 sum → FitsSigned w64 d → is_signed_64 (sum +ℤ d) ≡ true
    → FitsSigned w64 (kept sum +ℤ kept d)
sum-fits sum d f g e = rw (to_z-of_z w64 sum f, to_z-of_z w64 d g) (signed-fits (sum +ℤ d) e)

pub sum-kept : (sum d : ℤ) → FitsSigned w64 sum → FitsSigned w64 d → is_signed_64 (sum +ℤ d) ≡ true
    → kept (kept sum +ℤ kept d) ≡ sum +ℤ d
sum-kept sum d f g e = rw (to_z-of_z w64 sum f, to_z-of_z w64 d g) (to_z-of_z w64 (sum +ℤ d) (signed-fits (sum +ℤ d) e))

-- the first sum, and those behind it
pub signed-parts : (sum : ℤ) (bytes rest : List ℕ) (n : ℕ) → are_signed sum bytes ≡ true
    → packed_numbers bytes ≡ n ∷ packed_numbers rest
    → (is_signed_64 (sum +ℤ unzigzag_of n) ≡ true) × (are_signed (sum +ℤ unzigzag_of n) rest ≡ true)
signed-parts sum bytes rest n e is =
    and_parts (is_signed_64 (sum +ℤ unzigzag_of n)) (are_signed (sum +ℤ unzigzag_of n) rest)
    (sym (signed-first sum bytes rest n is) ∙ e)

-- What is known of the next sum, as it is kept in 64 bits.
pub record IsNextSum (sum d : ℤ) (n : ℕ) (rest : List ℕ) : Type 0 where
  pub fits : FitsSigned w64 (kept sum +ℤ kept d)
  pub is : kept (kept sum +ℤ kept d) ≡ sum +ℤ unzigzag_of n
  pub signed : are_signed (kept (kept sum +ℤ kept d)) rest ≡ true

pub next-sum : (sum d : ℤ) (n : ℕ) (bytes rest : List ℕ) → FitsSigned w64 sum → FitsSigned w64 d → d ≡ unzigzag_of n
    → are_signed sum bytes ≡ true → packed_numbers bytes ≡ n ∷ packed_numbers rest → IsNextSum sum d n rest
next-sum sum d n bytes rest f g is signed numbers =
    let (here, behind) = signed-parts sum bytes rest n signed numbers in
    let narrow : is_signed_64 (sum +ℤ d) ≡ true = ap (λ z. is_signed_64 (sum +ℤ z)) is ∙ here in
    let value = sum-kept sum d f g narrow ∙ ap (λ z. sum +ℤ z) is in
    record {
      fits = sum-fits sum d f g narrow;
      is = value;
      signed = ap (λ z. are_signed z rest) value ∙ behind;
    }

-- ---- the exits of the cursor over refs

pub next-ref : (sum z : ℤ) (n : ℕ) (bytes rest : List ℕ) → z ≡ sum +ℤ unzigzag_of n
    → packed_numbers bytes ≡ n ∷ packed_numbers rest → Some z ≡ slice_get (sums_in sum bytes) 0
next-ref sum z n bytes rest is numbers =
    ap Some is ∙ sym (ap (λ zs. slice_get zs 0) (sums-first sum bytes rest n numbers))

pub other-refs : (sum z : ℤ) (n : ℕ) (bytes rest : List ℕ) → z ≡ sum +ℤ unzigzag_of n
    → packed_numbers bytes ≡ n ∷ packed_numbers rest → sums_in z rest ≡ drop 1 (sums_in sum bytes)
other-refs sum z n bytes rest is numbers =
    ap (λ s. sums_in s rest) is ∙ sym (ap (drop 1) (sums-first sum bytes rest n numbers))

pub no-ref : (sum : ℤ) (bytes : List ℕ) → packed_numbers bytes ≡ [] → None ≡ slice_get (sums_in sum bytes) 0
no-ref sum bytes numbers = sym (ap (λ zs. slice_get zs 0) (sums-none sum bytes numbers))

pub no-refs : (sum : ℤ) (bytes : List ℕ) → packed_numbers bytes ≡ [] → sums_in sum bytes ≡ drop 1 (sums_in sum bytes)
no-refs sum bytes numbers = sums-none sum bytes numbers ∙ sym (ap (drop 1) (sums-none sum bytes numbers))

-- ---- the check of a sum

narrow-not : (b : Bool) (z : ℤ) → None ≡ cond b (Some z) None → b ≡ false
narrow-not true z e = absurd (none-some z e)
narrow-not false z e = refl

narrow-is : (b : Bool) (z next : ℤ) → Some next ≡ cond b (Some z) None → (b ≡ true) × (next ≡ z)
narrow-is true z next e = (refl, same_Some next z e)
narrow-is false z next e = absurd (none-some next (sym e))

-- the sum of numbers that were passed
abbrev checked : ℤ → ℤ → Option ℤ
checked x y = cond (is_signed_64 (x +ℤ y)) (Some (x +ℤ y)) None

pub told-wide : (sum x y : ℤ) (n : ℕ) (bytes rest : List ℕ) (answer : Option ℤ) → answer ≡ checked x y
    → x ≡ sum → y ≡ unzigzag_of n → answer ≡ None → packed_numbers bytes ≡ n ∷ packed_numbers rest
    → are_signed sum bytes ≡ false
told-wide sum x y n bytes rest answer told is_x is_y none numbers =
    signed-no sum bytes rest n numbers
    (ap (λ z. is_signed_64 (z +ℤ unzigzag_of n)) (sym is_x) ∙ ap (λ z. is_signed_64 (x +ℤ z)) (sym is_y)
    ∙ narrow-not (is_signed_64 (x +ℤ y)) (x +ℤ y) (sym none ∙ told))

pub told-narrow : (sum x y next kept : ℤ) (n : ℕ) (bytes rest : List ℕ) (answer : Option ℤ)
    → answer ≡ checked x y → x ≡ sum → y ≡ unzigzag_of n → answer ≡ Some next → kept ≡ next
    → packed_numbers bytes ≡ n ∷ packed_numbers rest → are_signed sum bytes ≡ are_signed kept rest
told-narrow sum x y next kept n bytes rest answer told is_x is_y some is numbers =
    let (narrow, value) = narrow-is (is_signed_64 (x +ℤ y)) (x +ℤ y) next (sym some ∙ told) in
    let same : x +ℤ y ≡ sum +ℤ unzigzag_of n = ap (λ z. z +ℤ y) is_x ∙ ap (λ z. sum +ℤ z) is_y in
    signed-more sum bytes rest n numbers (ap is_signed_64 (sym same) ∙ narrow)
    ∙ ap (λ z. are_signed z rest) (sym (is ∙ value ∙ same))

-- ---- what is told of all refs

pub refs-wide : (ds : List ℕ) → are_signed (pos 0) ds ≡ false → Err Range ≡ checked_refs (refs_in ds)
refs-wide ds e =
    ap (λ b. require b Range >>= λ u. Ok (refs_in ds))
    (sym (ap (list_all is_signed_64) (sym (column_from-zero (map unzigzag_of (packed_numbers ds)))) ∙ e))

pub refs-narrow : (ds : List ℕ) → are_signed (pos 0) ds ≡ true → Ok (sums_in (pos 0) ds) ≡ checked_refs (refs_in ds)
refs-narrow ds e =
    ap Ok (column_from-zero (map unzigzag_of (packed_numbers ds)))
    ∙ ap (λ b. require b Range >>= λ u. Ok (refs_in ds))
    (sym (ap (list_all is_signed_64) (sym (column_from-zero (map unzigzag_of (packed_numbers ds)))) ∙ e))
