-- The ids of messages have signed 64 bits: laws on accepted inputs cite this.
use Rattle.std.proofs.Common.{◌≡◌, ◌∙◌, ◌==◌, ◌%◌, ◌/◌, ℕ, ◌<◌, ◌^◌, ◌-◌, List, [], ◌∷◌, refl, sym, subst, arith, inl}
use Rattle.std.proofs.Common.{inr, true, false, Bool, cond, Ok, Option, Some, None, ℤ, pos, negsuc}
use Rattle.std.specs.Prelude.{⊤, int_le, filter_map, option_map, FitsSigned}
use Rattle.std.specs.List.{AllByRecursion, last_or, cons_option}
use Rattle.std.specs.Int.{w64, cast_signed}
use Rattle.std.proofs.Math.Facts.{sfits_to_z, Fits-of_lt}
use Rattle.std.proofs.lemmas.Bool.{leb-true, and_parts, cases_Bool}
use Rattle.std.proofs.lemmas.Option.{none-some, same_Some}
use Rattle.mf_base.specs.Spelling.{unzigzag_of}
use Rattle.mf_base.specs.Ranges.{is_signed_64}
use Rattle.mf_base.proofs.StepLaws.{ok_or_ok}
use Rattle.osm_model.specs.declared.faults.EntityFault.TheVariants.{Missing}
use Rattle.osm_model.specs.Wire.{Value, varint, i64, len, i32, Field, SpellsValue, IsMessage, int64}
use Rattle.osm_model.specs.Tables.{Table, message, values_of, varint_in, number_of}
use Rattle.osm_model.specs.Objects.{sint64_at, int64_at}
use Rattle.osm_model.proofs.TableMessageLaws.{message_found}

-- ---- the varints of a message

abbrev IsNarrow : Field → Type 0
IsNarrow f = (n : ℕ) → varint_in f.value ≡ Some n → n < 2 ^ 64

narrow_value : (v : Value) (b : List ℕ) → SpellsValue v b → (n : ℕ) → varint_in v ≡ Some n → n < 2 ^ 64
narrow_value (varint m) b h n e = subst (λ k. k < 2 ^ 64) (same_Some m n e) h.fits
narrow_value (i64 bytes) b h n e = absurd (none-some n e)
narrow_value (len bytes) b h n e = absurd (none-some n e)
narrow_value (i32 bytes) b h n e = absurd (none-some n e)

narrow_fields : (b : List ℕ) (fs : List Field) → IsMessage b fs → AllByRecursion IsNarrow fs
narrow_fields b [] h = tt
narrow_fields b (f ∷ fs) (front, rest, spelled, others, whole) =
    let (key, value, keyed, valued, cut) = spelled.spelled in
    (narrow_value f.value value valued, narrow_fields rest fs others)

abbrev last_of : Option ℕ → ℕ → List Field → Option ℕ
last_of o k fs = last_or o (filter_map varint_in (values_of k fs))

last_narrow : (k : ℕ) (fs : List Field) (o : Option ℕ) → AllByRecursion IsNarrow fs
    → ((n : ℕ) → o ≡ Some n → n < 2 ^ 64) → (n : ℕ) → last_of o k fs ≡ Some n → n < 2 ^ 64
last_narrow k [] o h first n e = first n e
last_narrow k (f ∷ fs) o h first n e = go (λ p small. last_narrow k fs p h.1 small n) (f.number == k) refl e
  where
    behind : ((p : Option ℕ) → ((m : ℕ) → p ≡ Some m → m < 2 ^ 64) → last_of p k fs ≡ Some n → n < 2 ^ 64)
        → (v : Option ℕ) → varint_in f.value ≡ v
        → last_or o (cons_option v (filter_map varint_in (values_of k fs))) ≡ Some n → n < 2 ^ 64
    behind later None is e = later o first e
    behind later (Some m) is e = later (Some m) (λ j same. h.0 j (is ∙ same)) e

    go : ((p : Option ℕ) → ((m : ℕ) → p ≡ Some m → m < 2 ^ 64) → last_of p k fs ≡ Some n → n < 2 ^ 64) → (c : Bool)
        → (f.number == k) ≡ c
        → last_or o (filter_map varint_in (cons_option (cond c (Some f.value) None) (values_of k fs))) ≡ Some n
        → n < 2 ^ 64
    go later true is e = behind later (varint_in f.value) refl e
    go later false is e = later o first e

pub number-narrow : (table : Table) (bytes : List ℕ) (fs : List Field) → message table bytes ≡ Ok fs → (k n : ℕ)
    → number_of k fs ≡ Some n → n < 2 ^ 64
number-narrow table bytes fs read k n e =
    last_narrow k fs None (narrow_fields bytes fs (message_found table bytes fs read).0)
    (λ m none. absurd (none-some m none)) n e

-- ---- ids

-- the number is below 2^63
abbrev pub IsBelow : ℤ → Type 0
IsBelow (pos m) = m < 2 ^ 63
IsBelow (negsuc m) = ⊤

below_fits : (z : ℤ) → FitsSigned w64 z → IsBelow z
below_fits (pos m) h = h.sfits
below_fits (negsuc m) h = tt

pub signed-below : (z : ℤ) → is_signed_64 z ≡ true → IsBelow z
signed-below (pos m) e =
    let most = leb-true m (2 ^ 63 - 1)
    (and_parts (int_le (negsuc (2 ^ 63 - 1)) (pos m)) (int_le (pos m) (pos (2 ^ 63 - 1))) e).1 in
    omega (arith, most)
signed-below (negsuc m) e = tt

unzigzag-below : (n : ℕ) → n < 2 ^ 64 → IsBelow (unzigzag_of n)
unzigzag-below n small = elim (cases_Bool (n % 2 == 0)) [
  | inl even ↦ subst (λ c. IsBelow (cond c (pos (n / 2)) (negsuc (n / 2)))) (sym even) (omega (arith, small))
  | inr odd ↦ subst (λ c. IsBelow (cond c (pos (n / 2)) (negsuc (n / 2)))) (sym odd) tt
]

mapped : (tell : ℕ → ℤ) (o : Option ℕ) (id : ℤ) → ((n : ℕ) → o ≡ Some n → IsBelow (tell n))
    → option_map tell o ≡ Some id → IsBelow id
mapped tell None id holds e = absurd (none-some id e)
mapped tell (Some n) id holds e = subst IsBelow (same_Some (tell n) id e) (holds n refl)

pub sint64-below : (table : Table) (bytes : List ℕ) (fs : List Field) → message table bytes ≡ Ok fs → (k : ℕ) (id : ℤ)
    → sint64_at k fs ≡ Ok id → IsBelow id
sint64-below table bytes fs read k id e =
    mapped unzigzag_of (number_of k fs) id (λ n is. unzigzag-below n (number-narrow table bytes fs read k n is))
    (ok_or_ok (option_map unzigzag_of (number_of k fs)) Missing id e)

pub int64-below : (table : Table) (bytes : List ℕ) (fs : List Field) → message table bytes ≡ Ok fs → (k : ℕ) (id : ℤ)
    → int64_at k fs ≡ Ok id → IsBelow id
int64-below table bytes fs read k id e =
    mapped int64 (number_of k fs) id
    (λ n is. below_fits (cast_signed w64 n) (sfits_to_z (Fits-of_lt (number-narrow table bytes fs read k n is))))
    (ok_or_ok (option_map int64 (number_of k fs)) Missing id e)
