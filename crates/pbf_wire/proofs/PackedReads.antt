-- The first of whole varints, and how many they are.
use Rattle.std.proofs.Common.{◌≡◌, ◌<◌, ◌&&◌, ℕ, suc, List, [], ◌∷◌, length, take, drop, map, refl, sym, ap}
use Rattle.std.proofs.Common.{◌∙◌, arith, inl, inr, true, false, cond, Ok, Err, nat_lt}
use Rattle.std.specs.List.{list_all, count_by}
use Rattle.std.proofs.lemmas.Bool.{cases_lt, cases_Bool, lt-ltb, le-ltb}
use Rattle.std.proofs.lemmas.List.{take-append-drop, nil_from_length}
use Rattle.std.proofs.lemmas.List.Sums.{sum_by-append}
use Rattle.mf_base.specs.Spelling.{high_run, sevens}
use Rattle.mf_base.specs.NumberReading.{varint_front}
use Rattle.mf_base.specs.declared.number.VarintFault.{VarintFault}
use Rattle.mf_base.proofs.Runs.{high_run-low, high_run-high}
use Rattle.mf_base.proofs.NumberLemmas.{varint_reads, varint_found}
use Rattle.mf_base.proofs.StepLaws.{err_is_no_ok}
use Rattle.mf_base.specs.Packed.{runs, is_varint, are_varints, packed_numbers}
use Rattle.osm_model.specs.Wire.{IsPacked}
use Rattle.osm_model.proofs.PackedLaws.{varint_is, packed_found, runs-nil, runs-append}

first_run_of : (bytes : List ℕ) (n size : ℕ) → varint_front bytes ≡ Ok (n, size)
    → runs bytes ≡ take size bytes ∷ runs (drop size bytes)
first_run_of bytes n size e = let found = varint_found bytes n size e in ap runs (sym (take-append-drop size bytes))
    ∙ runs-append (take size bytes) (drop size bytes) found.spelled.run

pub numbers-first : (bytes : List ℕ) (n size : ℕ) → varint_front bytes ≡ Ok (n, size)
    → packed_numbers bytes ≡ n ∷ packed_numbers (drop size bytes)
numbers-first bytes n size e =
    let found = varint_found bytes n size e in
    ap (map sevens) (first_run_of bytes n size e)
    ∙ ap (λ k. k ∷ packed_numbers (drop size bytes)) (sym found.spelled.value)

pub whole-first : (bytes : List ℕ) (n size : ℕ) → varint_front bytes ≡ Ok (n, size)
    → are_varints bytes ≡ are_varints (drop size bytes)
whole-first bytes n size e =
    let found = varint_found bytes n size e in
    ap (list_all is_varint) (first_run_of bytes n size e)
    ∙ ap (λ b. b && are_varints (drop size bytes)) (varint_is n (take size bytes) found.spelled)

-- whole varints begin with one, unless there is none
no_packed : (bytes ns : List ℕ) (fault : VarintFault) → IsPacked bytes ns → varint_front bytes ≡ Err fault → bytes ≡ []
no_packed bytes [] fault e f = e
no_packed bytes (n ∷ ns) fault (front, rest, v, more, whole) f =
    absurd (err_is_no_ok _ _ (sym f ∙ ap varint_front whole ∙ varint_reads n front rest v))

pub whole-end : (bytes : List ℕ) (fault : VarintFault) → are_varints bytes ≡ true → varint_front bytes ≡ Err fault
    → bytes ≡ []
whole-end bytes fault whole f = no_packed bytes (packed_numbers bytes) fault (packed_found bytes whole) f

pub whole-no : (bytes : List ℕ) (fault : VarintFault) → 0 < length bytes → varint_front bytes ≡ Err fault
    → are_varints bytes ≡ false
whole-no bytes fault some f = elim (cases_Bool (are_varints bytes)) [
  | inl whole ↦ absurd (omega (arith, some, ap length (whole-end bytes fault whole f)))
  | inr not ↦ not
]

pub whole-nil : are_varints [] ≡ true
whole-nil = ap (list_all is_varint) runs-nil

pub numbers-nil : packed_numbers [] ≡ []
numbers-nil = ap (map sevens) runs-nil

pub numbers-end : (bytes : List ℕ) (fault : VarintFault) → are_varints bytes ≡ true → Err fault ≡ varint_front bytes
    → packed_numbers bytes ≡ []
numbers-end bytes fault whole e = ap packed_numbers (whole-end bytes fault whole (sym e)) ∙ numbers-nil

-- ---- their number

-- how many bytes have no top bit
abbrev pub low_bytes : List ℕ → ℕ
low_bytes bytes = count_by (λ byte. nat_lt byte 128) bytes

one_low : (b : List ℕ) → length b ≡ suc (high_run b) → low_bytes b ≡ 1
one_low [] run = absurd (omega arith)
one_low (b ∷ c) run = elim (cases_lt b 128) [
  | inl low ↦
      let none : c ≡ [] = nil_from_length c (omega (arith, run, high_run-low b c low)) in
      rw none (rw (lt-ltb b 128 low) refl)
  | inr high ↦
      let rest = one_low c (omega (arith, run, high_run-high b c high)) in
      rw (le-ltb b 128 high) (omega (arith, rest))
]

low_packed : (b ns : List ℕ) → IsPacked b ns → low_bytes b ≡ length ns
low_packed b [] e = ap low_bytes e
low_packed b (n ∷ ns) (front, rest, v, more, whole) =
    let parts = sum_by-append (λ byte. cond (nat_lt byte 128) 1 0) front rest in
    omega (arith, ap low_bytes whole, parts, one_low front v.run, low_packed rest ns more)

-- whole varints are as many as bytes without the top bit
pub count-whole : (bytes : List ℕ) → are_varints bytes ≡ true → low_bytes bytes ≡ length (packed_numbers bytes)
count-whole bytes whole = low_packed bytes (packed_numbers bytes) (packed_found bytes whole)
