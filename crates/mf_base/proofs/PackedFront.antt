-- The first of whole varints, and what stands behind it.
use Rattle.std.proofs.Common.{◌≡◌, ℕ, ◌-◌, ◌<◌, ◌&&◌, List, [], ◌∷◌, length, take, drop, get_or, map, refl, sym, ap}
use Rattle.std.proofs.Common.{◌∙◌, arith, true, Result, Ok, Err}
use Rattle.std.specs.List.{list_all, concat}
use Rattle.std.proofs.lemmas.Bool.{and_parts}
use Rattle.std.proofs.lemmas.List.{take-append-drop, take_rest}
use Rattle.mf_base.specs.Spelling.{sevens}
use Rattle.mf_base.specs.NumberReading.{varint_front, read_at}
use Rattle.mf_base.specs.Packed.{runs, is_varint, are_varints, packed_numbers}
use Rattle.mf_base.specs.declared.number.VarintFault.{VarintFault}
use Rattle.mf_base.proofs.StepLaws.{err_is_no_ok}
use Rattle.mf_base.proofs.VarintRead.{read-none, answer-within}
use Rattle.mf_base.proofs.NumberLemmas.{varint_reads, varint_found}
use Rattle.mf_base.proofs.PackedLaws.{runs-nil, runs-append, varint_is, is_varint_spells, concat-runs}

pub whole-nil : are_varints [] ≡ true
whole-nil = ap (list_all is_varint) runs-nil

pub numbers-nil : packed_numbers [] ≡ []
numbers-nil = ap (map sevens) runs-nil

first_run_of : (bytes : List ℕ) (n size : ℕ) → varint_front bytes ≡ Ok (n, size)
    → runs bytes ≡ take size bytes ∷ runs (drop size bytes)
first_run_of bytes n size e = let found = varint_found bytes n size e in ap runs (sym (take-append-drop size bytes))
    ∙ runs-append (take size bytes) (drop size bytes) found.spelled.run

pub numbers-first : (bytes : List ℕ) (n size : ℕ) → varint_front bytes ≡ Ok (n, size)
    → packed_numbers bytes ≡ n ∷ packed_numbers (drop size bytes)
numbers-first bytes n size e =
    let found = varint_found bytes n size e in
    ap (map sevens) (first_run_of bytes n size e)
    ∙ ap (λ k. k ∷ packed_numbers (drop size bytes)) (sym found.spelled.value)

pub whole-first : (bytes : List ℕ) (n size : ℕ) → varint_front bytes ≡ Ok (n, size)
    → are_varints bytes ≡ are_varints (drop size bytes)
whole-first bytes n size e =
    let found = varint_found bytes n size e in
    ap (list_all is_varint) (first_run_of bytes n size e)
    ∙ ap (λ b. b && are_varints (drop size bytes)) (varint_is n (take size bytes) found.spelled)

-- runs that are varints begin with one
no_front : (rs : List (List ℕ)) (fault : VarintFault) → list_all is_varint rs ≡ true
    → varint_front (concat rs) ≡ Err fault → concat rs ≡ []
no_front [] fault whole f = refl
no_front (r ∷ rs) fault whole f =
    let spelled = is_varint_spells r (and_parts _ _ whole).0 in
    absurd (err_is_no_ok _ _ (sym f ∙ varint_reads (sevens r) r (concat rs) spelled))

-- whole varints begin with one, unless there is none
pub whole-end : (bytes : List ℕ) (fault : VarintFault) → are_varints bytes ≡ true → varint_front bytes ≡ Err fault
    → bytes ≡ []
whole-end bytes fault whole f =
    sym (concat-runs bytes) ∙ no_front (runs bytes) fault whole (ap varint_front (concat-runs bytes) ∙ f)

-- what is read at the start is what stands in front
read_there : {F : Type 0} (front : Result (ℕ × ℕ) F) → front ≡ read_at 0 front
read_there (Ok found) = ap (λ n. Ok (found.0, n)) (omega arith)
read_there (Err fault) = refl

pub front-read : (bytes : List ℕ) → read_at 0 (varint_front (drop 0 bytes)) ≡ varint_front bytes
front-read bytes = sym (read_there (varint_front bytes))

-- a byte without the top bit is a varint
pub front-one : (bytes : List ℕ) (byte : ℕ) → 0 < length bytes → byte ≡ get_or bytes 0 0 → byte < 128
    → Ok (byte, 1) ≡ varint_front bytes
front-one bytes byte some is low =
    ap (λ n. Ok (n, 1)) (omega arith) ∙ answer-within bytes 0 1 0 byte (read-none bytes) some (omega arith) is low

-- ---- the exits of `first_packed`

pub first-numbers : (bytes : List ℕ) (n size : ℕ) → Ok (n, size) ≡ varint_front bytes
    → packed_numbers bytes ≡ n ∷ packed_numbers (take (length bytes - size) (drop size bytes))
first-numbers bytes n size e =
    numbers-first bytes n size (sym e) ∙ ap (λ b. n ∷ packed_numbers b) (sym (take_rest bytes size))

pub first-whole : (bytes : List ℕ) (n size : ℕ) → are_varints bytes ≡ true → Ok (n, size) ≡ varint_front bytes
    → are_varints (take (length bytes - size) (drop size bytes)) ≡ true
first-whole bytes n size whole e =
    ap are_varints (take_rest bytes size) ∙ sym (whole-first bytes n size (sym e)) ∙ whole
