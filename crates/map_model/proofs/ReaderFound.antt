-- What a reader finds stands at the front of the bytes.
use Rattle.std.proofs.Common.{◌≡◌, inl, inr, ◌+◌, ℕ, zero, suc, ◌^◌, ◌<◌, ◌≤◌, List, [], ◌∷◌, ◌++◌, length, take, drop}
use Rattle.std.proofs.Common.{append-nil, refl, sym, ap, ◌∙◌, subst, arith, true, false, append_assoc, Result, Ok, Err}
use Rattle.std.proofs.Common.{Some, None}
use Rattle.std.specs.Prelude.{Bool, nat_lt, flat_map, IfSome, is_some}
use Rattle.std.specs.List.{AllByRecursion, AllZip}
use Rattle.std.proofs.lemmas.Bool.{ltb-false}
use Rattle.std.proofs.lemmas.List.{length-append, take-append-drop, length-take-le}
use Rattle.byteorder.specs.Endian.{big_number}
use Rattle.byteorder.specs.Numbers.{big_from-lt, big_from-take}
use Rattle.mf_base.specs.Spelling.{IsBytes, big_endian}
use Rattle.mf_base.proofs.ByteLaws.{take-bytes, drop-bytes}
use Rattle.mf_base.proofs.BigBytes.{big_bytes-big_number}
use Rattle.mf_base.proofs.StepLaws.{err_is_no_ok, bind_ok, chosen, ok_is}
use Rattle.map_model.specs.Layout.{optional}
use Rattle.map_model.specs.Reader.{Stop, with_place, Read, stop, with_rest, fixed, fixed_number, times, read_each}
use Rattle.map_model.specs.Reader.{where_set}

-- the bytes are this text, and then the rest, which is bytes too
pub record Takes (bytes text rest : List ℕ) : Type 0 where
  pub spelt : bytes ≡ text ++ rest
  pub behind : IsBytes rest

-- what was found at the front of these bytes fits, and is spelled there
abbrev pub IsFound : {X : Type 0} → (X → List ℕ) → (X → Type 0) → List ℕ → X × List ℕ → Type 0
IsFound spell Fits bytes r = Takes bytes (spell r.0) r.1 × Fits r.0

-- a reader finds nothing else
abbrev pub Finds : {Kind X : Type 0} → (List ℕ → Read Kind X) → (X → List ℕ) → (X → Type 0) → Type 0
Finds {Kind} {X} read spell Fits = (bytes : List ℕ) (r : X × List ℕ) → IsBytes bytes → read bytes ≡ Ok r
    → IsFound spell Fits bytes r

-- ---- parts of bytes

-- how many bytes stand in front of so many
pub part_size : (n : ℕ) (bytes part rest : List ℕ) → bytes ≡ part ++ rest → n + length rest ≡ length bytes
    → n ≡ length part
part_size n bytes part rest spelt size = omega (arith, ap length spelt, size, length-append part rest)

-- nothing is taken
pub nothing : (bytes : List ℕ) → IsBytes bytes → Takes bytes [] bytes
nothing bytes small = record { spelt = refl; behind = small }

-- so many bytes are taken
pub taken : (k : ℕ) (bytes : List ℕ) → IsBytes bytes → Takes bytes (take k bytes) (drop k bytes)
taken k bytes small = record { spelt = sym (take-append-drop k bytes); behind = drop-bytes k bytes small }

-- a text and the one behind it
pub then : {bytes a middle b rest : List ℕ} → Takes bytes a middle → Takes middle b rest → Takes bytes (a ++ b) rest
then {bytes} {a} {middle} {b} {rest} x y =
    record { spelt = x.spelt ∙ ap (λ c. a ++ c) y.spelt ∙ sym (append_assoc a b rest); behind = y.behind }

-- what was found has a size, and the rest is behind it
pub with_rest_ok : {E X : Type 0} (bytes : List ℕ) (f : Result (X × ℕ) E) (r : X × List ℕ) → with_rest bytes f ≡ Ok r
    → (size : ℕ) × (f ≡ Ok (r.0, size)) × (drop size bytes ≡ r.1)
with_rest_ok bytes (Ok found) r e = let is =
    ok_is (found.0, drop found.1 bytes) r e in (found.1, ap (λ q. Ok (q.0, found.1)) is, ap (λ q. q.1) is)
with_rest_ok bytes (Err f) r e = absurd (err_is_no_ok f r e)

-- the bytes are a text behind which nothing is left
pub none_left : (bytes text rest : List ℕ) → Takes bytes text rest → length rest ≡ 0 → bytes ≡ text
none_left bytes text [] h e = h.spelt ∙ append-nil text
none_left bytes text (b ∷ rest) h e = absurd (omega (arith, e))

pub placed_ok : {Kind Fault X : Type 0} (fault : ℕ → Kind → Fault) (total : ℕ) (r : Result X (Stop Kind)) (x : X)
    → with_place fault total r ≡ Ok x → r ≡ Ok x
placed_ok fault total (Ok y) x e = cc
placed_ok fault total (Err f) x e = absurd (err_is_no_ok _ x e)

-- the front of so many bytes is this text
pub front : (size : ℕ) (bytes text rest : List ℕ) → IsBytes bytes → take size bytes ≡ text → drop size bytes ≡ rest
    → Takes bytes text rest
front size bytes text rest small is behind =
    subst (λ t. Takes bytes t rest) is (subst (λ d. Takes bytes (take size bytes) d) behind (taken size bytes small))

-- ---- fixed widths

fixed_is : {Kind : Type 0} (short : Kind) (width : ℕ) (bytes : List ℕ) (r : List ℕ × List ℕ)
    → fixed short width bytes ≡ Ok r → (width ≤ length bytes) × ((take width bytes, drop width bytes) ≡ r)
fixed_is short width bytes r e =
    elim (chosen (nat_lt (length bytes) width) (Err (stop short bytes)) (Ok (take width bytes, drop width bytes)) (Ok r)
    e) [
      | inl cut ↦ absurd (err_is_no_ok _ r cut.1)
      | inr whole ↦ (ltb-false (length bytes) width whole.0, ok_is (take width bytes, drop width bytes) r whole.1)
    ]

-- a field of so many bytes
abbrev pub AreSoManyBytes : ℕ → List ℕ → Type 0
AreSoManyBytes width field = (length field ≡ width) × IsBytes field

-- so many bytes
pub fixed-found : {Kind : Type 0} (short : Kind) (width : ℕ)
    → Finds (fixed short width) (λ field. field) (AreSoManyBytes width)
fixed-found short width bytes r small e =
    let is = fixed_is short width bytes r e in
    subst (IsFound (λ field. field) (AreSoManyBytes width) bytes) is.1 (
      taken width bytes small,
      (length-take-le width bytes is.0, take-bytes width bytes small),
    )

-- a number of so many bytes
pub fixed_number-found : {Kind : Type 0} (short : Kind) (width : ℕ)
    → Finds (fixed_number short width) (big_endian width) (λ n. n < 256 ^ width)
unfolding big_endian
fixed_number-found short width bytes r small e =
    let field = bind_ok _ _ r e in
    let is = fixed_is short width bytes field.0 field.1 in
    let value : big_number width bytes ≡ big_number width field.0.0 =
    sym (big_from-take 0 width width bytes (omega arith))
    ∙ ap (λ (q : List ℕ × List ℕ). big_number width q.0) is.1 in
    let text : take width bytes ≡ big_endian width (big_number width bytes) =
    sym (big_bytes-big_number width bytes small is.0) in
    let rest : drop width bytes ≡ field.0.1 = ap (λ (q : List ℕ × List ℕ). q.1) is.1 in
    let found : IsFound (big_endian width) (λ n. n < 256 ^ width) bytes (big_number width bytes, field.0.1) = (
      front width bytes (big_endian width (big_number width bytes)) field.0.1 small text rest,
      big_from-lt 0 width bytes small,
    ) in
    subst (IsFound (big_endian width) (λ n. n < 256 ^ width) bytes) (ap (λ m. (m, field.0.1)) value
    ∙ ok_is (big_number width field.0.0, field.0.1) r field.2) found

-- ---- several

-- so many times the same
pub times-found : {Kind X : Type 0} (read : List ℕ → Read Kind X) (spell : X → List ℕ) (Fits : X → Type 0)
    → Finds read spell Fits → (n : ℕ)
    → Finds (times n read) (flat_map spell) (λ xs. (length xs ≡ n) × AllByRecursion Fits xs)
unfolding times
times-found read spell Fits finds zero bytes r small e =
    subst (IsFound (flat_map spell) (λ xs. (length xs ≡ zero) × AllByRecursion Fits xs) bytes) (ok_is ([], bytes) r e)
    (nothing bytes small, (refl, tt))
times-found read spell Fits finds (suc n) bytes r small e =
    let first = bind_ok _ _ r e in
    let others = bind_ok _ _ r first.2 in
    let x = finds bytes first.0 small first.1 in
    let xs = times-found read spell Fits finds n first.0.1 others.0 x.0.behind others.1 in
    subst (IsFound (flat_map spell) (λ xs. (length xs ≡ suc n) × AllByRecursion Fits xs) bytes)
    (ok_is (first.0.0 ∷ others.0.0, others.0.1) r others.2)
    (then x.0 xs.0, (ap suc xs.1.0, (x.1, xs.1.1)))

-- one for read_each element of a list
pub each-found : {Kind C X : Type 0} (read : C → List ℕ → Read Kind X) (spell : X → List ℕ) (Fits : C → X → Type 0)
    → ((c : C) → Finds (read c) spell (Fits c)) → (cs : List C)
    → Finds (read_each read cs) (flat_map spell) (AllZip Fits cs)
unfolding read_each
each-found read spell Fits finds [] bytes r small e =
    subst (IsFound (flat_map spell) (AllZip Fits []) bytes) (ok_is ([], bytes) r e) (nothing bytes small, tt)
each-found read spell Fits finds (c ∷ cs) bytes r small e =
    let first = bind_ok _ _ r e in
    let others = bind_ok _ _ r first.2 in
    let x = finds c bytes first.0 small first.1 in
    let xs = each-found read spell Fits finds cs first.0.1 others.0 x.0.behind others.1 in
    subst (IsFound (flat_map spell) (AllZip Fits (c ∷ cs)) bytes)
    (ok_is (first.0.0 ∷ others.0.0, others.0.1) r others.2) (then x.0 xs.0, (x.1, xs.1))

-- one where the flag is set, and else none
pub where_set-found : {Kind X : Type 0} (read : List ℕ → Read Kind X) (spell : X → List ℕ) (Fits : X → Type 0)
    → Finds read spell Fits → (set : Bool)
    → Finds (where_set set read) (optional spell) (λ o. IfSome o Fits × (is_some o ≡ set))
where_set-found read spell Fits finds true bytes r small e =
    let x = bind_ok _ _ r e in
    let found = finds bytes x.0 small x.1 in
    subst (IsFound (optional spell) (λ o. IfSome o Fits × (is_some o ≡ true)) bytes) (ok_is (Some x.0.0, x.0.1) r x.2)
    (found.0, (found.1, refl))
where_set-found read spell Fits finds false bytes r small e =
    subst (IsFound (optional spell) (λ o. IfSome o Fits × (is_some o ≡ false)) bytes) (ok_is (None, bytes) r e)
    (nothing bytes small, (tt, refl))
