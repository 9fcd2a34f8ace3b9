-- The front of bytes is a field exactly where it is spelled so.
use Rattle.std.proofs.Common.{◌≡◌, ◌==◌, ◌&&◌, ℕ, ◌+◌, ◌*◌, ◌/◌, ◌%◌, ◌<◌, ◌≤◌, ◌^◌, List, ◌++◌, length, take, drop}
use Rattle.std.proofs.Common.{refl, sym, ap, subst, ◌∙◌, arith, inl, inr, true, Ok, nat_lt, nat_le}
use Rattle.std.proofs.lemmas.Bool.{lt-ltb, le-leb, leb-true, eqb-true, ltb-true, and_parts}
use Rattle.std.proofs.lemmas.List.{take_at, drop_at, length-drop, length-append, append_assoc, length-take-le}
use Rattle.std.proofs.Math.Seq.{take-add}
use Rattle.mf_base.specs.Spelling.{IsVarint}
use Rattle.mf_base.specs.Steps.{◌>>=◌, told_as}
use Rattle.mf_base.specs.NumberReading.{varint_front}
use Rattle.mf_base.proofs.StepLaws.{chosen, ok_is, err_is_no_ok, bind_ok, require_ok, told_ok}
use Rattle.mf_base.proofs.NumberLemmas.{varint_reads, varint_found, IsFront}
use Rattle.osm_model.specs.declared.faults.WireFault.TheVariants as wire_faults
use Rattle.osm_model.specs.Wire.{Value, varint, i64, len, i32, Field, wire_type, field_key, SpellsValue, SpellsField}
use Rattle.osm_model.specs.Wire.{number_front, bytes_front, varint_value, len_value, value_front, field_front}

number_reads : (n : ℕ) (b rest : List ℕ) → IsVarint n b → number_front (b ++ rest) ≡ Ok (n, length b)
number_reads n b rest v = ap (told_as (λ fault. wire_faults.Varint)) (varint_reads n b rest v)

bytes_read : (kind : List ℕ → Value) (count at : ℕ) (bytes : List ℕ) → at + count ≤ length bytes
    → bytes_front kind count at bytes ≡ Ok (kind (take count (drop at bytes)), at + count)
bytes_read kind count at bytes fits = rw (le-leb (at + count) (length bytes) fits) refl

pub value_reads : (v : Value) (b rest : List ℕ) → SpellsValue v b
    → value_front (wire_type v) (b ++ rest) ≡ Ok (v, length b)
value_reads (varint n) b rest v = ap (λ r. r >>= λ n. Ok (varint n.0, n.1)) (number_reads n b rest v)
value_reads (i64 bytes) b rest v =
    let size : length b ≡ 8 = ap length v.1 ∙ v.0 in
    bytes_read i64 8 0 (b ++ rest) (omega (arith, size, length-append b rest))
    ∙ ap (λ x. Ok (i64 x, 8)) (take_at b rest 8 size ∙ v.1) ∙ ap (λ n. Ok (i64 bytes, n)) (sym size)
value_reads (i32 bytes) b rest v =
    let size : length b ≡ 4 = ap length v.1 ∙ v.0 in
    bytes_read i32 4 0 (b ++ rest) (omega (arith, size, length-append b rest))
    ∙ ap (λ x. Ok (i32 x, 4)) (take_at b rest 4 size ∙ v.1) ∙ ap (λ n. Ok (i32 bytes, n)) (sym size)
value_reads (len bytes) b rest (size, spelled, whole) =
    let parts : b ++ rest ≡ size ++ (bytes ++ rest) = ap (λ x. x ++ rest) whole ∙ append_assoc size bytes rest in
    let number : number_front (b ++ rest) ≡ Ok (length bytes, length size) = ap number_front parts
    ∙ number_reads (length bytes) size (bytes ++ rest) spelled in
    let count : length b ≡ length size + length bytes = ap length whole ∙ length-append size bytes in
    let behind : drop (length size) (b ++ rest) ≡ bytes ++ rest = ap (drop (length size)) parts
    ∙ drop_at size (bytes ++ rest) (length size) refl in
    let taken : take (length bytes) (drop (length size) (b ++ rest)) ≡ bytes = ap (take (length bytes)) behind
    ∙ take_at bytes rest (length bytes) refl in
    ap (λ r. r >>= λ n. bytes_front len n.0 n.1 (b ++ rest)) number
    ∙ bytes_read len (length bytes) (length size) (b ++ rest) (omega (arith, count, length-append b rest))
    ∙ ap (λ x. Ok (len x, length size + length bytes)) taken ∙ ap (λ n. Ok (len bytes, n)) (sym count)

wire_type-lt : (v : Value) → wire_type v < 8
wire_type-lt (varint n) = omega arith
wire_type-lt (i64 bytes) = omega arith
wire_type-lt (len bytes) = omega arith
wire_type-lt (i32 bytes) = omega arith

pub is_number : (n : ℕ) → 1 ≤ n → n < 2 ^ 29 → (nat_le 1 n && nat_lt n (2 ^ 29)) ≡ true
is_number n least most = rw (le-leb 1 n least, lt-ltb n (2 ^ 29) most) refl

front_number : (f : Field) → field_key f / 8 ≡ f.number
front_number f = omega (arith, wire_type-lt f.value)

front_type : (f : Field) → field_key f % 8 ≡ wire_type f.value
front_type f = omega (arith, wire_type-lt f.value)

pub field-ok : (bytes : List ℕ) (f : Field) (k n : ℕ) → number_front bytes ≡ Ok (field_key f, k) → 1 ≤ f.number
    → f.number < 2 ^ 29 → value_front (wire_type f.value) (drop k bytes) ≡ Ok (f.value, n)
    → field_front bytes ≡ Ok (f, k + n)
unfolding field_front
field-ok bytes f k n number least most value =
    rw number (rw (front_number f, front_type f) (rw (is_number f.number least most) (rw value refl)))

pub field_reads : (f : Field) (b rest : List ℕ) → SpellsField f b → field_front (b ++ rest) ≡ Ok (f, length b)
field_reads f b rest h =
    let (key, value, keyed, valued, whole) = h.spelled in
    let parts : b ++ rest ≡ key ++ (value ++ rest) = ap (λ x. x ++ rest) whole ∙ append_assoc key value rest in
    let number : number_front (b ++ rest) ≡ Ok (field_key f, length key) = ap number_front parts
    ∙ number_reads (field_key f) key (value ++ rest) keyed in
    let behind : drop (length key) (b ++ rest) ≡ value ++ rest = ap (drop (length key)) parts
    ∙ drop_at key (value ++ rest) (length key) refl in
    let read : value_front (wire_type f.value) (drop (length key) (b ++ rest)) ≡ Ok (f.value, length value) =
    ap (value_front (wire_type f.value)) behind ∙ value_reads f.value value rest valued in
    field-ok (b ++ rest) f (length key) (length value) number h.least h.most read
    ∙ ap (λ n. Ok (f, n)) (sym (ap length whole ∙ length-append key value))

-- what a field that was found is
pub record IsFieldFront (f : Field) (size : ℕ) (bytes : List ℕ) : Type 0 where
  pub some : 0 < size
  pub within : size ≤ length bytes
  pub spelled : SpellsField f (take size bytes)

-- what a value that was found is
record IsValueFront (type : ℕ) (v : Value) (size : ℕ) (bytes : List ℕ) : Type 0 where
  typed : wire_type v ≡ type
  within : size ≤ length bytes
  spelled : SpellsValue v (take size bytes)

number_found : (bytes : List ℕ) (n size : ℕ) → number_front bytes ≡ Ok (n, size) → IsFront n size bytes
number_found bytes n size e =
    varint_found bytes n size (told_ok (λ fault. wire_faults.Varint) (varint_front bytes) (n, size) e)

bytes_found : (kind : List ℕ → Value) (count at : ℕ) (bytes : List ℕ) (v : Value) (size : ℕ)
    → bytes_front kind count at bytes ≡ Ok (v, size)
    → (at + count ≤ length bytes) × (kind (take count (drop at bytes)) ≡ v) × (at + count ≡ size)
bytes_found kind count at bytes v size e =
    let (u, tested, rest) = bind_ok _ _ _ e in
    let pair = ok_is _ _ rest in
    (leb-true (at + count) (length bytes) (require_ok _ _ u tested), ap (λ p. p.0) pair, ap (λ p. p.1) pair)

varint_value_found : (type : ℕ) (bytes : List ℕ) (v : Value) (size : ℕ) → 0 ≡ type → varint_value bytes ≡ Ok (v, size)
    → IsValueFront type v size bytes
varint_value_found type bytes v size typed e =
    let (n, number, rest) = bind_ok _ _ _ e in
    let pair = ok_is _ _ rest in
    let front = number_found bytes n.0 n.1 number in
    let value : varint n.0 ≡ v = ap (λ p. p.0) pair in
    let count : n.1 ≡ size = ap (λ p. p.1) pair in
    subst (λ w. IsValueFront type w size bytes) value
    (subst (λ k. IsValueFront type (varint n.0) k bytes) count
    (record { typed = typed; within = front.within; spelled = front.spelled }))

i64_value_found : (type : ℕ) (bytes : List ℕ) (v : Value) (size : ℕ) → 1 ≡ type
    → bytes_front i64 8 0 bytes ≡ Ok (v, size) → IsValueFront type v size bytes
i64_value_found type bytes v size typed e =
    let (fits, value, count) = bytes_found i64 8 0 bytes v size e in
    subst (λ w. IsValueFront type w size bytes) value
    (subst (λ k. IsValueFront type (i64 (take 8 bytes)) k bytes) count
    (record { typed = typed; within = fits; spelled = (length-take-le 8 bytes fits, refl) }))

i32_value_found : (type : ℕ) (bytes : List ℕ) (v : Value) (size : ℕ) → 5 ≡ type
    → bytes_front i32 4 0 bytes ≡ Ok (v, size) → IsValueFront type v size bytes
i32_value_found type bytes v size typed e =
    let (fits, value, count) = bytes_found i32 4 0 bytes v size e in
    subst (λ w. IsValueFront type w size bytes) value
    (subst (λ k. IsValueFront type (i32 (take 4 bytes)) k bytes) count
    (record { typed = typed; within = fits; spelled = (length-take-le 4 bytes fits, refl) }))

len_value_found : (type : ℕ) (bytes : List ℕ) (v : Value) (size : ℕ) → 2 ≡ type → len_value bytes ≡ Ok (v, size)
    → IsValueFront type v size bytes
len_value_found type bytes v size typed e =
    let (n, number, rest) = bind_ok _ _ _ e in
    let (fits, value, count) = bytes_found len n.0 n.1 bytes v size rest in
    let front = number_found bytes n.0 n.1 number in
    let held : length (take n.0 (drop n.1 bytes)) ≡ n.0 =
    length-take-le n.0 (drop n.1 bytes) (omega (arith, fits, length-drop n.1 bytes)) in
    let spelled : IsVarint (length (take n.0 (drop n.1 bytes))) (take n.1 bytes) =
    subst (λ k. IsVarint k (take n.1 bytes)) (sym held) front.spelled in
    subst (λ w. IsValueFront type w size bytes) value
    (subst (λ k. IsValueFront type (len (take n.0 (drop n.1 bytes))) k bytes) count
    (record { typed = typed; within = fits; spelled = (take n.1 bytes, spelled, take-add n.1 n.0 bytes) }))

value_found : (type : ℕ) (bytes : List ℕ) (v : Value) (size : ℕ) → value_front type bytes ≡ Ok (v, size)
    → IsValueFront type v size bytes
value_found type bytes v size e =
    elim (chosen (type == 0) _ _ _ e) [
      | inl is_zero ↦ varint_value_found type bytes v size (sym (eqb-true _ _ is_zero.0)) is_zero.1
      | inr not_zero ↦
          elim (chosen (type == 1) _ _ _ not_zero.1) [
            | inl is_one ↦ i64_value_found type bytes v size (sym (eqb-true _ _ is_one.0)) is_one.1
            | inr not_one ↦
                elim (chosen (type == 2) _ _ _ not_one.1) [
                  | inl is_two ↦ len_value_found type bytes v size (sym (eqb-true _ _ is_two.0)) is_two.1
                  | inr not_two ↦
                      elim (chosen (type == 5) _ _ _ not_two.1) [
                        | inl is_five ↦ i32_value_found type bytes v size (sym (eqb-true _ _ is_five.0)) is_five.1
                        | inr unknown ↦ absurd (err_is_no_ok _ _ unknown.1)
                      ]
                ]
          ]
    ]

positive_sum : (a b : ℕ) → 0 < a → 0 < a + b
positive_sum a b some = omega arith

pub field_found : (bytes : List ℕ) (f : Field) (size : ℕ) → field_front bytes ≡ Ok (f, size) → IsFieldFront f size bytes
unfolding field_front
field_found bytes f size e =
    let (key, number, behind_key) = bind_ok _ _ _ e in
    let (u, tested, behind_test) = bind_ok _ _ _ behind_key in
    let (value, valued, rest) = bind_ok _ _ _ behind_test in
    let pair = ok_is _ _ rest in
    let range = and_parts _ _ (require_ok _ _ u tested) in
    let front = number_found bytes key.0 key.1 number in
    let held = value_found (key.0 % 8) (drop key.1 bytes) value.0 value.1 valued in
    let left = length-drop key.1 bytes in
    let fits : key.1 + value.1 ≤ length bytes = omega (arith, front.within, held.within, left) in
    let whole : 8 * (key.0 / 8) + wire_type value.0 ≡ key.0 = omega (arith, held.typed) in
    let keyed : IsVarint (8 * (key.0 / 8) + wire_type value.0) (take key.1 bytes) =
    subst (λ k. IsVarint k (take key.1 bytes)) (sym whole) front.spelled in
    let found : IsFieldFront (record { number = key.0 / 8; value = value.0 }) (key.1 + value.1) bytes = record {
      some = positive_sum key.1 value.1 front.some;
      within = fits;
      spelled = record {
        least = leb-true _ _ range.0;
        most = ltb-true _ _ range.1;
        spelled =
            (take key.1 bytes, take value.1 (drop key.1 bytes), keyed, held.spelled, take-add key.1 value.1 bytes);
      };
    } in
    subst (λ g. IsFieldFront g size bytes) (ap (λ p. p.0) pair)
    (subst (λ k. IsFieldFront (record { number = key.0 / 8; value = value.0 }) k bytes) (ap (λ p. p.1) pair) found)
