-- Fields at their places in bytes, and the laws that hold of all kinds of rows.
use Rattle.std.specs.Prelude.{◌≡◌, ℕ, zero, suc, ◌+◌, ◌<◌, ◌≤◌, ℤ, pos, List, [], ◌∷◌, ◌++◌, length, take, drop}
use Rattle.std.specs.Prelude.{replicate, slice_index, map}
use Rattle.std.specs.Int.{w32, cast_unsigned, cast_signed}
use Rattle.std.specs.declared.cmp.Ordering.{Ordering}
use Rattle.std.specs.Ordering.{nat_cmp, ordering_then}
use Rattle.std.specs.Cmp.Lexicographic.{slice_cmp}
use Rattle.std.proofs.Common.{zero-add, suc-add, refl, sym, ap, ◌∙◌, arith, append_assoc}
use Rattle.std.proofs.lemmas.List.{length-take, length-replicate, length-append, length-drop, take_at, drop_at}
use Rattle.std.proofs.lemmas.List.{take_all, drop-drop, get_or-drop}
use Rattle.std.proofs.lemmas.Int.{of_z-to_z, to_z-of_z}
use Rattle.std.proofs.Math.Facts.{Fits-of_z}
use Rattle.byteorder.specs.Endian.{big_bytes, big_number}
use Rattle.byteorder.specs.Numbers.{big_number-reads_back, length-bytes_high_first, big_from-lt}
use Rattle.mf_base.specs.Spelling.{big_endian}
use Rattle.mf_base.specs.Ascending.{byte_order}
use Rattle.mf_rows.specs.Fields.{IsRow, Field, number, coordinate, unit, field_bytes, IsField, AreFields, Row}
use Rattle.mf_rows.specs.Fields.{fields_bytes, row_bytes, key_numbers, key_order_of}
use Rattle.mf_rows.specs.NumberOrder.{big_bytes-big_number, big_bytes-order, big_bytes-small, slice_cmp-append}
use Rattle.mf_rows.specs.Places.{number_at, coordinate_at, unit_at}

-- what a field is, without its value
pub data Form : Type 0 where
  numbers : ℕ → Form
  coordinates : Form
  units : Form

abbrev pub form_width : Form → ℕ
form_width (numbers width) = width
form_width coordinates = 4
form_width units = 16

abbrev pub forms_width : List Form → ℕ
forms_width [] = 0
forms_width (f ∷ fs) = form_width f + forms_width fs

abbrev pub form_of : Field → Form
form_of (number width value) = numbers width
form_of (coordinate z) = coordinates
form_of (unit bytes) = units

-- the field of this form at a place
abbrev pub field_at : ℕ → Form → List ℕ → Field
field_at at (numbers width) bytes = number width (number_at at width bytes)
field_at at coordinates bytes = coordinate (coordinate_at at bytes)
field_at at units bytes = unit (unit_at at bytes)

-- the fields of these forms from a place on
abbrev pub fields_at : ℕ → List Form → List ℕ → List Field
fields_at at [] bytes = []
fields_at at (f ∷ fs) bytes = field_at at f bytes ∷ fields_at (at + form_width f) fs bytes

-- the value of a field
abbrev pub number_in : ℕ → List Field → ℕ
number_in zero (number width value ∷ fs) = value
number_in (suc i) (f ∷ fs) = number_in i fs
number_in _ _ = 0

abbrev pub coordinate_in : ℕ → List Field → ℤ
coordinate_in zero (coordinate z ∷ fs) = z
coordinate_in (suc i) (f ∷ fs) = coordinate_in i fs
coordinate_in _ _ = pos 0

abbrev pub unit_in : ℕ → List Field → List ℕ
unit_in zero (unit bytes ∷ fs) = bytes
unit_in (suc i) (f ∷ fs) = unit_in i fs
unit_in _ _ = []

-- numbers of the same widths
abbrev pub AreKeys : List Field → List Field → Type 0
AreKeys [] [] = Unit {0}
AreKeys (number v a ∷ fs) (number w b ∷ gs) = (v ≡ w) × AreKeys fs gs
AreKeys _ _ = ⊥

-- ---- a field

length-field : (f : Field) → length (field_bytes f) ≡ form_width (form_of f)
unfolding big_endian
length-field (number width value) = length-bytes_high_first width value
length-field (coordinate z) = length-bytes_high_first 4 (cast_unsigned w32 z)
length-field (unit bytes) =
    omega (
      arith,
      length-take 16 (bytes ++ replicate 16 0),
      length-append bytes (replicate 16 0),
      length-replicate {A = ℕ} 16 0,
    )

-- a unit is its sixteen bytes
whole-unit : (bytes : List ℕ) → length bytes ≡ 16 → take 16 (bytes ++ replicate 16 0) ≡ bytes
whole-unit bytes long = take_at bytes (replicate 16 0) 16 long

small-field : (f : Field) → IsField f → (i : ℕ) → slice_index (field_bytes f) i < 256
unfolding big_endian
small-field (number width value) is = big_bytes-small width value
small-field (coordinate z) is = big_bytes-small 4 (cast_unsigned w32 z)
small-field (unit bytes) is = λ i. rw (whole-unit bytes is.many) (is.small i)

-- a field is read where it stands in front
field-front : (f : Field) (rest : List ℕ) → IsField f → field_at 0 (form_of f) (field_bytes f ++ rest) ≡ f
unfolding big_endian
field-front (number width value) rest is = ap (number width) (big_number-reads_back width value rest is)
field-front (coordinate z) rest is =
    let n = cast_unsigned w32 z in
    let same : big_number 4 (big_bytes 4 n ++ rest) ≡ n =
    big_number-reads_back 4 n rest (omega (arith, Fits-of_z {w = w32} {z = z} is)) in
    ap (λ k. coordinate (cast_signed w32 k)) same ∙ ap coordinate (to_z-of_z w32 z is)
field-front (unit bytes) rest is =
    ap unit (ap (λ b. take 16 (b ++ rest)) (whole-unit bytes is.many) ∙ take_at bytes rest 16 is.many)

field-moved : (f : Form) (at : ℕ) (bytes : List ℕ) → field_at at f bytes ≡ field_at 0 f (drop at bytes)
field-moved (numbers width) at bytes = refl
field-moved coordinates at bytes = refl
field-moved units at bytes = refl

fields-moved : (fs : List Form) (at more : ℕ) (bytes : List ℕ)
    → fields_at (at + more) fs bytes ≡ fields_at more fs (drop at bytes)
fields-moved [] at more bytes = refl
fields-moved (f ∷ fs) at more bytes =
    let place : drop (at + more) bytes ≡ drop more (drop at bytes) = sym (drop-drop more at bytes) in
    let one : field_at (at + more) f bytes ≡ field_at more f (drop at bytes) = field-moved f (at + more) bytes
    ∙ ap (field_at 0 f) place ∙ sym (field-moved f more (drop at bytes)) in
    let next : fields_at (at + more + form_width f) fs bytes ≡ fields_at (more + form_width f) fs (drop at bytes) =
    ap (λ n. fields_at n fs bytes) (omega arith) ∙ fields-moved fs at (more + form_width f) bytes in
    rw (one, next) refl

-- ---- the laws

-- the fields of a row are read of its bytes
pub fields-read_back : (fields : List Field) → AreFields fields
    → fields_at 0 (map form_of fields) (fields_bytes fields) ≡ fields
fields-read_back [] are = refl
fields-read_back (f ∷ fs) are =
    let w = form_width (form_of f) in
    let first = field-front f (fields_bytes fs) are.0 in
    let rest : drop w (field_bytes f ++ fields_bytes fs) ≡ fields_bytes fs =
    drop_at (field_bytes f) (fields_bytes fs) w (length-field f) in
    let moved : fields_at (0 + w) (map form_of fs) (field_bytes f ++ fields_bytes fs)
    ≡ fields_at 0 (map form_of fs) (fields_bytes fs) =
    ap (λ n. fields_at n (map form_of fs) (field_bytes f ++ fields_bytes fs)) (omega arith)
    ∙ fields-moved (map form_of fs) w 0 (field_bytes f ++ fields_bytes fs)
    ∙ ap (fields_at 0 (map form_of fs)) rest in
    rw (first, moved, fields-read_back fs are.1) refl

small-drop : (at : ℕ) (bytes : List ℕ) → ((i : ℕ) → slice_index bytes i < 256) → (i : ℕ)
    → slice_index (drop at bytes) i < 256
small-drop at bytes small i = rw (get_or-drop at bytes i 0) (small (at + i))

field-spelled : (f : Form) (bytes : List ℕ) → ((i : ℕ) → slice_index bytes i < 256) → form_width f ≤ length bytes
    → field_bytes (field_at 0 f bytes) ≡ take (form_width f) bytes
unfolding big_endian
field-spelled (numbers width) bytes small long = big_bytes-big_number width bytes small long
field-spelled coordinates bytes small long =
    let fits = big_from-lt 0 4 bytes small in
    ap (big_bytes 4) (of_z-to_z w32 (big_number 4 bytes) fits) ∙ big_bytes-big_number 4 bytes small long
field-spelled units bytes small long = whole-unit (take 16 bytes) (omega (arith, length-take 16 bytes, long))

-- bytes are spelled by the fields that are read of them
pub fields-spelled : (fs : List Form) (bytes : List ℕ) → IsRow (forms_width fs) bytes
    → fields_bytes (fields_at 0 fs bytes) ≡ bytes
fields-spelled fs bytes is = by_forms fs bytes is.small (omega (arith, is.many))
    ∙ take_all (forms_width fs) bytes (omega (arith, is.many))
  where
    by_forms : (fs : List Form) (bytes : List ℕ) → ((i : ℕ) → slice_index bytes i < 256)
        → forms_width fs ≤ length bytes → fields_bytes (fields_at 0 fs bytes) ≡ take (forms_width fs) bytes
    by_forms [] bytes small long = refl
    by_forms (f ∷ fs) bytes small long =
        let w = form_width f in
        let first = field-spelled f bytes small (omega (arith, long)) in
        let moved : fields_at (0 + w) fs bytes ≡ fields_at 0 fs (drop w bytes) =
        ap (λ n. fields_at n fs bytes) (omega arith) ∙ fields-moved fs w 0 bytes in
        let later = by_forms fs (drop w bytes) (small-drop w bytes small) (omega (arith, length-drop w bytes, long)) in
        rw (first, moved, later) (sym (take-add w (forms_width fs) bytes))
      where
        take-add : (a b : ℕ) (bytes : List ℕ) → take (a + b) bytes ≡ take a bytes ++ take b (drop a bytes)
        take-add zero b bytes = ap (λ n. take n bytes) (zero-add b)
        take-add (suc a) b [] = ap (λ n. take n []) (suc-add a b) ∙ sym (take_all b [] (omega arith))
        take-add (suc a) b (x ∷ bytes) = ap (λ n. take n (x ∷ bytes)) (suc-add a b)
            ∙ ap (λ more. x ∷ more) (take-add a b bytes)

-- so many bytes
pub length-fields : (fields : List Field) → length (fields_bytes fields) ≡ forms_width (map form_of fields)
length-fields [] = refl
length-fields (f ∷ fs) = length-append (field_bytes f) (fields_bytes fs)
    ∙ omega (arith, length-field f, length-fields fs)

-- each of them is one
pub fields-small : (fields : List Field) → AreFields fields
    → IsRow (forms_width (map form_of fields)) (fields_bytes fields)
fields-small fields are = record { many = length-fields fields; small = all-small fields are }
  where
    small-append : (xs ys : List ℕ) → ((i : ℕ) → slice_index xs i < 256) → ((i : ℕ) → slice_index ys i < 256)
        → (i : ℕ) → slice_index (xs ++ ys) i < 256
    small-append [] ys front back i = back i
    small-append (x ∷ xs) ys front back zero = front 0
    small-append (x ∷ xs) ys front back (suc i) = small-append xs ys (λ k. front (suc k)) back i

    all-small : (fields : List Field) → AreFields fields → (i : ℕ) → slice_index (fields_bytes fields) i < 256
    all-small [] are = λ i. omega arith
    all-small (f ∷ fs) are = small-append (field_bytes f) (fields_bytes fs) (small-field f are.0) (all-small fs are.1)

-- the key stands in front
front-key : (key rest : List Field)
    → take (forms_width (map form_of key)) (fields_bytes (key ++ rest)) ≡ fields_bytes key
front-key key rest = ap (take (forms_width (map form_of key))) (both key rest)
    ∙ take_at (fields_bytes key) (fields_bytes rest) (forms_width (map form_of key)) (length-fields key)
  where
    both : (key rest : List Field) → fields_bytes (key ++ rest) ≡ fields_bytes key ++ fields_bytes rest
    both [] rest = refl
    both (f ∷ fs) rest = ap (λ more. field_bytes f ++ more) (both fs rest)
        ∙ sym (append_assoc (field_bytes f) (fields_bytes fs) (fields_bytes rest))

-- the order of keys is that of their bytes
keys-order : (a b : List Field) → AreFields a → AreFields b → AreKeys a b
    → byte_order (fields_bytes a) (fields_bytes b) ≡ slice_cmp nat_cmp (key_numbers a) (key_numbers b)
unfolding big_endian
keys-order [] [] fa fb alike = refl
keys-order [] (g ∷ gs) fa fb alike = absurd alike
keys-order (number v m ∷ fs) [] fa fb alike = absurd alike
keys-order (coordinate z ∷ fs) gs fa fb alike = absurd alike
keys-order (unit bytes ∷ fs) gs fa fb alike = absurd alike
keys-order (number v m ∷ fs) (coordinate z ∷ gs) fa fb alike = absurd alike
keys-order (number v m ∷ fs) (unit bytes ∷ gs) fa fb alike = absurd alike
keys-order (number v m ∷ fs) (number w n ∷ gs) fa fb alike =
    let same_length : length (big_bytes v m) ≡ length (big_bytes w n) = length-bytes_high_first v m ∙ alike.0
    ∙ sym (length-bytes_high_first w n) in
    let one : slice_cmp nat_cmp (big_bytes v m) (big_bytes w n) ≡ nat_cmp m n =
    rw alike.0 (big_bytes-order w m n (rw (← alike.0) fa.0) fb.0) in
    slice_cmp-append (big_bytes v m) (big_bytes w n) (fields_bytes fs) (fields_bytes gs) same_length
    ∙ ap (λ (o : Ordering). ordering_then o (byte_order (fields_bytes fs) (fields_bytes gs))) one
    ∙ ap (λ (o : Ordering). ordering_then (nat_cmp m n) o) (keys-order fs gs fa.1 fb.1 alike.1)

pub rows-order : (a b : Row) (width : ℕ) → forms_width (map form_of a.key) ≡ width
    → forms_width (map form_of b.key) ≡ width → AreFields a.key → AreFields b.key → AreKeys a.key b.key
    → byte_order (take width (row_bytes a)) (take width (row_bytes b)) ≡ key_order_of a b
unfolding row_bytes
rows-order a b width wa wb fa fb alike =
    let first : take width (fields_bytes (a.key ++ a.rest)) ≡ fields_bytes a.key =
    ap (λ n. take n (fields_bytes (a.key ++ a.rest))) (sym wa) ∙ front-key a.key a.rest in
    let second : take width (fields_bytes (b.key ++ b.rest)) ≡ fields_bytes b.key =
    ap (λ n. take n (fields_bytes (b.key ++ b.rest))) (sym wb) ∙ front-key b.key b.rest in
    rw (first, second) (keys-order a.key b.key fa fb alike)
