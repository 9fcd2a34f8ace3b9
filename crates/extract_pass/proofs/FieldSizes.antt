-- Messages have at least as many bytes as the bytes in their fields.
use Rattle.std.proofs.Common.{◌≡◌, ◌+◌, ◌≤◌, ℕ, suc, List, [], ◌∷◌, ◌++◌, Bool, true, false, Option, Some, None, refl}
use Rattle.std.proofs.Common.{arith, length, length-append, ap}
use Rattle.std.specs.Prelude.{filter_map, unwrap_or, slice_get, nat_lt, ◌==◌, if◌then◌else◌}
use Rattle.std.proofs.lemmas.List.{length-map}
use Rattle.mf_base.specs.Spelling.{sevens}
use Rattle.mf_base.specs.Packed.{runs, before_first}
use Rattle.osm_model.specs.Wire.{Value, varint, i64, len, i32, Field, SpellsValue, SpellsField, IsMessage, fields}
use Rattle.osm_model.specs.Tables.{counted_bytes, values_of, bytes_of, once_of, packed_of}
use Rattle.osm_model.proofs.MessageLaws.{fields_read}

-- the sum of the sizes of all items
abbrev pub total : {A : Type 0} → (A → ℕ) → List A → ℕ
total f [] = 0
total f (x ∷ xs) = f x + total f xs

pub total-append : {A : Type 0} (f : A → ℕ) (xs ys : List A) → total f (xs ++ ys) ≡ total f xs + total f ys
total-append f [] ys = omega arith
total-append f (x ∷ xs) ys = let more = total-append f xs ys in omega (arith, more)

-- what a field with counted bytes takes at least: its key, the length, and the bytes
abbrev pub bytes_size : List ℕ → ℕ
bytes_size bytes = 2 + length bytes

abbrev value_size : Value → ℕ
value_size value = bytes_size (unwrap_or (counted_bytes value) [])

abbrev pub field_size : Field → ℕ
field_size f = value_size f.value

value_spelled : (value : Value) (b : List ℕ) → SpellsValue value b → value_size value ≤ suc (length b)
value_spelled (varint n) b is = omega (arith, is.run)
value_spelled (i64 bytes) b is = let same = is.1 in omega (arith, is.0, ap length same)
value_spelled (len bytes) b (size, is, same) =
    omega (arith, is.run, length-append size bytes, ap length same)
value_spelled (i32 bytes) b is = omega (arith, is.0, ap length is.1)

field_spelled : (f : Field) (b : List ℕ) → SpellsField f b → field_size f ≤ length b
field_spelled f b s =
    let (key, rest, is, value, same) = s.spelled in
    let short = value_spelled f.value rest value in
    omega (arith, is.run, short, length-append key rest, ap length same)

message_spelled : (fs : List Field) (b : List ℕ) → IsMessage b fs → total field_size fs ≤ length b
message_spelled [] b is = omega arith
message_spelled (f ∷ fs) b (front, rest, first, others, same) =
    let one = field_spelled f front first in
    let more = message_spelled fs rest others in
    omega (arith, one, more, length-append front rest, ap length same)

pub fields-size : (bytes : List ℕ) → total field_size (fields bytes).items ≤ length bytes
fields-size bytes =
    let read = fields_read bytes in
    let most = message_spelled (fields bytes).items read.front read.spelled in
    omega (arith, most, length-append read.front read.rest, ap length read.whole)

-- ---- what is picked of fields

abbrev size_of : {B : Type 0} → (B → ℕ) → Option B → ℕ
size_of n None = 0
size_of n (Some b) = n b

pub picked-size : {A B : Type 0} (h : A → Option B) (m : A → ℕ) (n : B → ℕ) → ((a : A) → size_of n (h a) ≤ m a)
    → (xs : List A) → total n (filter_map h xs) ≤ total m xs
picked-size h m n each [] = omega arith
picked-size {A} {B} h m n each (x ∷ xs) = go (h x) refl (each x) (picked-size h m n each xs)
  where
    go : (o : Option B) → h x ≡ o → size_of n (h x) ≤ m x → total n (filter_map h xs) ≤ total m xs
        → total n (filter_map h (x ∷ xs)) ≤ total m (x ∷ xs)
    go None is one more = rw is (omega (arith, more))
    go (Some b) is one more = let first = rw is at one in rw is (omega (arith, first, more))

of_number : (k : ℕ) (f : Field) (c : Bool) → size_of value_size (if c then Some f.value else None) ≤ field_size f
of_number k f true = omega arith
of_number k f false = omega arith

of_value : (value : Value) → size_of bytes_size (counted_bytes value) ≤ value_size value
of_value (varint n) = omega arith
of_value (i64 bytes) = omega arith
of_value (len bytes) = omega arith
of_value (i32 bytes) = omega arith

pub bytes-of-size : (k : ℕ) (fs : List Field) → total bytes_size (bytes_of k fs) ≤ total field_size fs
bytes-of-size k fs =
    let values = picked-size (λ (f : Field). if f.number == k then Some f.value else None) field_size value_size
    (λ f. of_number k f (f.number == k)) fs in
    let bytes = picked-size counted_bytes value_size bytes_size of_value (values_of k fs) in
    omega (arith, values, bytes)

first_size : (xs : List (List ℕ)) → length (unwrap_or (slice_get xs 0) []) ≤ total bytes_size xs
first_size [] = omega arith
first_size (x ∷ xs) = omega arith

-- ---- packed lists

first_run : (b : ℕ) (rs : List (List ℕ)) → length (before_first b rs) ≤ suc (length rs)
first_run b [] = omega arith
first_run b (r ∷ rs) = omega arith

runs_size : (bytes : List ℕ) → length (runs bytes) ≤ length bytes
unfolding runs
runs_size [] = omega arith
runs_size (b ∷ rest) = go (nat_lt b 128) (runs_size rest)
  where
    go : (c : Bool) → length (runs rest) ≤ length rest
        → length {A = List ℕ} (elim c [ true ↦ (b ∷ []) ∷ runs rest | false ↦ before_first b (runs rest) ]) ≤ suc (length rest)
    go true more = omega (arith, more)
    go false more = omega (arith, more, first_run b (runs rest))

pub packed-size : (k : ℕ) (fs : List Field) → length (packed_of k fs) ≤ total field_size fs
packed-size k fs =
    let bytes = unwrap_or (once_of k fs) [] in
    omega (arith, length-map (runs bytes) sevens, runs_size bytes, first_size (bytes_of k fs), bytes-of-size k fs)
