-- Varints, fields and messages: Protocol Buffers, "Encoding", on base 128 varints, message structure and packed fields.
-- That
-- groups (wire types 3 and 4) are refused, and the order in which faults are looked for, is this project's profile.
use Rattle.std.specs.Prelude.{◌≡◌, ℕ, zero, suc, ◌+◌, ◌-◌, ◌*◌, ◌/◌, ◌%◌, ◌<◌, ◌≤◌, ◌&&◌, ◌==◌, nat_lt, nat_le}
use Rattle.std.specs.Prelude.{if◌then◌else◌, List, [], ◌∷◌, ◌++◌, length, take, drop, Option, Some, None, ◌≢◌, Result}
use Rattle.std.specs.Prelude.{Ok, Err, ℤ}
use Rattle.std.specs.Int.{w64, cast_signed}
use Rattle.mf_base.specs.Spelling.{IsVarint}
use Rattle.mf_base.specs.Steps.{◌>>=◌, require, told_as}
use Rattle.mf_base.specs.NumberReading.{varint_front}
use Rattle.osm_model.specs.declared.limits.TheConstants.{FIELD_NUMBER_LIMIT}
use Rattle.osm_model.specs.declared.faults.WireFault.{WireFault}
use Rattle.osm_model.specs.declared.faults.WireFault.TheVariants.{Varint, Length, Kind}
use Rattle.osm_model.specs.Reading.{Reading, AreSpelled, all_read, stops_at, then_reads}

-- The value of a field, under the name of its wire type: VARINT 0, I64 1, LEN 2, I32 5.
pub data Value : Type 0 where
  varint : ℕ → Value
  i64 : List ℕ → Value
  len : List ℕ → Value
  i32 : List ℕ → Value

-- A field: its number, and its value.
pub record Field : Type 0 where
  pub number : ℕ
  pub value : Value

-- the number of a wire type
abbrev pub wire_type : Value → ℕ
wire_type (varint n) = 0
wire_type (i64 bytes) = 1
wire_type (len bytes) = 2
wire_type (i32 bytes) = 5

-- the key before a field's value: 8 times the field's number, and the wire type
abbrev pub field_key : Field → ℕ
field_key f = 8 * f.number + wire_type f.value

-- The bytes spell the value: a varint, eight or four bytes, or the varint of a length and so many bytes.
abbrev pub SpellsValue : Value → List ℕ → Type 0
SpellsValue (varint n) b = IsVarint n b
SpellsValue (i64 bytes) b = (length bytes ≡ 8) × (b ≡ bytes)
SpellsValue (len bytes) b = (size : List ℕ) × IsVarint (length bytes) size × (b ≡ size ++ bytes)
SpellsValue (i32 bytes) b = (length bytes ≡ 4) × (b ≡ bytes)

-- The bytes spell the field: its key, then its value. A field's number is in 1 to 2^29 - 1.
pub record SpellsField (f : Field) (b : List ℕ) : Type 0 where
  pub least : 1 ≤ f.number
  pub most : f.number < FIELD_NUMBER_LIMIT
  pub spelled : (key : List ℕ) × (rest : List ℕ) × IsVarint (field_key f) key × SpellsValue f.value rest
      × (b ≡ key ++ rest)

-- A message is the spellings of its fields, one after another.
abbrev pub IsMessage : List ℕ → List Field → Type 0
IsMessage b fs = AreSpelled SpellsField b fs

-- A packed list is the spellings of its numbers, one after another.
abbrev pub IsPacked : List ℕ → List ℕ → Type 0
IsPacked b ns = AreSpelled IsVarint b ns

-- the varint that the bytes begin with, and how many bytes it takes
abbrev pub number_front : List ℕ → Result (ℕ × ℕ) WireFault
number_front bytes = told_as (λ fault. Varint) (varint_front bytes)

-- a value of so many bytes from a place on, and where it ends
abbrev pub bytes_front : (List ℕ → Value) → ℕ → ℕ → List ℕ → Result (Value × ℕ) WireFault
bytes_front tell count at bytes = do
  _ ← require (nat_le (at + count) (length bytes)) Length
  Ok (tell (take count (drop at bytes)), at + count)

-- a VARINT value, and how many bytes it takes
abbrev pub varint_value : List ℕ → Result (Value × ℕ) WireFault
varint_value bytes = do
  n ← number_front bytes
  Ok (varint n.0, n.1)

-- a LEN value, behind the varint of its length, and how many bytes it takes
abbrev pub len_value : List ℕ → Result (Value × ℕ) WireFault
len_value bytes = do
  size ← number_front bytes
  bytes_front len size.0 size.1 bytes

-- the value of this wire type that the bytes begin with, and how many bytes it takes
abbrev pub value_front : ℕ → List ℕ → Result (Value × ℕ) WireFault
value_front type bytes =
    if type == 0 then varint_value bytes
    else (if type == 1 then bytes_front i64 8 0 bytes
    else (if type == 2 then len_value bytes
    else (if type == 5 then bytes_front i32 4 0 bytes
    else Err Kind)))

-- the field that the bytes begin with, and how many bytes it takes, or the first fault in it
unfoldable pub field_front : List ℕ → Result (Field × ℕ) WireFault
field_front bytes = do
  key ← number_front bytes
  _ ← require (nat_le 1 (key.0 / 8) && nat_lt (key.0 / 8) FIELD_NUMBER_LIMIT) Kind
  value ← value_front (key.0 % 8) (drop key.1 bytes)
  Ok (record { number = key.0 / 8; value = value.0 }, key.1 + value.1)

-- the fields behind so many bytes, up to the first fault in one
unfoldable pub fields_behind : ℕ → List ℕ → Reading Field WireFault
fields_behind skip [] = all_read
fields_behind (suc skip) (b ∷ rest) = fields_behind skip rest
fields_behind zero (b ∷ rest) =
    elim (field_front (b ∷ rest)) [
      | Ok found ↦ then_reads found.0 (fields_behind (found.1 - 1) rest)
      | Err fault ↦ stops_at fault
    ]

-- the fields that the bytes begin with, up to the first fault in one
abbrev pub fields : List ℕ → Reading Field WireFault
fields bytes = fields_behind 0 bytes

-- Nothing is left, or bytes that begin with no field.
abbrev pub FieldsEnd : List ℕ → Option WireFault → Type 0
FieldsEnd rest None = rest ≡ []
FieldsEnd rest (Some fault) = (rest ≢ []) × (field_front rest ≡ Err fault)

-- What is read of the bytes is a message in front, and the fault of what is left.
pub record ReadsFields (bytes : List ℕ) (read : Reading Field WireFault) : Type 0 where
  pub front : List ℕ
  pub rest : List ℕ
  pub whole : bytes ≡ front ++ rest
  pub spelled : IsMessage front read.items
  pub ended : FieldsEnd rest read.fault

-- the number that an int64 spells: two's complement of 64 bits
abbrev pub int64 : ℕ → ℤ
int64 n = cast_signed w64 n
