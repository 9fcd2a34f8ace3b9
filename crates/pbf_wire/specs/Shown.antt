-- What the reader of fields answers, in the words of the definitions.
use Rattle.std.specs.Prelude.{◌≡◌, ◌⊎◌, ℕ, ◌<◌, List, length, drop, Option, Some, None, Result, Ok, Err}
use Rattle.osm_model.specs.Reading.{Reading, all_read, stops_at, then_reads}
use Rattle.osm_model.specs.Wire as wire
use Rattle.osm_model.specs.Wire.{field_front, fields, varint, i64, len, i32}
use Rattle.osm_model.specs.declared.faults.WireFault.{WireFault}
use Rattle.pbf_wire.specs.declared.fields.Value.{Value}
use Rattle.pbf_wire.specs.declared.fields.Value.TheVariants.{Number, Bytes, Fixed}
use Rattle.pbf_wire.specs.declared.fields.Field.{Field}

-- The reader's value shows the value of a field: a varint's number, the bytes behind a length, and of eight or four
-- bytes only that they are there.
abbrev pub ShowsValue : Value → wire.Value → Type 0
ShowsValue (Number n) value = value ≡ varint n
ShowsValue (Bytes bytes) value = value ≡ len bytes.now
ShowsValue Fixed value = (bytes : List ℕ) × ((value ≡ i64 bytes) ⊎ (value ≡ i32 bytes))

-- The reader's field shows a field.
abbrev pub ShowsField : Field → wire.Field → Type 0
ShowsField shown field = (shown.number ≡ field.number) × ShowsValue shown.value field.value

-- What was read shows what the bytes begin with, and takes as many of them; or it tells the first fault.
abbrev pub Gives : {A B : Type 0} → (A → B → Type 0) → Result (A × ℕ) WireFault → Result (B × ℕ) WireFault → Type 0
Gives {B} Shows (Ok found) front = (x : B) × Shows found.0 x × (front ≡ Ok (x, found.1))
Gives Shows (Err fault) front = front ≡ Err fault

-- The bytes left begin with a field, of which the reader shows so much, and behind it stand these.
pub record BeginsWith (left : List ℕ) (shown : Field) (rest : List ℕ) : Type 0 where
  pub field : wire.Field
  pub size : ℕ
  pub front : field_front left ≡ Ok (field, size)
  pub shows : ShowsField shown field
  pub behind : rest ≡ drop size left
  pub shorter : length rest < length left

-- Of the fields to be read, the reader gives the first and leaves the others, or it tells that none is there, or the
-- fault that stands there.
abbrev pub GivesNext : Reading wire.Field WireFault → Result (Option Field) WireFault → Reading wire.Field WireFault
    → Type 0
GivesNext read (Ok (Some shown)) rest = (field : wire.Field) × ShowsField shown field × (read ≡ then_reads field rest)
GivesNext read (Ok None) rest = (read ≡ all_read) × (rest ≡ read)
GivesNext read (Err fault) rest = (read ≡ stops_at fault) × (rest ≡ read)
