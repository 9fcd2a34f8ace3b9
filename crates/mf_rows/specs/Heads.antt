-- The ten units of a head. What their bytes are is this project's own.
use Rattle.std.specs.Prelude.{ℕ, zero, suc, ◌+◌, ◌*◌, ◌%◌, ◌/◌, ℤ, pos, Bool, true, false, List, [], ◌∷◌, ◌++◌, length}
use Rattle.std.specs.Prelude.{take, slice_get, nat_eq, bytes_eq, flat_map, if◌then◌else◌, Option, Some, None}
use Rattle.std.specs.Int.{w8, w16, w32, cast_signed, cast_unsigned}
use Rattle.mf_base.specs.declared.kept.Kept.{Kept}
use Rattle.mf_base.specs.declared.kept.KeptValue.{KeptValue}
use Rattle.mf_base.specs.declared.kept.KeptValue.TheVariants.{Plain, Byte, Short, Int, Text}
use Rattle.mf_base.specs.declared.kind.EntityKind.{EntityKind}
use Rattle.mf_rows.specs.Fields.{Field, number, coordinate, fields_bytes}
use Rattle.mf_rows.specs.Places.{number_at, coordinate_at}
use Rattle.mf_rows.specs.Units.{Unit16}
use Rattle.mf_rows.specs.declared.head.Head.{Head}
use Rattle.mf_rows.specs.declared.head_units.TextLengths.{TextLengths}

-- ---- kept tags

-- the number of a kind of values
abbrev pub value_kind : KeptValue → ℕ
value_kind Plain = 0
value_kind (Byte z) = 1
value_kind (Short z) = 2
value_kind (Int z) = 3
value_kind (Text len) = 4

-- the number of a value, in two's complement, or the length of a text
abbrev pub value_number : KeptValue → ℕ
value_number Plain = 0
value_number (Byte z) = cast_unsigned w8 z
value_number (Short z) = cast_unsigned w16 z
value_number (Int z) = cast_unsigned w32 z
value_number (Text len) = len

-- the fields of a kept tag, in eight bytes, and eight zeros where there is none
abbrev pub kept_fields : Option Kept → List Field
kept_fields None = number 2 0 ∷ number 1 0 ∷ number 1 0 ∷ number 4 0 ∷ []
kept_fields (Some k) =
    number 2 k.tag ∷ number 1 (value_kind k.value) ∷ number 1 0 ∷ number 4 (value_number k.value) ∷ []

-- a value by these two numbers
abbrev pub value_told : (kind value : ℕ) → KeptValue
value_told kind value =
    if nat_eq kind 1 then Byte (cast_signed w8 (value % 256))
    else if nat_eq kind 2 then Short (cast_signed w16 (value % 65536))
    else if nat_eq kind 3 then Int (cast_signed w32 value)
    else if nat_eq kind 4 then Text (value % 65536)
    else Plain

-- the kept tag at a place of a unit
abbrev pub kept_at : ℕ → Unit16 → Kept
kept_at at unit =
    record { tag = number_at at 2 unit; value = value_told (number_at (at + 2) 1 unit) (number_at (at + 4) 4 unit) }

-- ---- heads

-- a truth value as a bit
abbrev pub bit : Bool → ℕ → ℕ
bit false n = 0
bit true n = n

-- the number of a kind
abbrev pub kind_number : EntityKind → ℕ
kind_number EntityKind.Node = 0
kind_number EntityKind.Way = 1
kind_number EntityKind.Relation = 2

-- the bit of a height that is there
abbrev pub height_bit : Option ℤ → ℕ
height_bit None = 0
height_bit (Some z) = 8

-- a height, and 0 where there is none
abbrev pub height_number : Option ℤ → ℤ
height_number None = pos 0
height_number (Some z) = z

-- water, label, coast and height, a bit each
abbrev pub marks : Head → ℕ
marks h = bit h.water 1 + bit h.label 2 + bit h.coast 4 + height_bit h.height

-- the first unit: the id and the number
abbrev pub id_unit : Head → Unit16
id_unit h = fields_bytes (number 8 h.id ∷ number 8 h.number ∷ [])

-- the second: weight, kind, zoom, layer, marks and height
abbrev pub marks_unit : Head → Unit16
marks_unit h = fields_bytes (number 8 h.weight ∷ number 1 (kind_number h.kind) ∷ number 1 h.zoom
    ∷ number 1 (cast_unsigned w8 h.layer) ∷ number 1 (marks h) ∷ coordinate (height_number h.height) ∷ [])

-- the third: the lengths of the three texts with names of their own, the number of kept tags, and the first of these
abbrev pub lengths_unit : Head → TextLengths → Unit16
lengths_unit h texts = fields_bytes ((number 2 texts.name ∷ number 2 texts.house ∷ number 2 texts.reference
    ∷ number 1 (length h.tags.items) ∷ number 1 0 ∷ []) ++ kept_fields (slice_get h.tags.items 0))

-- each of the others: two kept tags
abbrev pub kept_unit : List Kept → ℕ → Unit16
kept_unit tags i = fields_bytes (kept_fields (slice_get tags i)) ++ fields_bytes (kept_fields (slice_get tags (i + 1)))

-- a unit of a head: its tags stand in the third and in those behind it
unfoldable pub head_unit : Head → TextLengths → ℕ → Unit16
head_unit h texts zero = id_unit h
head_unit h texts (suc zero) = marks_unit h
head_unit h texts (suc (suc zero)) = lengths_unit h texts
head_unit h texts (suc (suc (suc n))) = kept_unit h.tags.items (2 * n + 1)

-- ---- read again

-- the kind with a number
abbrev pub kind_told : ℕ → EntityKind
kind_told n = if nat_eq n 0 then EntityKind.Node else if nat_eq n 1 then EntityKind.Way else EntityKind.Relation

-- whether a bit is set
abbrev pub has_bit : (marks n : ℕ) → Bool
has_bit marks n = nat_eq (marks / n % 2) 1

-- a height, where its bit is set
abbrev pub height_told : Bool → ℤ → Option ℤ
height_told false z = None
height_told true z = Some z

-- fifteen kept tags: one in the third unit, and two in each behind it
abbrev pub all_kept : Unit16 → List Unit16 → List Kept
all_kept third more = kept_at 8 third ∷ flat_map (λ u. kept_at 0 u ∷ kept_at 8 u ∷ []) more

-- A head, and the lengths of the texts with names of their own.
pub record HeadTold : Type 0 where
  pub head : Head
  pub texts : TextLengths

-- what units tell, if they are those of a head
abbrev pub told_by : (first second third : Unit16) → List Unit16 → HeadTold
told_by first second third more = record {
  head = record {
    kind = kind_told (number_at 8 1 second);
    id = number_at 0 8 first;
    number = number_at 8 8 first;
    weight = number_at 0 8 second;
    zoom = number_at 9 1 second;
    layer = cast_signed w8 (number_at 10 1 second);
    water = has_bit (number_at 11 1 second) 1;
    label = has_bit (number_at 11 1 second) 2;
    coast = has_bit (number_at 11 1 second) 4;
    height = height_told (has_bit (number_at 11 1 second) 8) (coordinate_at 12 second);
    tags = record { items = take (number_at 6 1 third) (all_kept third more) };
  };
  texts = record { name = number_at 0 2 third; house = number_at 2 2 third; reference = number_at 4 2 third };
}

-- units are these, from this one on
abbrev pub are_units : (ℕ → Unit16) → ℕ → List Unit16 → Bool
are_units f k [] = true
are_units f k (u ∷ units) = if bytes_eq u (f k) then are_units f (suc k) units else false

-- what units tell, where they are those of a head
unfoldable pub head_in : List Unit16 → Option HeadTold
head_in [] = None
head_in (first ∷ []) = None
head_in (first ∷ second ∷ []) = None
head_in (first ∷ second ∷ third ∷ more) =
    let t = told_by first second third more in
    if are_units (head_unit t.head t.texts) 0 (first ∷ second ∷ third ∷ more) then Some t else None
