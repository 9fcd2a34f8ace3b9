-- The units of a record, and the record that units spell: this project's profile, on row kinds. A record's units stand
-- in the order head, texts by their slots, then the unit of each part and of its points; a node has its point there.
use Rattle.std.specs.Prelude.{◌≡◌, ◌<◌, slice_index_or}
use Rattle.std.specs.Prelude.{ℕ, ◌+◌, ◌*◌, ◌/◌, nat_le, nat_eq, is_some, Bool, true, List, [], ◌∷◌, ◌++◌}
use Rattle.std.specs.Prelude.{length, take, drop, map, flat_map, replicate, bytes_eq, if◌then◌else◌, ◌&&◌}
use Rattle.std.specs.Prelude.{Option, Some, None, unwrap_or}
use Rattle.std.specs.List.{list_all}
use Rattle.mf_base.specs.Texts.{Text}
use Rattle.mf_base.specs.Ascending.{cut_rows}
use Rattle.mf_base.specs.declared.kept.Kept.{Kept as KeptRead}
use Rattle.mf_base.specs.declared.kept.KeptValue.{KeptValue}
use Rattle.mf_base.specs.declared.kept.KeptValue.TheVariants as read
use Rattle.mf_base.specs.declared.kind.EntityKind.{EntityKind}
use Rattle.mf_base.specs.declared.kind.Role.{Role}
use Rattle.feature_model.specs.Points.{Point, Part}
use Rattle.mf_rows.specs.Units.{Unit16, point_unit, part_unit, parts_units, parts_in}
use Rattle.mf_rows.specs.Heads.{HeadTold, head_unit, head_in}
use Rattle.mf_rows.specs.Records.{Record, text_in, texts_told, spot_in, drawn_parts}
use Rattle.mf_rows.specs.declared.head.TextSlot.{TextSlot}
use Rattle.mf_rows.specs.declared.head.TextSpan.{TextSpan}
use Rattle.mf_rows.specs.declared.head.TextSlot.TheVariants.{Name, House, Reference, Tag}
use Rattle.mf_rows.specs.declared.head_units.TextLengths.{TextLengths}

-- units as bytes
abbrev pub bytes_in : List Unit16 → List ℕ
bytes_in units = flat_map (λ u. u) units

-- units have sixteen bytes each
abbrev pub AreWide : List Unit16 → Type 0
AreWide units = (i : ℕ) → i < length units → length (slice_index_or units i []) ≡ 16

-- ---- the units of a record

-- the length of the text in a slot, 0 where there is none
abbrev pub text_size : List (TextSlot × Text) → TextSlot → ℕ
text_size texts slot = length (unwrap_or (text_in texts slot) [])

-- the lengths that a head tells of texts
abbrev pub lengths_of : List (TextSlot × Text) → TextLengths
lengths_of texts = record {
  name = text_size texts Name;
  house = text_size texts House;
  reference = text_size texts Reference;
}

-- the ten units of a head
abbrev pub head_units : Record → List Unit16
head_units r = map (head_unit r.head (lengths_of r.texts)) (0 ∷ 1 ∷ 2 ∷ 3 ∷ 4 ∷ 5 ∷ 6 ∷ 7 ∷ 8 ∷ 9 ∷ [])

-- the texts, one after another
abbrev pub text_bytes : List (TextSlot × Text) → List ℕ
text_bytes texts = flat_map (λ (t : TextSlot × Text). t.1) texts

-- how many units so many bytes take
abbrev pub units_for : ℕ → ℕ
units_for bytes = (bytes + 15) / 16

-- the units of the texts, with zeros behind them
abbrev pub text_units : List ℕ → List Unit16
text_units bytes =
    let n = units_for (length bytes) in
    cut_rows 16 n (take (16 * n) (bytes ++ replicate 16 0))

-- the units of what it is drawn from
abbrev pub drawn_units : EntityKind → Option Point → List Part → List Unit16
drawn_units EntityKind.Node None all = []
drawn_units EntityKind.Node (Some p) all = point_unit p ∷ []
drawn_units EntityKind.Way spot all = parts_units all
drawn_units EntityKind.Relation spot all = parts_units all

-- how many points a node has
abbrev pub spot_count : Option Point → ℕ
spot_count None = 0
spot_count (Some p) = 1

-- how many units parts have
abbrev pub parts_count : List Part → ℕ
parts_count [] = 0
parts_count (p ∷ parts) = 1 + length p.points + parts_count parts

-- where the unit of the last part stands among the units of parts
abbrev pub last_place : List Part → ℕ
last_place [] = 0
last_place (p ∷ []) = 0
last_place (p ∷ q ∷ parts) = 1 + length p.points + last_place (q ∷ parts)

-- The units of a record before those that it is drawn from: ten for its head, and one for each begun 16 bytes of texts.
abbrev pub front_count : Record → ℕ
front_count r = 10 + units_for (length (text_bytes r.texts))

-- all its units: one more for each part and each point
abbrev pub unit_count : Record → ℕ
unit_count r = front_count r + spot_count r.spot + parts_count r.parts

-- The units of a record.
unfoldable pub units_of : Record → List Unit16
units_of r = head_units r ++ text_units (text_bytes r.texts) ++ drawn_units r.head.kind r.spot r.parts

-- ---- the record that units spell

-- the length of a value that is a text, and else 0
abbrev pub kept_size : KeptValue → ℕ
kept_size (read.Text len) = len
kept_size _ = 0

-- the slots of tags from this place on, each with the length of its text, 0 where there is none
abbrev pub tag_sizes : ℕ → List KeptRead → List (TextSlot × ℕ)
tag_sizes i [] = []
tag_sizes i (k ∷ tags) = (Tag i, kept_size k.value) ∷ tag_sizes (i + 1) tags

-- the slots of a head's texts in their order, each with the length that is told, which is 0 where there is no text
abbrev pub slot_sizes : HeadTold → List (TextSlot × ℕ)
slot_sizes t = (Name, t.texts.name) ∷ (House, t.texts.house) ∷ (Reference, t.texts.reference)
    ∷ tag_sizes 0 t.head.tags.items

-- the bytes of texts of these lengths
abbrev pub sizes_total : List (TextSlot × ℕ) → ℕ
sizes_total [] = 0
sizes_total (s ∷ sizes) = s.1 + sizes_total sizes

-- where texts of these lengths stand, one after another
abbrev pub spans_from : ℕ → List (TextSlot × ℕ) → List TextSpan
spans_from at [] = []
spans_from at (s ∷ sizes) =
    if nat_eq s.1 0 then spans_from at sizes
    else record { slot = s.0; start = at; len = s.1 } ∷ spans_from (at + s.1) sizes

-- a text of a tag has 1 to 1,020 bytes
abbrev pub is_size : KeptValue → Bool
is_size (read.Text len) = nat_le 1 len && nat_le len 1020
is_size _ = true

-- no other text has more
abbrev pub are_sizes : HeadTold → Bool
are_sizes t = nat_le t.texts.name 1020 && nat_le t.texts.house 1020 && nat_le t.texts.reference 1020
    && list_all (λ (k : KeptRead). is_size k.value) t.head.tags.items

-- bytes are zeros
abbrev pub are_zeros : List ℕ → Bool
are_zeros bytes = list_all (λ b. nat_eq b 0) bytes

-- the units of one outer part, or none
abbrev pub is_line : List Unit16 → Bool
is_line [] = true
is_line (first ∷ points) = bytes_eq first (part_unit Role.Outer (length points))

-- units tell what an object of this kind is drawn from, or the front of it: a node has at most one point, a way at most
-- one part, which is outer, and a relation parts
abbrev pub is_drawn : EntityKind → List Unit16 → Bool
is_drawn EntityKind.Node units = nat_le (length units) 1
is_drawn EntityKind.Way units = is_line units
is_drawn EntityKind.Relation units = is_some (parts_in units)

-- the units behind a head are those of its texts and of what it is drawn from
abbrev pub is_behind : HeadTold → List Unit16 → Bool
is_behind t units =
    let total = sizes_total (slot_sizes t) in
    let n = units_for total in
    are_sizes t && nat_le n (length units) && are_zeros (drop total (bytes_in (take n units)))
    && is_drawn t.head.kind (drop n units)

-- the record of a head and of the units behind it, of which so many are those of texts
abbrev pub record_of : HeadTold → ℕ → List Unit16 → Record
record_of t n units = record {
  head = t.head;
  texts = texts_told (bytes_in (take n units)) (spans_from 0 (slot_sizes t));
  spot = spot_in t.head.kind (drop n units);
  parts = unwrap_or (drawn_parts t.head.kind (drop n units)) [];
}

-- the record of a head and of the units behind it, where they spell one
abbrev pub record_behind : List Unit16 → Option HeadTold → Option Record
record_behind units None = None
record_behind units (Some t) =
    if is_behind t units then Some (record_of t (units_for (sizes_total (slot_sizes t))) units) else None

-- The record that units spell, where they spell one.
unfoldable pub record_in : List Unit16 → Option Record
record_in units =
    if nat_le 10 (length units) then record_behind (drop 10 units) (head_in (take 10 units)) else None

-- a record that is drawn from other units
abbrev pub redrawn : Record → List Unit16 → Record
redrawn r units = record {
  head = r.head;
  texts = r.texts;
  spot = spot_in r.head.kind units;
  parts = unwrap_or (drawn_parts r.head.kind units) [];
}
