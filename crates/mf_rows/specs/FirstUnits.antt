-- The units of a record before its parts and points: this project's profile, on row kinds.
use Rattle.std.specs.Prelude.{◌^◌, ◌<◌, ◌≤◌, List, [], ◌++◌, None, FitsSigned, length, ⊤}
use Rattle.std.specs.List.{AllByRecursion}
use Rattle.std.specs.Int.{w8, w16, w32}
use Rattle.mf_base.specs.declared.kept.Kept.{Kept as KeptRead}
use Rattle.mf_base.specs.declared.kept.KeptValue.{KeptValue}
use Rattle.mf_base.specs.declared.kept.KeptValue.TheVariants as read
use Rattle.mf_rows.specs.Heads.{height_number}
use Rattle.mf_rows.specs.declared.head_units.TextLengths.{TextLengths}
use Rattle.mf_base.specs.Texts.{Text}
use Rattle.mf_rows.specs.Units.{Unit16}
use Rattle.mf_rows.specs.Records.{Record}
use Rattle.mf_rows.specs.RecordUnits.{head_units, text_units, text_bytes}
use Rattle.mf_rows.specs.declared.head.Head.{Head}
use Rattle.mf_rows.specs.declared.head.TextSlot.{TextSlot}
use Rattle.mf_rows.specs.declared.head.TextSpan.{TextSpan}

-- a text has at most 1,020 bytes
abbrev pub IsShort : TextSpan → Type 0
IsShort span = span.len ≤ 1020

-- a record of which only head and texts are there
abbrev pub front_record : Head → List (TextSlot × Text) → Record
front_record head texts = record { head = head; texts = texts; spot = None; parts = [] }

-- the units of a head and its texts
abbrev pub front_units : Record → List Unit16
front_units r = head_units r ++ text_units (text_bytes r.texts)

-- ---- values of their types

-- a value of a kept tag
abbrev pub IsValue : KeptValue → Type 0
IsValue read.Plain = ⊤
IsValue (read.Byte z) = FitsSigned w8 z
IsValue (read.Short z) = FitsSigned w16 z
IsValue (read.Int z) = FitsSigned w32 z
IsValue (read.Text len) = len < 2 ^ 16

-- a kept tag
abbrev pub IsKeptTag : KeptRead → Type 0
IsKeptTag k = (k.tag < 2 ^ 16) × IsValue k.value

-- A head.
pub record IsHead (h : Head) : Type 0 where
  pub id : h.id < 2 ^ 64
  pub number : h.number < 2 ^ 64
  pub weight : h.weight < 2 ^ 64
  pub zoom : h.zoom < 2 ^ 8
  pub layer : FitsSigned w8 h.layer
  pub height : FitsSigned w32 (height_number h.height)
  pub few : length h.tags.items ≤ 15
  pub tags : AllByRecursion IsKeptTag h.tags.items

-- The lengths of texts.
pub record AreLengths (t : TextLengths) : Type 0 where
  pub name : t.name < 2 ^ 16
  pub house : t.house < 2 ^ 16
  pub reference : t.reference < 2 ^ 16
