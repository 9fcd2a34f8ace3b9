-- Which entries a mapping may have, and the mapping of one word `KEY=VALUE@ZOOM`: this project's profile.
use Rattle.std.specs.Prelude.{◌≤◌, ℕ, Bool, not, ◌&&◌, ◌||◌, nat_le, List, [], ◌∷◌, ◌++◌, length, codes, bytes_eq}
use Rattle.std.specs.Prelude.{Option, option_map, option_and_then, Result, Ok, IsTrue, IfSome, ok_or, true, false}
use Rattle.std.specs.List.{list_any, AllByRecursion, IsDistinct}
use Rattle.std.specs.Str.{is_utf8}
use Rattle.mf_base.specs.Steps.{◌>>=◌, require}
use Rattle.mf_base.specs.Texts.{Text, begins, has_text, has_byte, is_among, cut, cut_last}
use Rattle.mf_base.specs.Numbers.{digits_up_to}
use Rattle.mf_base.specs.Words.{equals}
use Rattle.mf_base.specs.declared.kind.List as which
use Rattle.feature_model.specs.declared.fault.MappingFault.{MappingFault}
use Rattle.feature_model.specs.Mapping.{Entry, Mapping}

-- a text of 1 to 255 bytes
abbrev pub is_short : Text → Bool
is_short text = nat_le 1 (length text) && nat_le (length text) 255

-- whether an entry has no mark that its list has not: an entry of `poi` has none
abbrev pub may_have_marks : which.List → Entry → Bool
may_have_marks which.List.Poi e = not (e.water || e.label)
may_have_marks which.List.Way e = true

-- The entry rule: key and value have 1 to 255 bytes, the key has no `=`, the zoom level is in 0..21, and an entry of
-- `poi` has no mark.
unfoldable pub keeps_entry_rule : which.List → Entry → Bool
keeps_entry_rule list e =
    is_short e.key && not (has_byte equals e.key) && is_short e.value && nat_le e.zoom 21 && may_have_marks list e

-- The kind rule: a value that begins with `%` is one of the four kinds, and it is not `%i` where the key contains
-- `:colour`.
unfoldable pub keeps_kind_rule : Entry → Bool
keeps_kind_rule e =
    (not (begins (codes "%") e.value) || is_among (codes "%b" ∷ codes "%h" ∷ codes "%i" ∷ codes "%s" ∷ []) e.value)
    && not (bytes_eq e.value (codes "%i") && has_text (codes ":colour") e.key)

-- the same key and value
abbrev pub is_same_tag : Entry → Entry → Bool
is_same_tag e f = bytes_eq e.key f.key && bytes_eq e.value f.value

-- whether one of these has the same key and value
abbrev pub is_there : List Entry → Entry → Bool
is_there before e = list_any (λ earlier. is_same_tag earlier e) before

-- The entry behind those before it in its list, or its first fault: Entry, then Kind, then Twice. What could not be
-- read as an entry is None.
unfoldable pub entry_behind : which.List → List Entry → Option Entry → Result Entry MappingFault
entry_behind list before told = do
  let index = length before
  e ← ok_or told (MappingFault.Entry list index)
  _ ← require (keeps_entry_rule list e) (MappingFault.Entry list index)
  _ ← require (keeps_kind_rule e) (MappingFault.Kind list index)
  _ ← require (not (is_there before e)) (MappingFault.Twice list index)
  Ok e

-- the entries of a list behind those before them, or the first fault in their order
unfoldable pub entries_behind : which.List → List Entry → List (Option Entry) → Result (List Entry) MappingFault
entries_behind list before [] = Ok before
entries_behind list before (told ∷ more) =
    entry_behind list before told >>= (λ e. entries_behind list (before ++ e ∷ []) more)

-- a list has at most this many entries
abbrev pub entries_limit : ℕ
entries_limit = 4096

-- The mapping that is told by these entries, or the first fault: the lengths of both lists, and then entry by entry, in
-- both cases `poi` first.
unfoldable pub mapping_told : List (Option Entry) → List (Option Entry) → Result Mapping MappingFault
mapping_told poi way = do
  _ ← require (nat_le (length poi) entries_limit) (MappingFault.TooMany which.List.Poi)
  _ ← require (nat_le (length way) entries_limit) (MappingFault.TooMany which.List.Way)
  poi_entries ← entries_behind which.List.Poi [] poi
  way_entries ← entries_behind which.List.Way [] way
  Ok (record { poi = poi_entries; way = way_entries })

-- What is accepted.

-- key and value are UTF-8
abbrev pub IsEntryText : Entry → Type 0
IsEntryText e = IsTrue (is_utf8 e.key) × IsTrue (is_utf8 e.value)

-- what could be read as an entry is UTF-8, as TOML and words are
abbrev pub IsTold : Option Entry → Type 0
IsTold told = IfSome told IsEntryText

-- an entry is UTF-8, and keeps both rules
pub record IsEntry (list : which.List) (e : Entry) : Type 0 where
  pub entry_rule : IsTrue (keeps_entry_rule list e)
  pub kind_rule : IsTrue (keeps_kind_rule e)
  pub text : IsEntryText e

-- a list has at most 4,096 entries, each keeps both rules, and no two have the same key and value
pub record AreEntries (list : which.List) (entries : List Entry) : Type 0 where
  pub few : length entries ≤ entries_limit
  pub rules : AllByRecursion (IsEntry list) entries
  pub distinct : IsDistinct is_same_tag entries

-- a mapping as it is accepted
pub record IsMapping (m : Mapping) : Type 0 where
  pub poi : AreEntries which.List.Poi m.poi
  pub way : AreEntries which.List.Way m.way

-- One word.

-- the byte of `@`
abbrev pub at_sign : ℕ
at_sign = 64

-- an entry without marks of a key, a value and the digits of a zoom level
abbrev pub spelled_entry : Text → Text → Text → Option Entry
spelled_entry key value zoom =
    option_map (λ level. record { key = key; value = value; zoom = level; water = false; label = false })
    (digits_up_to 20 zoom)

-- what `KEY=VALUE@ZOOM` tells: the key ends before the first `=`, and the zoom level begins after the last `@` behind
-- it
unfoldable pub told_poi : Text → Option Entry
told_poi word = option_and_then (λ (p : Text × Text). option_and_then (λ (q : Text × Text). spelled_entry p.0 q.0 q.1)
    (cut_last at_sign p.1)) (cut equals word)

-- the mapping of one `poi` entry
abbrev pub one_poi : Text → Result Mapping MappingFault
one_poi word = mapping_told (told_poi word ∷ []) []
