-- The places of the strings of a block. This project's own.
use Rattle.std.specs.Prelude.{◌≡◌, ℕ, List, map, length, nat_le, not, position, option_map, Some, Result, Ok}
use Rattle.std.specs.Str.{is_utf8}
use Rattle.mf_base.specs.Steps.{◌>>=◌, require, refuse}
use Rattle.osm_model.specs.declared.limits.TheConstants.{STRINGS_LIMIT}
use Rattle.osm_model.specs.declared.faults.BlockFault.{BlockFault}
use Rattle.osm_model.specs.declared.faults.BlockFault.TheVariants.{TooManyStrings, NotText}
use Rattle.mf_base.specs.Texts.{Text}
use Rattle.mf_base.specs.Entries.{text_at}

-- At these places the block has these texts, each behind its length.
abbrev pub AreAt : List ℕ → List ℕ → List Text → Type 0
AreAt block places texts = map (text_at block) places ≡ map Some texts

-- these texts, where nothing was refused
abbrev pub unless_refused : Result (Unit {0}) BlockFault → List Text → Result (List Text) BlockFault
unless_refused answer texts = do
  _ ← answer
  Ok texts

-- the texts of a StringTable, or the fault of their number, or the first that is no UTF-8
abbrev pub checked_strings : List Text → Result (List Text) BlockFault
checked_strings texts = do
  _ ← require (nat_le (length texts) STRINGS_LIMIT) TooManyStrings
  _ ← refuse (option_map NotText (position (λ entry. not (is_utf8 entry)) texts))
  Ok texts
