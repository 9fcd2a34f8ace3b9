-- What calls answer that lend texts or parts of them, in the words of the definitions.
use Rattle.std.specs.Prelude.{◌≡◌, ◌≤◌, List, [], length, drop, Some, None}
use Rattle.std.specs.Borrow.{Bor}
use Rattle.mf_base.specs.Texts.{Text}
use Rattle.mf_base.specs.Words.{options_of, and_then_options}
use Rattle.mf_base.specs.declared.words.Front.{Front}
use Rattle.mf_base.specs.declared.words.Front.TheVariants as front

-- the two texts that are lent
abbrev pub both_now : Bor Text × Bor Text → Text × Text
both_now parts = (parts.0.now, parts.1.now)

-- The words are no list of options, or have no more of them, or begin with an option of so many words.
abbrev pub Begins : List Text → Front → Type 0
Begins words front.End = options_of words ≡ Some []
Begins words front.Broken = options_of words ≡ None
Begins words (front.Option name value size) = (1 ≤ size) × (size ≤ length words)
    × (options_of words ≡ and_then_options (name.now, value.now) (options_of (drop size words)))
