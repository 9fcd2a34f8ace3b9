-- Too many strings.
use Rattle.std.proofs.Common.{◌≡◌, ℕ, ◌<◌, List, length, refl, sym, ap, ◌∙◌, true, false, Bool, Result, Ok, Err, Option}
use Rattle.std.proofs.Common.{Some, None, nat_le}
use Rattle.std.specs.Prelude.{◌↔◌, not, position, option_map}
use Rattle.std.specs.Str.{is_utf8}
use Rattle.std.proofs.lemmas.Bool.{leb-false, lt-leb}
use Rattle.mf_base.specs.Steps.{◌>>=◌, require, refuse}
use Rattle.osm_model.specs.declared.limits.TheConstants.{STRINGS_LIMIT}
use Rattle.osm_model.specs.declared.tables.TheConstants.{STRING_TABLE}
use Rattle.osm_model.specs.declared.faults.BlockFault.{BlockFault}
use Rattle.osm_model.specs.declared.faults.BlockFault.TheVariants as block_faults
use Rattle.osm_model.specs.Wire.{Field}
use Rattle.osm_model.specs.Tables.{message, bytes_of}
use Rattle.osm_model.specs.Blocks.{strings_in}

-- the entries of a string table, whose number is tested before what they are
abbrev tested : Bool → Option ℕ → List (List ℕ) → Result (List (List ℕ)) BlockFault
tested few wrong strings =
    require few block_faults.TooManyStrings >>= λ _. refuse (option_map block_faults.NotText wrong) >>= λ _. Ok strings

tested_few : (few : Bool) (wrong : Option ℕ) (strings : List (List ℕ))
    → tested few wrong strings ≡ Err block_faults.TooManyStrings → few ≡ false
tested_few false wrong strings e = refl
tested_few true None strings e = absurd (let none : ⊥ = cc in none)
tested_few true (Some k) strings e = absurd (let none : ⊥ = cc in none)

strings-tested : (table : List ℕ) (fs : List Field) → message STRING_TABLE table ≡ Ok fs
    → strings_in table
    ≡ tested (nat_le (length (bytes_of 1 fs)) STRINGS_LIMIT) (position (λ entry. not (is_utf8 entry)) (bytes_of 1 fs))
    (bytes_of 1 fs)
unfolding strings_in
strings-tested table fs e = rw (e, strings_in) refl

pub over_the_limit : (table : List ℕ) (fs : List Field) → message STRING_TABLE table ≡ Ok fs
    → (strings_in table ≡ Err block_faults.TooManyStrings) ↔ (4194304 < length (bytes_of 1 fs))
over_the_limit table fs e =
    let same = strings-tested table fs e in (
      λ h. leb-false (length (bytes_of 1 fs)) STRINGS_LIMIT (tested_few _ _ _ (sym same ∙ h)),
      λ over. same ∙ ap (λ few. tested few (position (λ entry. not (is_utf8 entry)) (bytes_of 1 fs)) (bytes_of 1 fs))
          (lt-leb (length (bytes_of 1 fs)) STRINGS_LIMIT over),
    )
