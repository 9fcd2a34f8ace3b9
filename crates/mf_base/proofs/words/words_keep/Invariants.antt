use Rattle.std.proofs.Common.{◌≡◌, ◌≤◌, ◌-◌, length, map, drop, string_bytes}
use Rattle.mf_base.specs.Words.{names_in, options_of, kept_options, words_keep}
use Rattle.mf_base.proofs.words.words_keep.Given as goal

abbrev pub invariant-loop-name : goal.invariant-loop-name
invariant-loop-name l = (l.at ≤ length l.words)
    × (words_keep (names_in l.names) (map string_bytes l.words)
    ≡ kept_options (names_in l.names) (options_of (drop l.at (map string_bytes l.words))))

abbrev pub decreases-loop-name : goal.decreases-loop-name
decreases-loop-name l = length l.words - l.at
