use Rattle.std.proofs.Common.{◌≡◌, length}
use Rattle.mf_base.specs.Texts.{is_among}
use Rattle.mf_base.specs.Words.{names_in}
use Rattle.mf_base.proofs.words.is_name.Given as goal

abbrev pub invariant-loop-first : goal.invariant-loop-first
invariant-loop-first l = is_among (names_in l.names) l.name ≡ is_among (names_in l.rest) l.name

abbrev pub decreases-loop-first : goal.decreases-loop-first
decreases-loop-first l = length l.rest
