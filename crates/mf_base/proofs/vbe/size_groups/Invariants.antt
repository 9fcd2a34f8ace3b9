use Rattle.std.proofs.Common.{◌≡◌, ◌+◌, length}
use Rattle.mf_base.specs.Spelling.{vbe}
use Rattle.mf_base.proofs.vbe.size_groups.Given as goal

-- what was counted and what is left are the spelling
abbrev pub invariant-loop-rest : goal.invariant-loop-rest
invariant-loop-rest l = l.size + length (vbe l.last 0 l.rest) ≡ 1 + length (vbe l.last 0 l.magnitude)

abbrev pub decreases-loop-rest : goal.decreases-loop-rest
decreases-loop-rest l = l.rest
