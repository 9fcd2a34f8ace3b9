use Rattle.mf_base.proofs.Written.{Completes}
use Rattle.mf_base.proofs.vbe.spell_groups.Given as goal

-- what is still to be spelled completes the spelling
abbrev pub invariant-loop-rest : goal.invariant-loop-rest
invariant-loop-rest l = Completes l.bytes l.at l.last l.sign l.rest l.magnitude

abbrev pub decreases-loop-rest : goal.decreases-loop-rest
decreases-loop-rest l = l.rest
