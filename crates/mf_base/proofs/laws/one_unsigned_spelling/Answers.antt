use Rattle.mf_base.proofs.NumberLemmas.{vbe_unsigned-only, vbe_unsigned-is}
use Rattle.mf_base.proofs.laws.one_unsigned_spelling.Goals as goal

pub returns-clause-only : goal.returns-clause-only
returns-clause-only c = vbe_unsigned-only

pub returns-clause-some : goal.returns-clause-some
returns-clause-some c = vbe_unsigned-is
