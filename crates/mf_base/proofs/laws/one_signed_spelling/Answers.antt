use Rattle.mf_base.proofs.NumberLemmas.{vbe_signed-only, vbe_signed-is}
use Rattle.mf_base.proofs.laws.one_signed_spelling.Goals as goal

pub returns-clause-only : goal.returns-clause-only
returns-clause-only c = vbe_signed-only

pub returns-clause-some : goal.returns-clause-some
returns-clause-some c = vbe_signed-is
