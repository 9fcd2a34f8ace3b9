use Rattle.mf_base.proofs.NumberLemmas.{signed_reads, signed_front-found}
use Rattle.mf_base.proofs.laws.one_front_signed.Goals as goal

pub returns-clause-reads : goal.returns-clause-reads
returns-clause-reads c = signed_reads

pub returns-clause-spelled : goal.returns-clause-spelled
returns-clause-spelled c bytes z size small e = let found =
    signed_front-found bytes z size small e in (found.within, found.fits, found.spelled)
