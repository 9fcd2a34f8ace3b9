use Rattle.mf_base.proofs.NumberLemmas.{unsigned_reads, unsigned_front-found}
use Rattle.mf_base.proofs.laws.one_front_unsigned.Goals as goal

pub returns-clause-reads : goal.returns-clause-reads
returns-clause-reads c = unsigned_reads

pub returns-clause-spelled : goal.returns-clause-spelled
returns-clause-spelled c bytes n size small e = let found =
    unsigned_front-found bytes n size small e in (found.within, found.fits, found.spelled)
