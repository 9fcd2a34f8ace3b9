use Rattle.mf_base.proofs.NumberLemmas.{varint_reads, varint_found}
use Rattle.mf_base.proofs.laws.one_front_varint.Goals as goal

pub returns-clause-reads : goal.returns-clause-reads
returns-clause-reads c = varint_reads

pub returns-clause-spelled : goal.returns-clause-spelled
returns-clause-spelled c bytes n size e = let found = varint_found bytes n size e in (found.within, found.spelled)
