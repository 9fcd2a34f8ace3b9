use Rattle.mf_base.proofs.EntryLaws.{text-reads, text-found}
use Rattle.mf_base.proofs.text_place.one_text_at_a_place.Goals as goal

pub returns-clause-reads : goal.returns-clause-reads
returns-clause-reads c = text-reads

pub returns-clause-only : goal.returns-clause-only
returns-clause-only c = text-found
