use Rattle.mf_ingest.proofs.gathering.tests.+are_few_refs.Given as goal

abbrev pub decreases-are_few_refs : goal.decreases-are_few_refs
decreases-are_few_refs l = l.most
