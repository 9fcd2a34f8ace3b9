use Rattle.mf_ingest.proofs.gathering.tests.+are_few_members.Given as goal

abbrev pub decreases-are_few_members : goal.decreases-are_few_members
decreases-are_few_members l = l.most
