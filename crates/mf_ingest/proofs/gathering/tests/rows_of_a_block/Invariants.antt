use Rattle.mf_ingest.proofs.gathering.tests.rows_of_a_block.Given as goal

abbrev pub ghosts-are_gathered : goal.ghosts-are_gathered
ghosts-are_gathered g a = record { name = a.blank.name; parts = a.blank.parts }
