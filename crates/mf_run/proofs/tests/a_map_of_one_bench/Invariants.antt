use Rattle.mf_run.proofs.tests.a_map_of_one_bench.Given as goal

abbrev pub ghosts-ran : goal.ghosts-ran
ghosts-ran g a = record { name = a.blank.name; parts = a.blank.parts }
