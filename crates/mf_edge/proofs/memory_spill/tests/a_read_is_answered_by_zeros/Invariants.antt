use Rattle.mf_edge.proofs.memory_spill.tests.a_read_is_answered_by_zeros.Given as goal

abbrev pub ghosts-all_calls : goal.ghosts-all_calls
ghosts-all_calls g a = record { name = a.blank.name; parts = a.blank.parts }
