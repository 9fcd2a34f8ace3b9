use Rattle.mf_edge.proofs.memory_spill.tests.each_call_fails_in_turn.Given as goal

abbrev pub ghosts-all_calls : goal.ghosts-all_calls
ghosts-all_calls g a = record { name = a.blank.name; parts = a.blank.parts }
