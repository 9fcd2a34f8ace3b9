use Rattle.row_runs.proofs.uses.tests.runs_are_put_to_another_part.Given as goal

abbrev pub ghosts-put_out : goal.ghosts-put_out
ghosts-put_out g a = record { name = a.blank.name; parts = a.blank.parts }
