use Rattle.row_runs.proofs.uses.tests.rows_of_keys_are_counted.Given as goal

abbrev pub ghosts-counted : goal.ghosts-counted
ghosts-counted g a = record { name = a.blank.name; parts = a.blank.parts }
