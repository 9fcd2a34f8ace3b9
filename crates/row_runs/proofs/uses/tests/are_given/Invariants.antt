use Rattle.row_runs.proofs.uses.tests.are_given.Given as goal

abbrev pub ghosts-given : goal.ghosts-given
ghosts-given a = record { name = a.blank.name; parts = a.blank.parts }
