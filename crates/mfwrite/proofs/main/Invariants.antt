use Rattle.mfwrite.proofs.main.Given as goal

abbrev pub ghosts-status_of_run : goal.ghosts-status_of_run
ghosts-status_of_run a = record { name = a.blank.name; parts = a.blank.parts }
