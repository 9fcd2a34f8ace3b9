use Rattle.spill_parts.proofs.uses.tests.are_read_as.Given as goal

abbrev pub ghosts-in_order : goal.ghosts-in_order
ghosts-in_order a = record { name = a.blank.name; parts = a.blank.parts }
