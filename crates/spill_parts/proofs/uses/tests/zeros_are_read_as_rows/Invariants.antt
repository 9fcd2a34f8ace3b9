use Rattle.spill_parts.proofs.uses.tests.zeros_are_read_as_rows.Given as goal

abbrev pub ghosts-in_order : goal.ghosts-in_order
ghosts-in_order g a = record { name = a.blank.name; parts = a.blank.parts }
