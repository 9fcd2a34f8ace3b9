use Rattle.spill_parts.proofs.uses.tests.each_of_ten_calls_fails_in_turn.Given as goal

abbrev pub ghosts-in_order : goal.ghosts-in_order
ghosts-in_order g a = record { name = a.blank.name; parts = a.blank.parts }
