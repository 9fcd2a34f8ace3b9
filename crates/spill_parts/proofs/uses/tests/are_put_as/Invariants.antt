use Rattle.spill_parts.proofs.uses.tests.are_put_as.Given as goal

abbrev pub ghosts-put_at_once : goal.ghosts-put_at_once
ghosts-put_at_once a = record { name = a.blank.name; parts = a.blank.parts }
