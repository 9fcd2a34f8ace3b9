use Rattle.spill_parts.proofs.merge.tests.are_joined.Given as goal

abbrev pub ghosts-joined : goal.ghosts-joined
ghosts-joined a = record { name = a.blank.name; parts = a.blank.parts }
