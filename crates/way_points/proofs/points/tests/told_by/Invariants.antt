use Rattle.way_points.proofs.points.tests.told_by.Given as goal

abbrev pub ghosts-are_points : goal.ghosts-are_points
ghosts-are_points a = record { name = a.blank.name; parts = a.blank.parts }
