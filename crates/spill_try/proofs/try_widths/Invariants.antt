use Rattle.spill_try.proofs.try_widths.Given as goal

abbrev pub ghosts-is_width_sorted : goal.ghosts-is_width_sorted
ghosts-is_width_sorted a = record { name = a.blank.name; parts = a.blank.parts }
