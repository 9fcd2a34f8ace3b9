use Rattle.std.proofs.Common.{inr}
use Rattle.tag_mapping.proofs.Document.{in-lists, in-none}
use Rattle.tag_mapping.proofs.file.mapping_in.Goals as goal

pub returns-in-Some-clause-mapping : goal.returns-in-Some-clause-mapping
returns-in-Some-clause-mapping c = rw (in-lists _ _ _ c.in-Some.ensures) c.mapping_of_lists.ensures.mapping

pub returns-in-Some-clause-refused : goal.returns-in-Some-clause-refused
returns-in-Some-clause-refused c = rw (in-lists _ _ _ c.in-Some.ensures) c.mapping_of_lists.ensures.refused

pub returns-in-None-clause-refused : goal.returns-in-None-clause-refused
returns-in-None-clause-refused c = inr (in-none _ c.in-None.ensures)
