use Rattle.mf_edge.proofs.memory_spill.tests.ordered.Goals as goal

pub order-requires-clause-rows : goal.order-requires-clause-rows
order-requires-clause-rows g c = (3, c.requires.six)
