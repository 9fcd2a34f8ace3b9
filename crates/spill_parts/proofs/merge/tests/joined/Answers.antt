use Rattle.spill_parts.proofs.merge.tests.joined.Goals as goal

pub join-requires-clause-refs : goal.join-requires-clause-refs
join-requires-clause-refs g c = c.in_ok-nodes.ensures.kept _ c.in_ok-refs.ensures.held
