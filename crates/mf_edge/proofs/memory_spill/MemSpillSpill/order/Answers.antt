use Rattle.std.proofs.Common.{rules}
use Rattle.mf_edge.proofs.OrderedInMemory.{same_size-ordered}
use Rattle.mf_edge.proofs.memory_spill.MemSpillSpill.order.Goals as goal

pub returns-in-Ok-clause-same_size : goal.returns-in-Ok-clause-same_size
returns-in-Ok-clause-same_size c =
    same_size-ordered c.args.self.now.parts c.set.new.self c.args.part c.args.width c.requires.rows.0 c.bytes.result.now
    c.in-Ok.bytes.items (search rules) (search rules) (search rules) (search rules)
