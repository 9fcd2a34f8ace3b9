use Rattle.std.proofs.Common.{rules}
use Rattle.mf_edge.proofs.MemoryParts.{made_of}
use Rattle.mf_edge.proofs.memory_parts.Parts.make.Goals as goal

pub returns-then-place-len-clause-made : goal.returns-then-place-len-clause-made
returns-then-place-len-clause-made c =
    made_of c.args.self.now c.self.inside.list.items (search rules) c.free_place-place.result c.new.result
    (search rules) (search rules) (search rules)
