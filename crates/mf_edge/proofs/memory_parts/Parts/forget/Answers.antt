use Rattle.std.proofs.Common.{rules}
use Rattle.mf_edge.proofs.MemoryParts.{gone_of}
use Rattle.mf_edge.proofs.memory_parts.Parts.forget.Goals as goal

pub returns : goal.returns
returns c = gone_of c.args.self.now c.self.inside.list.items (search rules) c.args.part c.requires
