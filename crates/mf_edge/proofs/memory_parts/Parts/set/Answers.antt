use Rattle.std.proofs.Common.{rules, refl, Some}
use Rattle.mf_edge.proofs.MemoryParts.{set_of}
use Rattle.mf_edge.proofs.memory_parts.Parts.set.Goals as goal

pub returns : goal.returns
returns c = set_of c.args.self.now c.self.inside.list.items (search rules) c.args.part (Some c.args.bytes)
    c.args.bytes.items refl c.requires
