use Rattle.std.proofs.Common.{rules}
use Rattle.spill_parts.proofs.byte_part.BytePart.read.Goals as goal

pub read-requires-clause-range : goal.read-requires-clause-range
read-requires-clause-range g c = (c.args.self.now.size, search rules, c.requires.range)
