use Rattle.ring_assembly.proofs.Edges.{between}
use Rattle.ring_assembly.proofs.inside.is_between.Goals as goal

pub returns : goal.returns
returns c = between c.args.lat c.args.a c.args.b c.ranges.lat c.ranges.a c.ranges.b
