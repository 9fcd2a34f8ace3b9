use Rattle.ring_assembly.proofs.Marks.{used-unit}
use Rattle.ring_assembly.proofs.parts.used_unit.Goals as goal

pub returns : goal.returns
returns c = λ state points is. used-unit state points c.args.unit.now is
