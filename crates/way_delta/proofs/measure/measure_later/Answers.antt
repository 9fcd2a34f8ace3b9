use Rattle.way_delta.proofs.Walked.{measures-none}
use Rattle.way_delta.proofs.measure.measure_later.Goals as goal

pub loop-place-init : goal.loop-place-init
loop-place-init c = measures-none c.args.first c.args.points
