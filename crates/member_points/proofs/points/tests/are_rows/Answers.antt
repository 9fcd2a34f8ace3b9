use Rattle.std.proofs.Common.{arith}
use Rattle.member_points.proofs.points.tests.are_rows.Goals as goal

pub loop-row-init : goal.loop-row-init
loop-row-init g c = record {
  started = c.requires.started;
  reading = c.start-reader.ensures.reading c.args.page.now (g.P.Spill.state c.args.spill.now) c.requires.held;
  few = omega arith;
}
