use Rattle.std.proofs.Common.{◌+◌, [], get_or, take, arith}
use Rattle.std.proofs.lemmas.List.{get_or_default}
use Rattle.ring_assembly.proofs.Putting.{puts-start, puts-one, puts-all, puts-long}
use Rattle.ring_assembly.proofs.put_back.put_points.Goals as goal

pub loop-i-init : goal.loop-i-init
loop-i-init c = puts-start c.args.records.now c.args.at c.args.points.now

pub set_loose-requires : goal.set_loose-requires
set_loose-requires c = omega (
  arith,
  c.requires.within,
  c.loop-i-test.true,
  puts-long c.args.records.now c.loop-i.records c.args.at (c.args.at + c.loop-i.i)
      (take c.loop-i.i c.args.points.now) c.loop-i.invariant (omega (arith, c.requires.within, c.loop-i-test.true)),
)

pub loop-i-preserved : goal.loop-i-preserved
loop-i-preserved c =
    let unit = get_or c.args.points.now c.loop-i.i [] in
    puts-one c.args.records.now c.loop-i.records c.set_loose.new.self c.args.at c.loop-i.i c.args.points.now unit
    c.loop-i-test.true c.requires.within (get_or_default c.args.points.now c.loop-i.i [] unit c.loop-i-test.true)
    c.loop-i.invariant c.set_loose.ensures

pub returns : goal.returns
returns c =
    puts-all c.args.records.now c.loop-i.records c.args.at c.loop-i.i c.args.points.now (omega arith)
    c.loop-i.invariant
