use Rattle.std.proofs.Common.{arith}
use Rattle.mf_base.specs.declared.tile.Interval.{Interval}
use Rattle.map_header.specs.declared.sub_file.SubFile.{SubFile}
use Rattle.map_header.proofs.EachInterval.{intervals-more, intervals-all}
use Rattle.map_header.proofs.intervals.put_intervals.Goals as goal

pub loop-i-preserved : goal.loop-i-preserved
loop-i-preserved c =
    let interval : Interval = record { base = 0; min = 0; max = 0 } in
    let sub : SubFile = record { start = 0; size = 0 } in
    record {
      put = intervals-more c.args.out.now c.loop-i.out c.put_interval.new.out c.args.intervals.now c.args.subs.now
          c.loop-i.i interval sub
          c.loop-i-test.true
          (omega (arith, c.loop-i-test.true, c.requires.same)) c.loop-i.invariant.put
          c.put_interval.ensures.appends;
      most = omega (arith, c.loop-i.invariant.most, c.put_interval.ensures.most);
    }

pub returns : goal.returns
returns c =
    intervals-all c.args.out.now c.loop-i.out c.args.intervals.now c.args.subs.now c.loop-i.i
    (omega (arith, c.loop-i-test.false))
    c.loop-i.invariant.put
