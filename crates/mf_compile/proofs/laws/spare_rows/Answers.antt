use Rattle.std.proofs.Common.{arith}
use Rattle.mf_compile.proofs.Rooms.{spare-next, spare-end}
use Rattle.mf_compile.proofs.laws.spare_rows.Goals as goal

pub loop-desk-preserved : goal.loop-desk-preserved
loop-desk-preserved c = record {
  rest = spare-next c.args.desks.now c.loop-desk.desk-index c.loop-desk.spare c.from-spare.result c.desk-item.result
      c.loop-desk-test.true c.desk-item.is (omega (arith, c.spare.ensures.rest, c.from-spare.ensures))
      c.loop-desk.invariant.rest;
  few = omega (arith, c.loop-desk.invariant.few, c.spare.type_inv, c.from-spare.ensures);
}

pub returns : goal.returns
returns c = spare-end c.args.desks.now c.loop-desk.desk-index c.loop-desk.spare c.loop-desk-test.false
    c.loop-desk.invariant.rest
