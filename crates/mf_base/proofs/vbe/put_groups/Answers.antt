use Rattle.std.proofs.Common.{arith, subst}
use Rattle.mf_base.specs.Buffer.{AppendsTo}
use Rattle.mf_base.proofs.Written.{vbe-one, vbe-two}
use Rattle.mf_base.proofs.vbe.put_groups.Goals as goal

pub returns-then-magnitude-from-clause-appends : goal.returns-then-magnitude-from-clause-appends
returns-then-magnitude-from-clause-appends c =
    subst (AppendsTo c.args.out.now c.put.new.self)
    (vbe-one c.args.last c.args.sign c.args.magnitude (omega (arith, c.from.ensures, c.if-magnitude-from.true)))
    c.put.ensures

pub returns-then-magnitude-from-2-clause-appends : goal.returns-then-magnitude-from-2-clause-appends
returns-then-magnitude-from-2-clause-appends c =
    subst (AppendsTo c.args.out.now c.put-then-magnitude-from-2.new.self)
    (vbe-two c.args.last c.args.sign c.args.magnitude c.requires.some
    (omega (arith, c.from.ensures, c.if-magnitude-from.false))
    (omega (arith, c.from-else-magnitude-from.ensures, c.if-magnitude-from-2.true)))
    c.put-then-magnitude-from-2.ensures
