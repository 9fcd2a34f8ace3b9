use Rattle.std.proofs.Common.{arith}
use Rattle.mf_base.proofs.Written.{size-more, size-whole}
use Rattle.mf_base.proofs.vbe.size_groups.Goals as goal

pub loop-rest-preserved : goal.loop-rest-preserved
loop-rest-preserved c =
    size-more _ _ _ _ c.requires.some (omega (arith, c.from.ensures, c.loop-rest-test.true)) c.loop-rest.invariant

pub returns-clause-size : goal.returns-clause-size
returns-clause-size c sign =
    size-whole _ sign _ _ _ c.requires.some (omega (arith, c.from.ensures, c.loop-rest-test.false))
    c.loop-rest.invariant

pub returns-clause-most : goal.returns-clause-most
returns-clause-most c = let e =
    size-whole _ 0 _ _ _ c.requires.some (omega (arith, c.from.ensures, c.loop-rest-test.false)) c.loop-rest.invariant
    in omega (arith, e, c.requires.short)
