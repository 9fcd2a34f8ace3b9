use Rattle.std.proofs.Common.{arith}
use Rattle.mf_base.proofs.Written.{place-left, completes-more, completes-last, completes-size}
use Rattle.mf_base.proofs.vbe.spell_groups.Goals as goal

pub bounds-bytes-at : goal.bounds-bytes-at
bounds-bytes-at c = let place = place-left _ _ _ _ _ _ 10 c.requires.some c.loop-rest.invariant c.requires.short in
    omega (arith, place)

pub loop-rest-preserved : goal.loop-rest-preserved
loop-rest-preserved c =
    let place = place-left _ _ _ _ _ _ 10 c.requires.some c.loop-rest.invariant c.requires.short in
    completes-more _ _ _ _ _ _ c.requires.some (omega (arith, c.from.ensures, c.loop-rest-test.true))
    (omega (arith, place)) c.loop-rest.invariant

pub bounds-bytes-at-2 : goal.bounds-bytes-at-2
bounds-bytes-at-2 c = let place = place-left _ _ _ _ _ _ 10 c.requires.some c.loop-rest.invariant c.requires.short in
    omega (arith, place)

pub returns-clause-size : goal.returns-clause-size
returns-clause-size c =
    completes-size _ _ _ _ _ _ (omega (arith, c.from.ensures, c.loop-rest-test.false)) c.loop-rest.invariant

pub returns-clause-spelled : goal.returns-clause-spelled
returns-clause-spelled c =
    let place = place-left _ _ _ _ _ _ 10 c.requires.some c.loop-rest.invariant c.requires.short in
    completes-last _ _ _ _ _ _ (omega (arith, c.from.ensures, c.loop-rest-test.false)) (omega (arith, place))
    c.loop-rest.invariant
