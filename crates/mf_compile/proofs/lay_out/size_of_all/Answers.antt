use Rattle.std.proofs.Common.{arith}
use Rattle.mf_compile.proofs.BytesIn.{bytes-most, bytes-next, bytes-fit, bytes-end}
use Rattle.mf_compile.proofs.lay_out.size_of_all.Goals as goal

pub loop-size-preserved : goal.loop-size-preserved
loop-size-preserved c =
    bytes-next c.args.sizes.now c.loop-size.size-index c.loop-size.bytes _ c.loop-size-test.true c.loop-size.invariant

pub overflow_add-bytes : goal.overflow_add-bytes
overflow_add-bytes c =
    let fit = bytes-fit c.args.sizes.now c.loop-size.size-index c.loop-size.bytes (record { tiles = 0; bytes = 0 })
    c.loop-size-test.true c.loop-size.invariant c.requires.each c.requires.few in omega (arith, fit)

pub returns-clause-size : goal.returns-clause-size
returns-clause-size c =
    bytes-end c.args.sizes.now c.loop-size.size-index c.loop-size.bytes c.loop-size-test.false c.loop-size.invariant

pub returns-clause-most : goal.returns-clause-most
returns-clause-most c =
    let is = bytes-end c.args.sizes.now c.loop-size.size-index c.loop-size.bytes c.loop-size-test.false
    c.loop-size.invariant in
    let most = bytes-most c.args.sizes.now c.requires.each in
    omega (arith, is, most, c.requires.few)
