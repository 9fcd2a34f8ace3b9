use Rattle.std.proofs.Common.{arith, rules}
use Rattle.mf_base.proofs.VarintRead.{front-none, front-one, front-two}
use Rattle.mf_base.proofs.varint.first_varint.Goals as goal

pub returns-then-is_empty-clause-exact : goal.returns-then-is_empty-clause-exact
returns-then-is_empty-clause-exact c = front-none c.args.bytes.now (search rules)

pub returns-then-bytes-lt128-clause-exact : goal.returns-then-bytes-lt128-clause-exact
returns-then-bytes-lt128-clause-exact c =
    front-one c.args.bytes.now c.from.result (search rules) c.from.ensures
    (omega (arith, c.from.ensures, c.if-bytes-lt128.true))

pub returns-then-bytes-lt128-2-clause-exact : goal.returns-then-bytes-lt128-2-clause-exact
returns-then-bytes-lt128-2-clause-exact c =
    let small = c.type_inv.bytes 0 in
    front-two c.args.bytes.now _ _ c.if-bytes-gt1.true c.from-then-bytes-lt128-2.ensures c.if-bytes-lt128.false
    (omega (arith, small)) c.from-then-bytes-lt128-2-2.ensures
    (omega (arith, c.from-then-bytes-lt128-2-2.ensures, c.if-bytes-lt128-2.true))
