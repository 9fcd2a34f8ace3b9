use Rattle.std.proofs.Common.{◌<◌, length, rules}
use Rattle.mf_base.proofs.PackedFront.{front-one}
use Rattle.mf_base.proofs.varint_front.front_varint.Goals as goal

pub returns-then-bytes-lt128-clause-exact : goal.returns-then-bytes-lt128-clause-exact
returns-then-bytes-lt128-clause-exact c =
    let some : 0 < length c.args.bytes.now = search rules in
    let is = c.from.ensures in
    front-one c.args.bytes.now c.from.result some is (search rules)
