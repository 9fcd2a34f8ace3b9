use Rattle.std.proofs.Common.{arith}
use Rattle.osm_entity.proofs.RunEnds.{front-none, front-zero, front-bad_key, front-key, front-bad_value, front-pair}
use Rattle.osm_entity.proofs.run_end.front_of.Goals as goal

pub returns-in_default : goal.returns-in_default
returns-in_default c = front-none c.args.count c.args.list.now _ c.requires c.in_default.ensures.exact

pub returns-then-key-eq0 : goal.returns-then-key-eq0
returns-then-key-eq0 c =
    front-zero c.args.list.now c.in-Ok.key c.in-Ok.at c.requires c.in-Ok.ensures.exact c.if-key-eq0.true

pub returns-then-key-count : goal.returns-then-key-count
returns-then-key-count c =
    front-bad_key c.args.count c.args.list.now c.in-Ok.key c.in-Ok.at c.requires c.in-Ok.ensures.exact
    (omega (arith, c.if-key-eq0.false)) (omega (arith, c.if-key-count.true))

pub returns-in-Err : goal.returns-in-Err
returns-in-Err c =
    front-key c.args.count c.args.list.now c.in-Ok.key c.in-Ok.at _ c.requires c.in-Ok.ensures.exact
    (omega (arith, c.if-key-eq0.false)) (omega (arith, c.if-key-count.false)) c.in-Err.ensures.exact

pub returns-then-value-count : goal.returns-then-value-count
returns-then-value-count c =
    front-bad_value c.args.count c.args.list.now c.in-Ok.key c.in-Ok.at c.in-Ok-front_varint.value
    c.in-Ok-front_varint.size c.requires c.in-Ok.ensures.exact (omega (arith, c.if-key-eq0.false))
    c.in-Ok-front_varint.ensures.exact (omega (arith, c.if-value-count.true))

pub returns-else-value-count : goal.returns-else-value-count
returns-else-value-count c =
    front-pair c.args.count c.args.list.now c.in-Ok.key c.in-Ok.at c.in-Ok-front_varint.value
    c.in-Ok-front_varint.size c.requires c.in-Ok.ensures.exact (omega (arith, c.if-key-eq0.false))
    (omega (arith, c.if-key-count.false)) c.in-Ok-front_varint.ensures.exact
    (omega (arith, c.if-value-count.false))
