use Rattle.std.proofs.Common.{◌∙◌, sym}
use Rattle.osm_entity.proofs.GroupTurns.{group-fault, group-mixed, group-is}
use Rattle.osm_entity.proofs.group_read.read_group.Goals as goal

pub returns-in-Err : goal.returns-in-Err
returns-in-Err c b = group-fault b c.args.bytes.now c.in-Err.fault c.in-Err.ensures.exact

pub returns-then-not-is_of_one_kind : goal.returns-then-not-is_of_one_kind
returns-then-not-is_of_one_kind c b =
    group-mixed b c.args.bytes.now _ c.in-Ok.ensures.message
    (sym c.is_of_one_kind.ensures ∙ c.if-not-is_of_one_kind.true)

pub returns-else-not-is_of_one_kind : goal.returns-else-not-is_of_one_kind
returns-else-not-is_of_one_kind c b =
    group-is b c.args.bytes.now c.in-Ok.ensures.message
    (sym c.is_of_one_kind.ensures ∙ c.if-not-is_of_one_kind.false)
