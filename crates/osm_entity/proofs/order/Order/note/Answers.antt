use Rattle.std.proofs.Common.{refl}
use Rattle.osm_entity.proofs.OrderReads.{noted-node, noted-way, noted-relation}
use Rattle.osm_entity.proofs.order.Order.note.Goals as goal

pub returns-in-Node : goal.returns-in-Node
returns-in-Node c before e behind first kind id =
    let old = c.args.self.now in
    noted-node before e old (record { kind = c.args.kind; node = c.args.id; way = old.way; relation = old.relation; no_way = _; no_relation = _ })
    c.args.kind c.args.id behind first kind id c.in-Node.is refl refl refl refl

pub returns-in-Way : goal.returns-in-Way
returns-in-Way c before e behind first kind id =
    let old = c.args.self.now in
    noted-way before e old (record { kind = c.args.kind; node = old.node; way = c.args.id; relation = old.relation; no_way = _; no_relation = _ })
    c.args.kind c.args.id behind first kind id c.in-Way.is refl refl refl refl

pub returns-in-Relation : goal.returns-in-Relation
returns-in-Relation c before e behind first kind id =
    let old = c.args.self.now in
    noted-relation before e old (record { kind = c.args.kind; node = old.node; way = old.way; relation = c.args.id; no_way = _; no_relation = _ })
    c.args.kind c.args.id behind first kind id c.in-Relation.is refl refl refl refl
