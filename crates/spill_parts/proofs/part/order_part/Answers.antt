use Rattle.std.proofs.Common.{rules}
use Rattle.spill_parts.proofs.Paged.{ordered_part}
use Rattle.spill_parts.proofs.part.order_part.Goals as goal

pub returns-clause-ordered : goal.returns-clause-ordered
returns-clause-ordered g c =
    ordered_part g.K.RowKind.kind g.met.K.RowKind.laws.long c.args.part c.set_in_order.new.self c.number.result
    (g.P.Spill.state c.args.spill.now) (g.P.Spill.state c.order.new.self)
    (search rules) c.requires.held c.set_in_order.ensures.part c.set_in_order.ensures.rows
    c.order.ensures.same_size c.order.ensures.only.same.tells (search rules)
