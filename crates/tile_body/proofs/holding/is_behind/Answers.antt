use Rattle.std.proofs.Common.{arith}
use Rattle.tile_body.proofs.Added.{last-before}
use Rattle.tile_body.proofs.Order.{behind-told}
use Rattle.tile_body.proofs.holding.is_behind.Goals as goal

pub returns-else-i-eq0 : goal.returns-else-i-eq0
returns-else-i-eq0 c =
    behind-told c.args.interval.now _ c.view.result c.args.view.now c.stands_before.result
    (last-before c.args.records.now.records c.args.i c.view.result (omega (arith, c.if-i-eq0.false))
    (omega (arith, c.requires.within)) c.view.ensures) c.stands_before.ensures
