use Rattle.std.proofs.Common.{◌++◌, length, ap, ◌∙◌, arith}
use Rattle.tile_spread.proofs.Putting.{on-ok}
use Rattle.tile_spread.proofs.Shared.{shown-rows}
use Rattle.tile_spread.proofs.interval.put_interval.Goals as goal

pub returns-clause-put : goal.returns-clause-put
returns-clause-put g c =
    let rows = shown-rows c.args.bounds.now c.args.rect.now c.args.index c.args.interval.now c.args.head.now
    c.args.units.now c.row_of-like.result c.shared_tiles-shared.result (omega (arith, c.if-head-interval.false))
    c.row_of-like.ensures c.shared_tiles-shared.ensures.tiles in
    on-ok c.put_shared.result c.put_shared.ensures.put (λ put. put ∙ ap (λ rs. c.args.out.now.rows ++ rs) rows)

pub returns-clause-within : goal.returns-clause-within
returns-clause-within g c room =
    let rows = shown-rows c.args.bounds.now c.args.rect.now c.args.index c.args.interval.now c.args.head.now
    c.args.units.now c.row_of-like.result c.shared_tiles-shared.result (omega (arith, c.if-head-interval.false))
    c.row_of-like.ensures c.shared_tiles-shared.ensures.tiles in
    c.put_shared.ensures.within (omega (arith, room, ap length rows))
