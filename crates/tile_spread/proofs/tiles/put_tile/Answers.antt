use Rattle.std.proofs.Common.{ℕ, ◌++◌, ap, ◌∙◌, arith}
use Rattle.mf_rows.specs.Units.{Unit16}
use Rattle.mf_rows.specs.declared.kinds.TileRow.{TileRow}
use Rattle.unit_rows.proofs.RunsOf.{rows-counted}
use Rattle.tile_spread.specs.Spread.{at_tile, with_place, rows_like}
use Rattle.tile_spread.proofs.Putting.{on-ok}
use Rattle.tile_spread.proofs.tiles.put_tile.Goals as goal

pub returns-clause-put : goal.returns-clause-put
returns-clause-put g c = on-ok c.put_units.result c.put_units.ensures.put (λ put. put.rows_now
    ∙ ap (λ (row : TileRow). c.args.out.now.rows ++ rows_like row c.args.units.now) c.row_at-row.ensures)

pub returns-clause-within : goal.returns-clause-within
returns-clause-within g c room =
    let row : ℕ → Unit16 → TileRow = with_place (at_tile c.args.like.now (c.args.x, c.args.y)) in
    c.put_units.ensures.within (omega (arith, room, rows-counted row c.args.units.now))
