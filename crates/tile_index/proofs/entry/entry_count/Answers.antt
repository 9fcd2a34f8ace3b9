use Rattle.std.proofs.Common.{◌≡◌, ◌+◌, ◌*◌, ◌∙◌, sym, rules}
use Rattle.map_model.specs.TileRects.{tile_count}
use Rattle.map_model.proofs.TileLaws.{tiles-length}
use Rattle.tile_index.proofs.entry.entry_count.Goals as goal

pub returns-clause-each : goal.returns-clause-each
returns-clause-each c =
    let count : (c.from-columns.result + 1) * (c.from-rows.result + 1) ≡ tile_count c.args.span.now = search rules in
    count ∙ sym (tiles-length c.args.span.now)
