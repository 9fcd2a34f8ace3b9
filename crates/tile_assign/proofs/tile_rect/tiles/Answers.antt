use Rattle.std.proofs.Common.{◌≡◌, sym, subst, rules}
use Rattle.map_model.specs.TileRects.{tile_rect, IsTileRect}
use Rattle.map_model.proofs.RowLaws.{rect-tiles}
use Rattle.tile_assign.proofs.tile_rect.tiles.Goals as goal

pub returns-clause-proper : goal.returns-clause-proper
unfolding tile_rect
returns-clause-proper c =
    let same : record {
      z = c.args.z;
      first_x = c.column.result;
      last_x = c.column-2.result;
      first_y = c.row.result;
      last_y = c.row-2.result;
    } ≡ tile_rect c.args.rect.now c.args.z = search rules in
    subst IsTileRect (sym same) (rect-tiles c.args.rect.now c.args.z c.requires.rect c.requires.zoom)
