use Rattle.std.proofs.Common.{◌≡◌, ◌+◌, ◌*◌, ◌∙◌, ap, rules}
use Rattle.std.specs.Prelude.{slice_get}
use Rattle.map_model.specs.TileRects.{tiles_of, entry_place}
use Rattle.map_model.proofs.TileLaws.{tile-at_place}
use Rattle.tile_index.proofs.entry.entry_place.Goals as goal

pub returns-clause-tile : goal.returns-clause-tile
returns-clause-tile c =
    let place : c.from.result * (c.from-columns.result + 1) + c.from-2.result
    ≡ entry_place c.args.span.now c.args.x c.args.y = search rules in
    ap (slice_get (tiles_of c.args.span.now)) place ∙ tile-at_place c.args.span.now c.args.x c.args.y c.requires.inside
