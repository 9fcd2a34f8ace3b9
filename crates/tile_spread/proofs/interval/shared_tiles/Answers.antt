use Rattle.std.proofs.Common.{◌≡◌, sym, ap, ◌∙◌, arith}
use Rattle.mf_base.specs.declared.tile.TileRect.{TileRect}
use Rattle.tile_spread.proofs.Shared.{zoom-of_rect, small-common}
use Rattle.tile_spread.proofs.interval.shared_tiles.Goals as goal

pub common-requires-clause-zoom : goal.common-requires-clause-zoom
common-requires-clause-zoom c =
    ap (λ (t : TileRect). t.z) c.tiles-of_box.ensures.tiles ∙ zoom-of_rect c.args.bounds.now c.args.z
    ∙ sym (ap (λ (t : TileRect). t.z) c.tiles-of_rect.ensures.tiles ∙ zoom-of_rect c.args.rect.now c.args.z)

pub returns-clause-small : goal.returns-clause-small
returns-clause-small c =
    let zoom : c.tiles-of_box.result.z ≡ c.args.z =
    ap (λ (t : TileRect). t.z) c.tiles-of_box.ensures.tiles ∙ zoom-of_rect c.args.bounds.now c.args.z in
    small-common c.tiles-of_box.result c.tiles-of_rect.result c.common.result c.common.ensures.common
    c.common.ensures.proper (omega (arith, zoom, c.requires.zoom))
