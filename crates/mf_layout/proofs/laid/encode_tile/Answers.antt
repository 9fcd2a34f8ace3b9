use Rattle.std.proofs.Common.{◌∙◌}
use Rattle.tile_body.specs.Tiles.{features_told}
use Rattle.mf_layout.proofs.LaidTiles.{content-bytes}
use Rattle.mf_layout.proofs.laid.encode_tile.Goals as goal

pub returns-clause-bytes : goal.returns-clause-bytes
returns-clause-bytes c =
    c.encode.ensures.bytes ∙ content-bytes c.args.tile.now (features_told c.args.desk.now.records.records)
