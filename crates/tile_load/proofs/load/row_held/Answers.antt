use Rattle.tile_load.proofs.Tile.{is-held}
use Rattle.tile_load.proofs.load.row_held.Goals as goal

pub unwrap-requires : goal.unwrap-requires
unwrap-requires c = is-held c.args.tile.now c.args.held.now c.requires
