use Rattle.mf_layout.proofs.Walk.{walk-begins}
use Rattle.mf_layout.proofs.tile_walk.TileWalk.of.Goals as goal

pub returns : goal.returns
returns c = walk-begins c.args.tiles.now c.requires
