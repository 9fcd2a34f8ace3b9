use Rattle.std.proofs.Common.{refl}
use Rattle.map_model.specs.TileRects.{tiles_of}
use Rattle.map_model.proofs.MercatorLemmas.{row-zero}
use Rattle.map_model.proofs.World.{column-zero, corner-world, tile_rect-zero, meets-zero}
use Rattle.map_model.proofs.laws.one_tile_of_zoom_0.Goals as goal

pub returns-clause-row : goal.returns-clause-row
returns-clause-row c = row-zero

pub returns-clause-column : goal.returns-clause-column
returns-clause-column c = column-zero

pub returns-clause-corner : goal.returns-clause-corner
returns-clause-corner c = corner-world

pub returns-clause-tiles : goal.returns-clause-tiles
unfolding tiles_of
returns-clause-tiles c = λ box. rw (tile_rect-zero box) refl

pub returns-clause-meets : goal.returns-clause-meets
returns-clause-meets c = meets-zero
