use Rattle.tile_rows.proofs.RowOrder.{shapes-numbered}
use Rattle.tile_rows.proofs.laws.shapes_are_numbered.Goals as goal

pub returns : goal.returns
returns c = shapes-numbered
