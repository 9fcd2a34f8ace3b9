use Rattle.tile_rows.proofs.RowReading.{tiles-later, at_tile, past_tile, row-begins, tile-ends, rows-end}
use Rattle.tile_rows.proofs.laws.rows_are_read_by_tile.Goals as goal

pub returns-clause-later : goal.returns-clause-later
returns-clause-later c = tiles-later

pub returns-clause-at_tile : goal.returns-clause-at_tile
returns-clause-at_tile c = at_tile

pub returns-clause-past_tile : goal.returns-clause-past_tile
returns-clause-past_tile c = past_tile

pub returns-clause-begins : goal.returns-clause-begins
returns-clause-begins c = row-begins

pub returns-clause-tile_ends : goal.returns-clause-tile_ends
returns-clause-tile_ends c = tile-ends

pub returns-clause-rows_end : goal.returns-clause-rows_end
returns-clause-rows_end c = rows-end
