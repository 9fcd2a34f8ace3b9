use Rattle.tile_rows.proofs.RowReading.{feature-begins, features-end}
use Rattle.tile_rows.proofs.laws.features_are_read.Goals as goal

pub returns-clause-begins : goal.returns-clause-begins
returns-clause-begins c = feature-begins

pub returns-clause-ends : goal.returns-clause-ends
returns-clause-ends c = features-end
