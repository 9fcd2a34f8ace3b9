use Rattle.tile_rows.proofs.PutSteps.{one-more, put-above, put-none, put-shared}
use Rattle.tile_rows.proofs.laws.rows_are_put.Goals as goal

pub returns-clause-one_more : goal.returns-clause-one_more
returns-clause-one_more c = one-more

pub returns-clause-above : goal.returns-clause-above
returns-clause-above c = put-above

pub returns-clause-none : goal.returns-clause-none
returns-clause-none c = put-none

pub returns-clause-shared : goal.returns-clause-shared
returns-clause-shared c = put-shared
