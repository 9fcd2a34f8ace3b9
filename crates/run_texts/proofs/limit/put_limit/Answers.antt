use Rattle.std.specs.Prelude.{codes}
use Rattle.map_model.specs.MapFile.{worded}
use Rattle.run_texts.specs.Texts.{limit_text}
use Rattle.run_texts.proofs.Putting.{puts-both, puts-four}
use Rattle.run_texts.proofs.limit.put_limit.Goals as goal

pub returns-in-Tile-clause-appends : goal.returns-in-Tile-clause-appends
unfolding limit_text
returns-in-Tile-clause-appends c =
    rw c.in-Tile.is
    (puts-four _ _ _ _ _ (worded (codes "limit tile") c.in-Tile.index) (worded (codes " x") c.in-Tile.x)
    (worded (codes " y") c.in-Tile.y) (worded (codes " weight") c.in-Tile.weight)
    c.put_worded-in-Tile.ensures.appends c.put_worded-in-Tile-2.ensures.appends
    c.put_worded-in-Tile-3.ensures.appends c.put_worded-in-Tile-4.ensures.appends)

pub returns-in-SubFile-clause-appends : goal.returns-in-SubFile-clause-appends
unfolding limit_text
returns-in-SubFile-clause-appends c =
    rw c.in-SubFile.is
    (puts-both _ _ _ (worded (codes "limit interval") c.in-SubFile.index) (worded (codes " size") c.in-SubFile.size)
    c.put_worded-in-SubFile.ensures.appends c.put_worded-in-SubFile-2.ensures.appends)
