use Rattle.tile_assign.proofs.Common.{AreSides, common-some, common-no_column, common-no_row}
use Rattle.tile_assign.proofs.tile_rect.common.Goals as goal
use Rattle.tile_assign.proofs.tile_rect.common.Goals.{else-both-via-then-both+else-both-2, else-both-via-else-both}

pub returns-then-both-2-clause-common : goal.returns-then-both-2-clause-common
returns-then-both-2-clause-common c =
    common-some c.args.a.now c.args.b.now c.max.result c.min.result c.max-2.result c.min-2.result
    (record { west = c.max.ensures; east = c.min.ensures; north = c.max-2.ensures; south = c.min-2.ensures })
    c.if-both.true c.if-both-2.true

pub returns-else-both-clause-common : goal.returns-else-both-clause-common
returns-else-both-clause-common c =
    let sides : AreSides c.args.a.now c.args.b.now c.max.result c.min.result c.max-2.result c.min-2.result =
    record { west = c.max.ensures; east = c.min.ensures; north = c.max-2.ensures; south = c.min-2.ensures } in
    elim c.else-both.branch [
      | else-both-via-then-both+else-both-2 w ↦ common-no_row c.args.a.now c.args.b.now c.max.result c.min.result
          c.max-2.result c.min-2.result sides w.if-both.true w.if-both-2.false
      | else-both-via-else-both w ↦ common-no_column c.args.a.now c.args.b.now c.max.result c.min.result c.max-2.result
          c.min-2.result sides w.if-both.false
    ]
