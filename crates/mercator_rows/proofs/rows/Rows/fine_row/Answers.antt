use Rattle.std.proofs.Common.{w32}
use Rattle.std.proofs.lemmas.Int.{to_z-of_z}
use Rattle.mercator_rows.proofs.Found.{found-below, found-above, north_lat-equator}
use Rattle.mercator_rows.proofs.rows.Rows.fine_row.Goals as goal

pub returns-then-lat-lt0 : goal.returns-then-lat-lt0
returns-then-lat-lt0 c =
    let same = to_z-of_z w32 c.args.lat c.ranges.lat in
    rw c.max.ensures (found-below c.args.lat c.unsigned_abs.result c.reach-reach.result (rw same at c.if-lat-lt0.true)
    (rw same at c.unsigned_abs.ensures.value) c.reach-reach.ensures north_lat-equator)

pub returns-else-lat-lt0 : goal.returns-else-lat-lt0
returns-else-lat-lt0 c =
    let same = to_z-of_z w32 c.args.lat c.ranges.lat in
    rw c.saturating_sub.ensures (found-above c.args.lat c.unsigned_abs.result c.reach-reach.result
    (rw same at c.if-lat-lt0.false) (rw same at c.unsigned_abs.ensures.value) c.reach-reach.ensures)
