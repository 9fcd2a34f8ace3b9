use Rattle.std.proofs.Common.{arith}
use Rattle.std.proofs.lemmas.Result.{on_ok_weaker}
use Rattle.tile_spread.proofs.MadeOne.{few-units, one-more, as-long}
use Rattle.tile_spread.proofs.feature.put_feature.Goals as goal

pub put_intervals-requires-clause-few : goal.put_intervals-requires-clause-few
put_intervals-requires-clause-few g c =
    let few = few-units c.args.records.now.records _ c.units-units.ensures.many in
    omega (arith, few, c.spare.ensures.rest, c.spare.ensures.most)

pub returns-clause-put : goal.returns-clause-put
returns-clause-put g c =
    on_ok_weaker c.put_intervals.result (λ put r is. one-more c.args.grid.now.intervals.now c.args.grid.now.bounds.now
    c.rect_of-rect.result c.args.records.now.records c.view-view.result c.head.result.now c.units-units.result.now
    c.view-view.ensures c.rect_of-rect.ensures.rect c.head.ensures c.units-units.ensures.spelled c.units-units.ensures.many r
    c.args.out.now.rows c.put_intervals.new.out.rows is c.are_rows.ensures put) c.put_intervals.ensures.put

pub returns-clause-within : goal.returns-clause-within
returns-clause-within g c s is many fits =
    let long = as-long c.args.grid.now.intervals.now c.args.grid.now.bounds.now
    c.rect_of-rect.result c.args.records.now.records c.view-view.result c.head.result.now c.units-units.result.now
    c.view-view.ensures c.rect_of-rect.ensures.rect c.head.ensures c.units-units.ensures.spelled c.units-units.ensures.many s is many in
    c.put_intervals.ensures.within (omega (arith, fits, long))
