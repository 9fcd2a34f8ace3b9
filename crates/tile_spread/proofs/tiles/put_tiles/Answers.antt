use Rattle.std.proofs.Common.{◌∙◌, arith}
use Rattle.tile_spread.specs.Spread.{column_rows}
use Rattle.tile_spread.proofs.FromTo.{made-all}
use Rattle.tile_spread.proofs.Putting.{putting-first, putting-split, putting-next, room-then, only-then}
use Rattle.tile_spread.proofs.Putting.{failed-then, on-err}
use Rattle.tile_spread.proofs.tiles.put_tiles.Goals as goal

pub loop-y-init : goal.loop-y-init
loop-y-init g c = putting-first _ c.args.out.now (g.P.Spill.state c.args.spill.now) c.requires.held

pub put_columns-requires-clause-started : goal.put_columns-requires-clause-started
put_columns-requires-clause-started g c = c.loop-y.invariant.only.same.started ∙ c.requires.started

pub put_columns-requires-clause-held : goal.put_columns-requires-clause-held
put_columns-requires-clause-held g c = c.loop-y.invariant.held

pub returns-in_err-put_columns-clause-failed : goal.returns-in_err-put_columns-clause-failed
returns-in_err-put_columns-clause-failed g c =
    let was = putting-split (λ y. column_rows c.args.like.now c.args.units.now y c.args.tiles.now.first_x
    c.args.tiles.now.last_x) c.loop-y.y _ c.loop-y-test.true c.loop-y.invariant in
    on-err c.from_residual.result (failed-then _ _ _ _ _ c.put_columns.new.out _ _ (g.P.Spill.state
    c.put_columns.new.spill) was
    c.in_err-put_columns.ensures.within c.in_err-put_columns.ensures.same_part c.in_err-put_columns.ensures.only
    c.in_err-put_columns.ensures.failed)

pub returns-in_err-put_columns-clause-within : goal.returns-in_err-put_columns-clause-within
returns-in_err-put_columns-clause-within g c =
    let was = putting-split (λ y. column_rows c.args.like.now c.args.units.now y c.args.tiles.now.first_x
    c.args.tiles.now.last_x) c.loop-y.y _ c.loop-y-test.true c.loop-y.invariant in
    room-then _ _ _ _ _ c.put_columns.new.out _ _ (g.P.Spill.state c.put_columns.new.spill) was
    c.in_err-put_columns.ensures.within
    c.in_err-put_columns.ensures.same_part c.in_err-put_columns.ensures.only

pub returns-in_err-put_columns-clause-same_part : goal.returns-in_err-put_columns-clause-same_part
returns-in_err-put_columns-clause-same_part g c = c.in_err-put_columns.ensures.same_part ∙ c.loop-y.invariant.part

pub returns-in_err-put_columns-clause-only : goal.returns-in_err-put_columns-clause-only
returns-in_err-put_columns-clause-only g c =
    let was = putting-split (λ y. column_rows c.args.like.now c.args.units.now y c.args.tiles.now.first_x
    c.args.tiles.now.last_x) c.loop-y.y _ c.loop-y-test.true c.loop-y.invariant in
    only-then _ _ _ _ _ c.put_columns.new.out _ _ (g.P.Spill.state c.put_columns.new.spill) was
    c.in_err-put_columns.ensures.within
    c.in_err-put_columns.ensures.same_part c.in_err-put_columns.ensures.only

pub loop-y-preserved : goal.loop-y-preserved
loop-y-preserved g c =
    let was = putting-split (λ y. column_rows c.args.like.now c.args.units.now y c.args.tiles.now.first_x
    c.args.tiles.now.last_x) c.loop-y.y _ c.loop-y-test.true c.loop-y.invariant in
    putting-next _ _ _ _ _ c.put_columns.new.out _ _ (g.P.Spill.state c.put_columns.new.spill) was
    c.in_ok-put_columns.ensures.within
    c.in_ok-put_columns.ensures.same_part c.in_ok-put_columns.ensures.only c.in_ok-put_columns.ensures.put
    c.in_ok-put_columns.ensures.held c.in_ok-put_columns.ensures.same_faults

pub returns-clause-put : goal.returns-clause-put
returns-clause-put g c =
    made-all (λ y. column_rows c.args.like.now c.args.units.now y c.args.tiles.now.first_x
    c.args.tiles.now.last_x) c.loop-y.y c.args.tiles.now.last_y c.loop-y.out.rows _ (omega (
      arith,
      c.loop-y-test.false,
    )) c.loop-y.invariant.whole

pub returns-clause-held : goal.returns-clause-held
returns-clause-held g c = c.loop-y.invariant.held

pub returns-clause-same_faults : goal.returns-clause-same_faults
returns-clause-same_faults g c = c.loop-y.invariant.same_faults

pub returns-clause-within : goal.returns-clause-within
returns-clause-within g c = c.loop-y.invariant.within

pub returns-clause-same_part : goal.returns-clause-same_part
returns-clause-same_part g c = c.loop-y.invariant.part

pub returns-clause-only : goal.returns-clause-only
returns-clause-only g c = c.loop-y.invariant.only
