use Rattle.std.proofs.Common.{◌∙◌, arith}
use Rattle.tile_spread.specs.Spread.{at_tile, rows_like}
use Rattle.tile_spread.proofs.FromTo.{made-all}
use Rattle.tile_spread.proofs.Putting.{putting-first, putting-split, putting-next, room-then, only-then}
use Rattle.tile_spread.proofs.Putting.{failed-then, on-err}
use Rattle.tile_spread.proofs.tiles.put_columns.Goals as goal

pub loop-x-init : goal.loop-x-init
loop-x-init g c = putting-first _ c.args.out.now (g.P.Spill.state c.args.spill.now) c.requires.held

pub put_tile-requires-clause-started : goal.put_tile-requires-clause-started
put_tile-requires-clause-started g c = c.loop-x.invariant.only.same.started ∙ c.requires.started

pub put_tile-requires-clause-held : goal.put_tile-requires-clause-held
put_tile-requires-clause-held g c = c.loop-x.invariant.held

pub returns-in_err-put_tile-clause-failed : goal.returns-in_err-put_tile-clause-failed
returns-in_err-put_tile-clause-failed g c =
    let was = putting-split (λ x. rows_like (at_tile c.args.like.now (x, c.args.y)) c.args.units.now)
    c.loop-x.x _ c.loop-x-test.true c.loop-x.invariant in
    on-err c.from_residual.result (failed-then _ _ _ _ _ c.put_tile.new.out _ _ (g.P.Spill.state
    c.put_tile.new.spill) was
    c.in_err-put_tile.ensures.within c.in_err-put_tile.ensures.same_part c.in_err-put_tile.ensures.only
    c.in_err-put_tile.ensures.failed)

pub returns-in_err-put_tile-clause-within : goal.returns-in_err-put_tile-clause-within
returns-in_err-put_tile-clause-within g c =
    let was = putting-split (λ x. rows_like (at_tile c.args.like.now (x, c.args.y)) c.args.units.now)
    c.loop-x.x _ c.loop-x-test.true c.loop-x.invariant in
    room-then _ _ _ _ _ c.put_tile.new.out _ _ (g.P.Spill.state c.put_tile.new.spill) was
    c.in_err-put_tile.ensures.within
    c.in_err-put_tile.ensures.same_part c.in_err-put_tile.ensures.only

pub returns-in_err-put_tile-clause-same_part : goal.returns-in_err-put_tile-clause-same_part
returns-in_err-put_tile-clause-same_part g c = c.in_err-put_tile.ensures.same_part ∙ c.loop-x.invariant.part

pub returns-in_err-put_tile-clause-only : goal.returns-in_err-put_tile-clause-only
returns-in_err-put_tile-clause-only g c =
    let was = putting-split (λ x. rows_like (at_tile c.args.like.now (x, c.args.y)) c.args.units.now)
    c.loop-x.x _ c.loop-x-test.true c.loop-x.invariant in
    only-then _ _ _ _ _ c.put_tile.new.out _ _ (g.P.Spill.state c.put_tile.new.spill) was
    c.in_err-put_tile.ensures.within
    c.in_err-put_tile.ensures.same_part c.in_err-put_tile.ensures.only

pub loop-x-preserved : goal.loop-x-preserved
loop-x-preserved g c =
    let was = putting-split (λ x. rows_like (at_tile c.args.like.now (x, c.args.y)) c.args.units.now)
    c.loop-x.x _ c.loop-x-test.true c.loop-x.invariant in
    putting-next _ _ _ _ _ c.put_tile.new.out _ _ (g.P.Spill.state c.put_tile.new.spill) was
    c.in_ok-put_tile.ensures.within
    c.in_ok-put_tile.ensures.same_part c.in_ok-put_tile.ensures.only c.in_ok-put_tile.ensures.put
    c.in_ok-put_tile.ensures.held c.in_ok-put_tile.ensures.same_faults

pub returns-clause-put : goal.returns-clause-put
returns-clause-put g c =
    made-all (λ x. rows_like (at_tile c.args.like.now (x, c.args.y)) c.args.units.now) c.loop-x.x
    c.args.tiles.now.last_x c.loop-x.out.rows _ (omega (arith, c.loop-x-test.false)) c.loop-x.invariant.whole

pub returns-clause-held : goal.returns-clause-held
returns-clause-held g c = c.loop-x.invariant.held

pub returns-clause-same_faults : goal.returns-clause-same_faults
returns-clause-same_faults g c = c.loop-x.invariant.same_faults

pub returns-clause-within : goal.returns-clause-within
returns-clause-within g c = c.loop-x.invariant.within

pub returns-clause-same_part : goal.returns-clause-same_part
returns-clause-same_part g c = c.loop-x.invariant.part

pub returns-clause-only : goal.returns-clause-only
returns-clause-only g c = c.loop-x.invariant.only
