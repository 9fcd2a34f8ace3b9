use Rattle.std.proofs.Common.{◌∙◌, arith}
use Rattle.tile_spread.proofs.Intervals.{split-heads, heads-all}
use Rattle.tile_spread.proofs.Putting.{putting-first, putting-next, room-then, only-then}
use Rattle.tile_spread.proofs.Putting.{failed-then, on-err}
use Rattle.tile_spread.proofs.feature.put_intervals.Goals as goal

pub loop-i-init : goal.loop-i-init
loop-i-init g c = putting-first _ c.args.out.now (g.P.Spill.state c.args.spill.now) c.requires.held

pub put_interval-requires-clause-started : goal.put_interval-requires-clause-started
put_interval-requires-clause-started g c = c.loop-i.invariant.only.same.started ∙ c.requires.started

pub put_interval-requires-clause-held : goal.put_interval-requires-clause-held
put_interval-requires-clause-held g c = c.loop-i.invariant.held

pub returns-in_err-put_interval-clause-failed : goal.returns-in_err-put_interval-clause-failed
returns-in_err-put_interval-clause-failed g c =
    let was = split-heads c.args.grid.now.bounds.now c.args.rect.now c.args.head.now c.args.units.now c.args.grid.now.intervals.now
    c.loop-i.i (record { base = 0; min = 0; max = 0 }) c.loop-i-test.true c.loop-i.invariant in
    on-err c.from_residual.result (failed-then _ _ _ _ _ c.put_interval.new.out _ _ (g.P.Spill.state
    c.put_interval.new.spill) was
    c.in_err-put_interval.ensures.within c.in_err-put_interval.ensures.same_part c.in_err-put_interval.ensures.only
    c.in_err-put_interval.ensures.failed)

pub returns-in_err-put_interval-clause-within : goal.returns-in_err-put_interval-clause-within
returns-in_err-put_interval-clause-within g c =
    let was = split-heads c.args.grid.now.bounds.now c.args.rect.now c.args.head.now c.args.units.now c.args.grid.now.intervals.now
    c.loop-i.i (record { base = 0; min = 0; max = 0 }) c.loop-i-test.true c.loop-i.invariant in
    room-then _ _ _ _ _ c.put_interval.new.out _ _ (g.P.Spill.state c.put_interval.new.spill) was
    c.in_err-put_interval.ensures.within
    c.in_err-put_interval.ensures.same_part c.in_err-put_interval.ensures.only

pub returns-in_err-put_interval-clause-same_part : goal.returns-in_err-put_interval-clause-same_part
returns-in_err-put_interval-clause-same_part g c = c.in_err-put_interval.ensures.same_part ∙ c.loop-i.invariant.part

pub returns-in_err-put_interval-clause-only : goal.returns-in_err-put_interval-clause-only
returns-in_err-put_interval-clause-only g c =
    let was = split-heads c.args.grid.now.bounds.now c.args.rect.now c.args.head.now c.args.units.now c.args.grid.now.intervals.now
    c.loop-i.i (record { base = 0; min = 0; max = 0 }) c.loop-i-test.true c.loop-i.invariant in
    only-then _ _ _ _ _ c.put_interval.new.out _ _ (g.P.Spill.state c.put_interval.new.spill) was
    c.in_err-put_interval.ensures.within
    c.in_err-put_interval.ensures.same_part c.in_err-put_interval.ensures.only

pub loop-i-preserved : goal.loop-i-preserved
loop-i-preserved g c =
    let was = split-heads c.args.grid.now.bounds.now c.args.rect.now c.args.head.now c.args.units.now c.args.grid.now.intervals.now
    c.loop-i.i (record { base = 0; min = 0; max = 0 }) c.loop-i-test.true c.loop-i.invariant in
    putting-next _ _ _ _ _ c.put_interval.new.out _ _ (g.P.Spill.state c.put_interval.new.spill) was
    c.in_ok-put_interval.ensures.within
    c.in_ok-put_interval.ensures.same_part c.in_ok-put_interval.ensures.only c.in_ok-put_interval.ensures.put
    c.in_ok-put_interval.ensures.held c.in_ok-put_interval.ensures.same_faults

pub returns-clause-put : goal.returns-clause-put
returns-clause-put g c =
    heads-all c.args.grid.now.bounds.now c.args.rect.now c.args.head.now c.args.units.now c.args.grid.now.intervals.now
    c.loop-i.i c.loop-i.out.rows _ (omega (arith, c.loop-i-test.false)) c.loop-i.invariant.whole

pub returns-clause-held : goal.returns-clause-held
returns-clause-held g c = c.loop-i.invariant.held

pub returns-clause-same_faults : goal.returns-clause-same_faults
returns-clause-same_faults g c = c.loop-i.invariant.same_faults

pub returns-clause-within : goal.returns-clause-within
returns-clause-within g c = c.loop-i.invariant.within

pub returns-clause-same_part : goal.returns-clause-same_part
returns-clause-same_part g c = c.loop-i.invariant.part

pub returns-clause-only : goal.returns-clause-only
returns-clause-only g c = c.loop-i.invariant.only
