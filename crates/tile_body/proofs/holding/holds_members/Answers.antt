use Rattle.std.proofs.Common.{arith, sym, true≢false}
use Rattle.std.proofs.lemmas.Bool.{both_ways}
use Rattle.tile_body.proofs.Added.{tested-more, each-next, all-in_order}
use Rattle.tile_body.proofs.holding.holds_members.Goals as goal

pub returns-then-not-is_next : goal.returns-then-not-is_next
returns-then-not-is_next c = (
  λ e. absurd (true≢false (sym e)),
  λ h. absurd (both_ways c.is_next.result c.if-not-is_next.true (c.is_next.ensures.1
      (each-next c.args.tile.now.interval c.args.records.now.records c.loop-i.i
      (all-in_order c.args.tile.now c.args.records.now h)))),
)

pub loop-i-preserved : goal.loop-i-preserved
loop-i-preserved c =
    tested-more c.args.tile.now.interval c.args.records.now.records c.loop-i.i
    (omega (arith, c.loop-i-test.true, c.len.ensures)) (c.is_next.ensures.0 c.if-not-is_next.false)
    c.loop-i.invariant
