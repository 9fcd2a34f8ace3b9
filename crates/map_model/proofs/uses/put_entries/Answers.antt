use Rattle.std.proofs.Common.{false, arith}
use Rattle.map_model.proofs.Using.{entries-begun, entries-fit, entries-step, entries-end}
use Rattle.map_model.proofs.uses.put_entries.Goals as goal

pub loop-i-init : goal.loop-i-init
loop-i-init g c = entries-begun c.args.first c.args.tiles.now (g.E.EntryTaker.taken c.args.out.now)

pub entry-requires : goal.entry-requires
entry-requires g c =
    let fit = entries-fit c.args.first c.args.tiles.now (g.E.EntryTaker.taken c.args.out.now)
    (g.E.EntryTaker.taken c.loop-i.out) c.loop-i.offset c.loop-i.i (
      false,
      0,
    ) c.loop-i-test.true c.loop-i.invariant in
    omega (arith, fit, c.requires)

pub overflow_add-offset : goal.overflow_add-offset
overflow_add-offset g c =
    let fit = entries-fit c.args.first c.args.tiles.now (g.E.EntryTaker.taken c.args.out.now)
    (g.E.EntryTaker.taken c.loop-i.out) c.loop-i.offset c.loop-i.i (
      false,
      0,
    ) c.loop-i-test.true c.loop-i.invariant in
    omega (arith, fit, c.requires, c.from-offset.ensures)

pub loop-i-preserved : goal.loop-i-preserved
loop-i-preserved g c =
    entries-step c.args.first c.args.tiles.now (g.E.EntryTaker.taken c.args.out.now)
    (g.E.EntryTaker.taken c.loop-i.out)
    (g.E.EntryTaker.taken c.entry.new.self) c.loop-i.offset c.loop-i.i c.from-offset.result (false, 0)
    c.loop-i-test.true c.loop-i.invariant c.entry.ensures c.from-offset.ensures

pub returns : goal.returns
returns g c =
    entries-end c.args.first c.args.tiles.now (g.E.EntryTaker.taken c.args.out.now)
    (g.E.EntryTaker.taken c.loop-i.out) c.loop-i.offset c.loop-i.i c.loop-i-test.false c.loop-i.invariant
