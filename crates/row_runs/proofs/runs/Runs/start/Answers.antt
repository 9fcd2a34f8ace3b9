use Rattle.std.proofs.Common.{sym, ◌∙◌, [], arith}
use Rattle.row_runs.proofs.Running.{running_now, few_rows, tells_as_before}
use Rattle.row_runs.proofs.runs.Runs.start.Goals as goal

pub next-requires-clause-reading : goal.next-requires-clause-reading
next-requires-clause-reading g c =
    c.start-reader.ensures.reading c.args.page.now (g.P.Spill.state c.args.spill.now) c.requires.held

pub returns-clause-running : goal.returns-clause-running
returns-clause-running g c =
    running_now g.N.Keyed.key_of c.args.part.now c.start-reader.result.left _ c.next.new.page
    (g.P.Spill.state c.next.new.spill) (g.P.Spill.state c.args.spill.now).tells ([], sym c.start-reader.ensures.left)
    c.requires.climbs
    (few_rows g.N.RowKind.kind.width _ _ (omega (arith, g.met.N.RowKind.laws.some, g.met.N.RowKind.laws.within))
    c.start-reader.ensures.small)
    c.in_ok-held.ensures.reading
    (tells_as_before (g.P.Spill.state c.args.spill.now) (g.P.Spill.state c.next.new.spill) c.next.ensures.same)
    (c.next.ensures.same_source ∙ c.start-reader.ensures.source) c.in_ok-held.ensures.next
