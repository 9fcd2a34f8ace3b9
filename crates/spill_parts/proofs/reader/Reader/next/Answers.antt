use Rattle.std.proofs.Common.{rules, Some, sym, ap, ◌∙◌}
use Rattle.mf_edge.specs.Spill.{SpillState}
use Rattle.spill_parts.specs.Parts.{IsReading, GivesNext}
use Rattle.spill_parts.proofs.Paged.{given_reading}
use Rattle.spill_parts.proofs.reader.Reader.next.Goals as goal

given : (g : _) (c : goal.After-give g)
    → IsReading g.K.RowKind.kind c.give.new.self c.ready.new.page (g.P.Spill.state c.ready.new.spill)
    × GivesNext (g.P.Spill.state c.ready.new.spill).tells c.ready.new.self.left
    (Some c.give.result) c.give.new.self.left
given g c =
    given_reading {kind =
    g.K.RowKind.kind} c.ready.new.self c.give.new.self c.ready.new.page
    (g.P.Spill.state c.ready.new.spill) c.give.result c.in_ok-ready.ensures.reading
    (search rules) c.give.ensures.row c.give.ensures.same_source c.give.ensures.left c.give.ensures.loaded
    c.give.ensures.waiting

pub returns-then-branch-clause-next : goal.returns-then-branch-clause-next
returns-then-branch-clause-next g c =
    let is = (given g c).1 in
    let tells = ap (λ (s : SpillState). s.tells) c.ready.ensures.same in
    (is.0, sym c.ready.ensures.left ∙ is.1, λ told. is.2 (tells ∙ told))

pub returns-then-branch-clause-reading : goal.returns-then-branch-clause-reading
returns-then-branch-clause-reading g c = (given g c).0
