use Rattle.std.proofs.Common.{rules, ◌≡◌, ap, subst, ◌∙◌}
use Rattle.spill_parts.specs.Parts.{Reading, GivesNext}
use Rattle.row_runs.proofs.Running.{running_now, tells_as_before}
use Rattle.row_runs.proofs.runs.Runs.pass.Goals as goal

pub returns-clause-running : goal.returns-clause-running
returns-clause-running g c =
    let reader : c.self.inside.reader ≡ c.args.self.now.reading = search rules in
    let is = c.requires.running in
    let tells = (g.P.Spill.state c.args.spill.now).tells in
    running_now g.N.Keyed.key_of c.args.self.now.reading.source c.args.self.now.reading.left _ c.next.new.page
    (g.P.Spill.state c.next.new.spill) tells (is.reading.given.0, is.reading.given.1) is.climbs is.few
    c.in_ok-self-inside.ensures.reading (tells_as_before (g.P.Spill.state c.args.spill.now) (g.P.Spill.state c.next.new.spill) c.next.ensures.same)
    (c.next.ensures.same_source ∙ ap (λ (r : Reading _). r.source) reader)
    (subst (λ (r : Reading _). GivesNext tells r.left c.in_ok-self-inside.field-0 c.next.new.self.left) reader
    c.in_ok-self-inside.ensures.next)
