use Rattle.std.proofs.Common.{sym, ap, ◌∙◌}
use Rattle.mf_edge.specs.Spill.{SpillState}
use Rattle.spill_parts.proofs.Looked.{looking_first, given_rest}
use Rattle.spill_parts.proofs.lookup.Lookup.start.Goals as goal

pub returns-clause-looking : goal.returns-clause-looking
returns-clause-looking g c =
    let tells = ap (λ (s : SpillState). s.tells) c.next.ensures.same in
    looking_first g.N.Keyed.key_of c.args.part.now _ c.next.new.page (g.P.Spill.state c.next.new.spill)
    c.in_ok-held.ensures.reading (λ told. c.requires.rises (sym tells ∙ told))
    (c.next.ensures.same_source ∙ c.start-reader.ensures.source)
    (λ told. given_rest c.in_ok-held.held c.next.new.self.left c.in_ok-held.ensures.next (sym tells ∙ told) ∙ c.start-reader.ensures.left)

pub next-requires-clause-reading : goal.next-requires-clause-reading
next-requires-clause-reading g c =
    c.start-reader.ensures.reading c.args.page.now (g.P.Spill.state c.args.spill.now) c.requires.held
