use Rattle.std.proofs.Common.{rules, ◌≡◌, ◌≤◌, length, ap, sym, subst, ◌∙◌, refl, arith, mul-le-mul_left}
use Rattle.std.specs.Prelude.{◌==◌, find}
use Rattle.mf_edge.specs.Spill.{SpillState}
use Rattle.spill_parts.specs.Parts.{Part, Reading}
use Rattle.spill_parts.specs.Join.{rest_of, from_key}
use Rattle.spill_parts.proofs.Looked.{looking_now, found_held}
use Rattle.spill_parts.proofs.lookup.Lookup.find.Goals as goal

pub returns-clause-looking : goal.returns-clause-looking
returns-clause-looking g c =
    let reader : c.self.inside.reader ≡ c.args.self.now.reading = search rules in
    let held : c.self.inside.held ≡ c.args.self.now.held = search rules in
    looking_now g.N.Keyed.key_of c.args.self.now _ c.args.page.now c.pass_below.new.page
    (g.P.Spill.state c.args.spill.now) (g.P.Spill.state c.pass_below.new.spill) c.args.key
    c.requires.looking c.requires.climbs c.in_ok-self-inside.ensures.reading
    (ap (λ (s : SpillState). s.tells) c.pass_below.ensures.same) refl
    (c.pass_below.ensures.same_source ∙ ap (λ (r : Reading _). r.source) reader)
    (λ told. c.in_ok-self-inside.ensures.rest told
    ∙ (λ i. from_key g.N.Keyed.key_of c.args.key (rest_of (held i) ((reader i).left))))

pub returns-clause-found : goal.returns-clause-found
returns-clause-found g c told =
    let reader : c.self.inside.reader ≡ c.args.self.now.reading = search rules in
    let is = returns-clause-looking g c in
    let now = ap (λ (s : SpillState). s.tells) c.pass_below.ensures.same ∙ told in
    c.if_key.ensures
    ∙ found_held g.N.Keyed.key_of c.args.key c.in_ok-self-inside.field-0 c.pass_below.new.reader.left (is.rises now)
    c.in_ok-self-inside.ensures.stops
    ∙ is.finds now c.args.key (omega arith)
    ∙ ap (λ (p : Part _). find (λ n. g.N.Keyed.key_of n == c.args.key) p.rows)
    (c.pass_below.ensures.same_source ∙ ap (λ (r : Reading _). r.source) reader)

pub returns-clause-within : goal.returns-clause-within
returns-clause-within g c =
    let reader : c.self.inside.reader ≡ c.args.self.now.reading = search rules in
    c.in_ok-self-inside.ensures.within (mul-le-mul_left g.N.RowKind.kind.width
    (subst (λ (r : Reading _). r.loaded ≤ length r.source.rows) (sym reader) c.requires.looking.reading.some))
