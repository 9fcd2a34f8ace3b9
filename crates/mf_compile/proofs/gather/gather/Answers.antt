use Rattle.std.proofs.Common.{◌∙◌, sym, ap, rules}
use Rattle.mf_edge.specs.Stream.{at}
use Rattle.job_words.specs.Shown.{settings_of}
use Rattle.mf_compile.proofs.Boxes.{box-rect}
use Rattle.mf_compile.proofs.Gathered.{ok-at, exact-ok, none-at, exact-none, err-exact}
use Rattle.mf_compile.proofs.gather.gather.Goals as goal

pub returns-in_err-found-clause-exact : goal.returns-in_err-found-clause-exact
returns-in_err-found-clause-exact g c all told =
    err-exact (settings_of c.args.settings.now) c.in_err-found.field-0.0 all c.from_residual.result
    c.from_residual.ensures.1
    (c.in_err-found.ensures.exact all (ap (λ s. s.left) c.new-input.ensures.source ∙ told))

pub returns-in-Some-clause-told : goal.returns-in-Some-clause-told
returns-in-Some-clause-told g c =
    ok-at (settings_of c.args.settings.now) c.in_ok-found.found c.in-Some.bounds
    (at g.S.Source.state c.new-input.result) (at g.S.Source.state c.ingest.new.src) c.new-input.ensures.source
    (search rules) c.ingest.ensures.walk c.in_ok-found.ensures.told (sym c.or.ensures ∙ c.in-Some.is)

pub returns-in-Some-clause-exact : goal.returns-in-Some-clause-exact
returns-in-Some-clause-exact g c all told =
    exact-ok (settings_of c.args.settings.now) c.in_ok-found.found c.in-Some.bounds all
    (c.in_ok-found.ensures.exact all (ap (λ s. s.left) c.new-input.ensures.source ∙ told))
    (sym c.or.ensures ∙ c.in-Some.is)

pub returns-in-Some-clause-on_earth : goal.returns-in-Some-clause-on_earth
returns-in-Some-clause-on_earth g c =
    box-rect c.args.settings.now.bounds c.in_ok-found.found.bounds c.in-Some.bounds c.requires.bounds
    c.in_ok-found.ensures.on_earth (sym c.or.ensures ∙ c.in-Some.is)

pub returns-in-None-clause-told : goal.returns-in-None-clause-told
returns-in-None-clause-told g c =
    none-at (settings_of c.args.settings.now) c.in_ok-found.found (at g.S.Source.state c.new-input.result)
    (at g.S.Source.state c.ingest.new.src) c.new-input.ensures.source (search rules) c.ingest.ensures.walk
    c.in_ok-found.ensures.told (sym c.or.ensures ∙ c.in-None.is)

pub returns-in-None-clause-exact : goal.returns-in-None-clause-exact
returns-in-None-clause-exact g c all told =
    exact-none (settings_of c.args.settings.now) c.in_ok-found.found all
    (c.in_ok-found.ensures.exact all (ap (λ s. s.left) c.new-input.ensures.source ∙ told))
    (sym c.or.ensures ∙ c.in-None.is)
