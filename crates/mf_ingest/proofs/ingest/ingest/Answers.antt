use Rattle.std.proofs.Common.{◌∙◌, subst, sym, ap, Ok, Err, rules}
use Rattle.mf_edge.specs.Stream.{at}
use Rattle.spill_parts.specs.Parts.{HasJust}
use Rattle.mf_ingest.specs.Gathered.{gathered_pieces, gathered_rows}
use Rattle.mf_ingest.specs.Ingesting.{HasIngested, HasFailed}
use Rattle.mf_ingest.specs.Ingest.{TellsIngest, TellsIngestOf, told_pass}
use Rattle.extract_pass.specs.EntityPass.{TellsPass, TellsPassOf}
use Rattle.mf_ingest.proofs.Ingesting.{ingests-none}
use Rattle.mf_ingest.proofs.Ingested.{IsFinished, tells-ok, exact-ok, tells-err, exact-err, box-rect, sizes-ok}
use Rattle.mf_ingest.proofs.Ingested.{err-same, stopped-is}
use Rattle.mf_ingest.proofs.ingest.ingest.Goals as goal

pub fill-requires-clause-begun : goal.fill-requires-clause-begun
fill-requires-clause-begun g c =
    let state = g.P.Spill.state in
    let first = c.new-ingester.result in
    let is = c.new-ingester.ensures in
    ingests-none state first (ap gathered_rows is.parts ∙ c.in-Ok.ensures.empty) is.counts
    (subst (HasJust (gathered_pieces first.parts)) (sym is.store)
    (subst (λ p. HasJust (gathered_pieces p) (state c.make.new.spill)) (sym is.parts) c.in-Ok.ensures.just))

pub returns-in-Ok-fill-clause-told : goal.returns-in-Ok-fill-clause-told
returns-in-Ok-fill-clause-told g c =
    let state = g.P.Spill.state in
    let first = c.new-ingester.result in
    let now = c.fill.new.ingester in
    let old = at g.S.Source.state c.args.src.now in
    let new = at g.S.Source.state c.fill.new.src in
    let finished : IsFinished now c.in-Ok-fill.bounds c.finish.result = record {
      counts = c.finish.ensures.counts;
      boxed = c.finish.ensures.bounds;
      rows = c.finish.ensures.rows;
    } in
    subst (λ m. TellsIngest m old (Ok c.finish.result) new) c.new-ingester.ensures.mapping
    (tells-ok state first now c.in-Ok-fill.bounds c.finish.result old new finished
    (subst (λ r. TellsPass (HasIngested state first now) (HasFailed state first now) old r new) c.in-Ok-fill.is
    c.fill.ensures.told))

pub returns-in-Ok-fill-clause-exact : goal.returns-in-Ok-fill-clause-exact
returns-in-Ok-fill-clause-exact g c all told =
    let state = g.P.Spill.state in
    let first = c.new-ingester.result in
    let now = c.fill.new.ingester in
    let finished : IsFinished now c.in-Ok-fill.bounds c.finish.result = record {
      counts = c.finish.ensures.counts;
      boxed = c.finish.ensures.bounds;
      rows = c.finish.ensures.rows;
    } in
    subst (λ m. TellsIngestOf m all (Ok c.finish.result)) c.new-ingester.ensures.mapping
    (exact-ok state first now c.in-Ok-fill.bounds c.finish.result all finished
    (subst (TellsPassOf (HasIngested state first now) (HasFailed state first now) all) c.in-Ok-fill.is
    (c.fill.ensures.exact all told)))

pub returns-in-Ok-fill-clause-sizes : goal.returns-in-Ok-fill-clause-sizes
returns-in-Ok-fill-clause-sizes g c all told =
    let state = g.P.Spill.state in
    let first = c.new-ingester.result in
    let now = c.fill.new.ingester in
    let finished : IsFinished now c.in-Ok-fill.bounds c.finish.result = record {
      counts = c.finish.ensures.counts;
      boxed = c.finish.ensures.bounds;
      rows = c.finish.ensures.rows;
    } in
    sizes-ok state first now c.in-Ok-fill.bounds c.finish.result all finished
    (subst (TellsPassOf (HasIngested state first now) (HasFailed state first now) all) c.in-Ok-fill.is
    (c.fill.ensures.exact all told))

pub returns-in-Ok-fill-clause-on_earth : goal.returns-in-Ok-fill-clause-on_earth
returns-in-Ok-fill-clause-on_earth g c =
    box-rect c.args.mapping.now c.finish.result (at g.S.Source.state c.args.src.now)
    (at g.S.Source.state c.fill.new.src) (returns-in-Ok-fill-clause-told g c)

pub returns-in-Err-fill-clause-told : goal.returns-in-Err-fill-clause-told
returns-in-Err-fill-clause-told g c =
    let state = g.P.Spill.state in
    let first = c.new-ingester.result in
    let now = c.fill.new.ingester in
    let old = at g.S.Source.state c.args.src.now in
    let new = at g.S.Source.state c.fill.new.src in
    subst (λ fault. TellsIngest c.args.mapping.now old (Err fault) new) (sym c.ingest_fault.ensures)
    (tells-err state first now c.in-Err-fill.fault c.args.mapping.now old new
    (subst (λ r. TellsPass (HasIngested state first now) (HasFailed state first now) old r new) c.in-Err-fill.is
    c.fill.ensures.told))

pub returns-in-Err-fill-clause-exact : goal.returns-in-Err-fill-clause-exact
returns-in-Err-fill-clause-exact g c all told =
    let state = g.P.Spill.state in
    let first = c.new-ingester.result in
    let now = c.fill.new.ingester in
    subst (λ fault. TellsIngestOf c.args.mapping.now all (Err fault)) (sym c.ingest_fault.ensures)
    (exact-err state first now c.in-Err-fill.fault c.args.mapping.now all
    (subst (TellsPassOf (HasIngested state first now) (HasFailed state first now) all) c.in-Err-fill.is
    (c.fill.ensures.exact all told)))

pub returns-in-Err-fill-clause-spill : goal.returns-in-Err-fill-clause-spill
returns-in-Err-fill-clause-spill g c told =
    let stopped = stopped-is c.in-Err-fill.fault (sym c.ingest_fault.ensures ∙ err-same _ _ told) in
    let one = c.fill.ensures.spill (c.in-Err-fill.is ∙ ap Err stopped) in
    search (rules, one)

pub returns-in-Err-fill-clause-same_store : goal.returns-in-Err-fill-clause-same_store
returns-in-Err-fill-clause-same_store g c other =
    let same = c.fill.ensures.same_store (λ stopped. other (ap Err (c.ingest_fault.ensures
    ∙ ap told_pass (err-same c.in-Err-fill.fault _ (sym c.in-Err-fill.is ∙ stopped))))) in
    search (rules, same)
